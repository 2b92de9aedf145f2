-- Blocks that are put all at once.
use Rattle.std.proofs.Common.{◌≡◌, ◌≢◌, ◌≤◌, ◌<◌, ◌+◌, ◌-◌, ◌*◌, ℕ, List, [], ◌++◌, ◌⊎◌, inl, inr, length, take, drop, get_or, slice_index, arith, refl, sym, ap, subst, ◌∙◌, ⊎_elim}
use borrow.Rule.Slice.PartMut.{put_mid}
use Rattle.std.proofs.lemmas.Bool.{cases_lt}
use Rattle.std.proofs.lemmas.List.{get_or_append_left, get_or-append_right, get_or-take, get_or-drop, get_or_past, length-take-le, length-drop, length-append, drop-take}
use Rattle.std.proofs.lemmas.Slice.{take-put_mid_below, drop-put_mid}
use Rattle.picture_plane.specs.Blocks.{AreSamples, blocks_in, blocks_of, first_block}
use Rattle.picture_plane.specs.declared.planes.Plane.{Plane}
use Rattle.picture_plane.specs.declared.planes.Plane.TheVariants.{Y, Cb, Cr}

-- an element of a list with others in its middle stands among them or where it stood
put_place : (first count n : ℕ) (old new : List (List ℕ)) → length new ≡ count → first + count ≤ length old
    → (get_or (put_mid first count old new) n [] ≡ get_or old n [])
    ⊎ ((first ≤ n) × (n - first < count) × (get_or (put_mid first count old new) n [] ≡ get_or new (n - first) []))
put_place first count n old new same room =
    let behind : List (List ℕ) = drop count (drop first old) in
    let front : length (take first old) ≡ first = length-take-le first old (omega (arith, room)) in
    ⊎_elim
    (λ (lt : n < first). inl (get_or_append_left (take first old) (new ++ behind) [] n (omega (arith, lt, front)) ∙ get_or-take first old n [] lt))
    (λ (ge : first ≤ n).
    let second = get_or-append_right (take first old) (new ++ behind) first n [] front ge in
    ⊎_elim
    (λ (lt : n - first < count). inr (ge, lt, second ∙ get_or_append_left new behind [] (n - first) (omega (arith, lt, same))))
    (λ (past : count ≤ n - first). inl (second ∙ get_or-append_right new behind count (n - first) [] same past
    ∙ get_or-drop count (drop first old) (n - first - count) [] ∙ get_or-drop first old (count + (n - first - count)) []
    ∙ ap (λ (k : ℕ). get_or old k []) (omega (arith, ge, past))))
    (cases_lt (n - first) count))
    (cases_lt n first)

-- samples with blocks of samples put among them are samples
pub samples_put : (first count : ℕ) (old new : List (List ℕ)) → AreSamples old → length new ≡ count → first + count ≤ 64
    → ((b : ℕ) → b < length new → length (get_or new b []) ≡ 64)
    → ((b k : ℕ) → b < length new → k < 64 → slice_index (get_or new b []) k < 1024)
    → AreSamples (put_mid first count old new)
samples_put first count old new samples same room whole small =
    let fits : first + count ≤ length old = omega (arith, samples.blocks, room) in
    let front : length (take first old) ≡ first = length-take-le first old (omega (arith, fits)) in
    record {
      blocks = length-append (take first old) (new ++ drop count (drop first old))
          ∙ omega (arith, front, same, length-append new (drop count (drop first old)), length-drop count (drop first old), length-drop first old, samples.blocks, room);
      whole = λ n lt. ⊎_elim
          (λ (e : get_or (put_mid first count old new) n [] ≡ get_or old n []). ap length e ∙ samples.whole n lt)
          (λ (h : (first ≤ n) × (n - first < count) × (get_or (put_mid first count old new) n [] ≡ get_or new (n - first) [])).
          ap length h.2 ∙ whole (n - first) (omega (arith, h.1, same)))
          (put_place first count n old new same fits);
      small = λ n k. ⊎_elim
          (λ (e : get_or (put_mid first count old new) n [] ≡ get_or old n []). subst (λ (xs : List ℕ). slice_index xs k < 1024) (sym e) (samples.small n k))
          (λ (h : (first ≤ n) × (n - first < count) × (get_or (put_mid first count old new) n [] ≡ get_or new (n - first) [])).
          subst (λ (xs : List ℕ). slice_index xs k < 1024) (sym h.2) (small_at (get_or new (n - first) []) k (whole (n - first) (omega (arith, h.1, same)))
          (λ lt. small (n - first) k (omega (arith, h.1, same)) lt)))
          (put_place first count n old new same fits);
    }
  where
    small_at : (xs : List ℕ) (k : ℕ) → length xs ≡ 64 → (k < 64 → slice_index xs k < 1024) → slice_index xs k < 1024
    small_at xs k long at = ⊎_elim (λ (lt : k < 64). at lt)
        (λ (ge : 64 ≤ k). subst (λ (x : ℕ). x < 1024) (sym (get_or_past xs k 0 (omega (arith, ge, long)))) (omega arith))
        (cases_lt k 64)

-- a part of a list that ends before what is put
put_behind : (first count from n : ℕ) (old new : List (List ℕ)) → first ≤ length old → from + n ≤ first
    → take n (drop from (put_mid first count old new)) ≡ take n (drop from old)
put_behind first count from n old new room apart =
    sym (drop-take from n (put_mid first count old new))
    ∙ ap (drop from) (take-put_mid_below first count old new (from + n) apart room)
    ∙ drop-take from n old

-- a part that begins behind it
put_before : (first count from n : ℕ) (old new : List (List ℕ)) → first ≤ length old → length new ≡ count → first + count ≤ from
    → take n (drop from (put_mid first count old new)) ≡ take n (drop from old)
put_before first count from n old new room same apart = ap (take n) (drop-put_mid first count old new from apart room same)

-- the blocks of other planes stay
pub others_stay : (plane other : Plane) (count : ℕ) (old new : List (List ℕ)) → other ≢ plane → count ≤ 8 → length old ≡ 64
    → length new ≡ blocks_of plane count
    → blocks_in (put_mid (first_block plane) (blocks_of plane count) old new) other count ≡ blocks_in old other count
others_stay Y Y count old new apart few long same = absurd (apart refl)
others_stay Y Cb count old new apart few long same = put_before 0 (4 * count) 32 (2 * count) old new (omega arith) same (omega arith)
others_stay Y Cr count old new apart few long same = put_before 0 (4 * count) 48 (2 * count) old new (omega arith) same (omega arith)
others_stay Cb Y count old new apart few long same = put_behind 32 (2 * count) 0 (4 * count) old new (omega arith) (omega arith)
others_stay Cb Cb count old new apart few long same = absurd (apart refl)
others_stay Cb Cr count old new apart few long same = put_before 32 (2 * count) 48 (2 * count) old new (omega arith) same (omega arith)
others_stay Cr Y count old new apart few long same = put_behind 48 (2 * count) 0 (4 * count) old new (omega arith) (omega arith)
others_stay Cr Cb count old new apart few long same = put_behind 48 (2 * count) 32 (2 * count) old new (omega arith) (omega arith)
others_stay Cr Cr count old new apart few long same = absurd (apart refl)

-- fewer macroblocks have no more blocks
pub blocks_most : (plane : Plane) (count : ℕ) → count ≤ 8 → blocks_of plane count ≤ blocks_of plane 8
blocks_most Y count few = omega arith
blocks_most Cb count few = omega arith
blocks_most Cr count few = omega arith

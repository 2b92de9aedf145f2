-- The slices that are in, after one more comes in or a frame's leave.
use Rattle.std.proofs.Common.{◌≡◌, ℕ, zero, suc, ◌+◌, ◌*◌, ◌/◌, ◌%◌, ◌<◌, ◌≤◌, true, false, List, [], ◌∷◌, length, replicate, get_or, set, Option, Some, None, refl, sym, ap, subst, ◌∙◌, arith, inl, inr, length-set}
use Rattle.std.proofs.lemmas.Bool.{cases_eq, cases_lt}
use Rattle.std.proofs.lemmas.List.{get_or-set_same, get_or-set_other}
use Rattle.slice_desk.specs.Desks.{place_of, is_there, is_in, AreIn, Leaves}
use Rattle.slice_desk.specs.inner.Joins.{AreThere, AreThereFrom}
use Rattle.slice_desk.specs.inner.Keeping.{ArePlaced}

abbrev Key : Type 0
Key = Option (ℕ × ℕ)

abbrev key_or : Key → ℕ × ℕ
key_or (Some k) = k
key_or None = (0, 0)

get_none : (n k : ℕ) → get_or {A = Key} (replicate n None) k None ≡ None
get_none zero k = refl
get_none (suc n) zero = refl
get_none (suc n) (suc k) = get_none n k

-- of empty places none has a slice
pub none_placed : (slices lowest offered n : ℕ) (kept : List Key) → kept ≡ replicate n None → ArePlaced slices lowest offered kept
none_placed slices lowest offered n kept empty k f i e = absurd (differ (sym (ap (λ (l : List Key). get_or l k None) empty ∙ get_none n k) ∙ e))
  where
    differ : ◌≡◌ {A = Key} None (Some (f, i)) → ⊥
    differ e = cc

-- a slice more is placed
pub placed_more : (slices lowest offered : ℕ) (kept : List Key) (frame index : ℕ) → lowest ≤ frame → frame < offered → index < slices
    → place_of frame index < length kept → ArePlaced slices lowest offered kept
    → ArePlaced slices lowest offered (set kept (place_of frame index) (Some (frame, index)))
placed_more slices lowest offered kept frame index low high within long placed k f i e =
    let at : ℕ = place_of frame index in
    elim (cases_eq k at) [
      | inl same ↦
          let keys : (frame, index) ≡ (f, i) =
          ap key_or (sym (get_or-set_same kept at (Some (frame, index)) None long) ∙ ap (λ (n : ℕ). get_or (set kept at (Some (frame, index))) n None) (sym same) ∙ e) in
          subst (λ (p : ℕ × ℕ). (k ≡ place_of p.0 p.1) × (lowest ≤ p.0) × (p.0 < offered) × (p.1 < slices)) keys (same, low, high, within)
      | inr other ↦ placed k f i (sym (get_or-set_other kept at k (Some (frame, index)) None other) ∙ e)
    ]

-- what is there is a slice
there_is : (k : Key) → is_there k ≡ true → (p : ℕ × ℕ) × (k ≡ Some p)
there_is (Some p) e = (p, refl)
there_is None e = cc

-- the slices of a complete lowest frame lie at their places
pub lowest_there : (slices lowest offered : ℕ) (kept : List Key) → offered ≤ lowest + 4 → length kept ≡ 4 * slices → ArePlaced slices lowest offered kept
    → AreIn kept lowest slices → AreThere kept lowest slices
lowest_there slices lowest offered kept most long placed all = record { long = long; there = there }
  where
    there : AreThereFrom kept lowest 0 slices
    there index low high =
        let at : ℕ = place_of lowest index in
        let found = there_is (get_or kept at None) (all index high) in
        let is = placed at found.0.0 found.0.1 found.1 in
        let frame : found.0.0 ≡ lowest = omega (arith, is.0, is.1, is.2, most) in
        let same : found.0.1 ≡ index = omega (arith, is.0, frame) in
        found.1 ∙ ap Some (λ j. (frame j, same j))

-- a complete frame was offered
pub lowest_offered : (slices lowest offered : ℕ) (kept : List Key) → 0 < slices → ArePlaced slices lowest offered kept → AreIn kept lowest slices → lowest < offered
lowest_offered slices lowest offered kept some placed all =
    let found = there_is (get_or kept (place_of lowest 0) None) (all 0 some) in
    let is = placed (place_of lowest 0) found.0.0 found.0.1 found.1 in omega (arith, is.1, is.2)

-- the slices of a frame from an index on are there, and all before have left
pub record IsLeft (old new : List Key) (frame index slices : ℕ) : Type 0 where
  pub long : length new ≡ length old
  pub there : AreThereFrom new frame index slices
  pub gone : (i : ℕ) → i < index → is_in new frame i ≡ false
  pub others : (place : ℕ) → (place % 4 ≡ frame % 4 → ⊥) → get_or new place None ≡ get_or old place None

pub none_left : (old : List Key) (frame slices : ℕ) → AreThere old frame slices → IsLeft old old frame 0 slices
none_left old frame slices all = record { long = refl; there = all.there; gone = λ i lt. absurd (omega (arith, lt)); others = λ place other. refl }

-- the next slice leaves
pub one_left : (old kept : List Key) (frame index slices : ℕ) → index < slices → length old ≡ 4 * slices → IsLeft old kept frame index slices
    → IsLeft old (set kept (place_of frame index) None) frame (index + 1) slices
one_left old kept frame index slices lt size left = record { long = length-set kept at None ∙ left.long; there = there; gone = gone; others = others }
  where
    at : ℕ
    at = place_of frame index

    inside : at < length kept
    inside = omega (arith, lt, size, left.long)

    there : AreThereFrom (set kept at None) frame (index + 1) slices
    there i low high =
        let apart : place_of frame i ≡ at → ⊥ = λ e. absurd (omega (arith, e, low)) in
        get_or-set_other kept at (place_of frame i) None None apart ∙ left.there i (omega (arith, low)) high

    gone : (i : ℕ) → i < index + 1 → is_in (set kept at None) frame i ≡ false
    gone i below = elim (cases_eq i index) [
      | inl same ↦ ap is_there (ap (λ (k : ℕ). get_or (set kept at None) (place_of frame k) None) same ∙ get_or-set_same kept at None None inside)
      | inr other ↦
          let apart : place_of frame i ≡ at → ⊥ = λ e. other (omega (arith, e)) in
          ap is_there (get_or-set_other kept at (place_of frame i) None None apart) ∙ left.gone i (omega (arith, below, other))
    ]

    others : (place : ℕ) → (place % 4 ≡ frame % 4 → ⊥) → get_or (set kept at None) place None ≡ get_or old place None
    others place other =
        let apart : place ≡ at → ⊥ = λ e. other (omega (arith, e)) in
        get_or-set_other kept at place None None apart ∙ left.others place other

-- once all have left, the slices that are in are of higher frames
pub all_left : (old new : List Key) (frame slices : ℕ) → IsLeft old new frame slices slices → Leaves old new frame slices
all_left old new frame slices left = record { gone = left.gone; others = left.others }

nothing_there : (xs : List Key) (k : ℕ) → length xs ≤ k → get_or xs k None ≡ None
nothing_there [] k out = refl
nothing_there (x ∷ xs) zero out = absurd (omega (arith, out))
nothing_there (x ∷ xs) (suc k) out = nothing_there xs k (omega (arith, out))

pub placed_after : (old new : List Key) (slices lowest offered : ℕ) → length new ≡ 4 * slices → ArePlaced slices lowest offered old → Leaves old new lowest slices
    → ArePlaced slices (lowest + 1) offered new
placed_after old new slices lowest offered long placed left k f i e = elim (cases_eq (k % 4) (lowest % 4)) [
  | inl same ↦ absurd (elim (cases_lt k (4 * slices)) [
    | inl inside ↦ clash k f i e same inside
    | inr out ↦ differ f i (sym (nothing_there new k (omega (arith, long, out))) ∙ e)
  ])
  | inr other ↦
      let is = placed k f i (sym (left.others k other) ∙ e) in
      (is.0, omega (arith, is.0, is.1, other), is.2, is.3)
]
  where
    differ : (f i : ℕ) → ◌≡◌ {A = Key} None (Some (f, i)) → ⊥
    differ f i e = cc

    clash : (k f i : ℕ) → get_or new k None ≡ Some (f, i) → k % 4 ≡ lowest % 4 → k < 4 * slices → ⊥
    clash k f i e same inside =
        let at : k ≡ place_of lowest (k / 4) = omega (arith, same) in
        let none : is_in new lowest (k / 4) ≡ false = left.gone (k / 4) (omega (arith, inside)) in
        let some : is_in new lowest (k / 4) ≡ true = ap (λ (n : ℕ). is_there (get_or new n None)) (sym at) ∙ ap is_there e in
        cc

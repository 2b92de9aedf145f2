-- The slices of a coded picture one by one, and those of a frame.
use Rattle.std.proofs.Common.{◌≡◌, ℕ, zero, suc, ◌+◌, ◌-◌, ◌*◌, ◌<◌, ◌==◌, List, [], ◌∷◌, ◌++◌, Bool, true, false, Option, length, append_assoc, take, drop, get_or, refl, sym, ap, ap₂, subst, ◌∙◌, arith, inl, inr, if◌then◌else◌}
use Rattle.std.proofs.lemmas.Bool.{cases_lt, ne_eqb, eq-eqb}
use Rattle.std.proofs.lemmas.List.{append-nil, drop_at, take_at, length-append, map-append, get_or_append_left, get_or-append_right}
use Rattle.std.proofs.lemmas.Grind.{flat_map-append}
use Rattle.rec_bytes.specs.Configuration.{Fields}
use Rattle.picture_plane.specs.Pictures.{Planes}
use Rattle.picture_plane.specs.Sizes.{size_of}
use Rattle.frame_syntax.specs.Written.{joined, lengths, picture_bytes, pictures_bytes}
use Rattle.frame_codec.specs.Coded.{AreCodedSlices}
use Rattle.slice_desk.specs.Slices.{slices_of, slices_in_picture, IsCodedFor}
use Rattle.slice_desk.specs.Told.{IsTold}
use Rattle.slice_desk.specs.inner.Joins.{AreCodedFrom, IsPicturePut, ArePicturesPut}

-- one more slice, joined
pub joined_more : (slices : List (List ℕ)) (slice : List ℕ) → joined (slices ++ slice ∷ []) ≡ joined slices ++ slice
joined_more slices slice = flat_map-append (λ (s : List ℕ). s) slices (slice ∷ []) ∙ ap (λ (xs : List ℕ). joined slices ++ xs) (append-nil slice)

-- and its length
pub lengths_more : (slices : List (List ℕ)) (slice : List ℕ) → lengths (slices ++ slice ∷ []) ≡ lengths slices ++ length slice ∷ []
lengths_more slices slice = map-append (λ (s : List ℕ). length s) slices (slice ∷ [])

-- before the first slice there is none
pub none_coded : (told : Option (List ℕ)) (config : Fields) (frame from : ℕ) → AreCodedFrom told config frame from 0 []
none_coded told config frame from = record { counted = refl; each = λ n lt. absurd (omega (arith, lt)) }

-- runs of slices one behind the other
pub both_coded : (told : Option (List ℕ)) (config : Fields) (frame from a b : ℕ) (xs ys : List (List ℕ)) → AreCodedFrom told config frame from a xs
    → AreCodedFrom told config frame (from + a) b ys → AreCodedFrom told config frame from (a + b) (xs ++ ys)
both_coded told config frame from a b xs ys first second = record {
  counted = omega (arith, length-append xs ys, first.counted, second.counted);
  each = λ n lt. elim (cases_lt n a) [
    | inl before ↦ subst (IsCodedFor told config frame (from + n)) (sym (get_or_append_left xs ys [] n (omega (arith, before, first.counted)))) (first.each n before)
    | inr ge ↦
        let here : (from + a) + (n - a) ≡ from + n = omega (arith, ge) in
        let slice : List ℕ = get_or ys (n - a) [] in
        let coded : IsCodedFor told config frame (from + n) slice =
        subst (λ (k : ℕ). IsCodedFor told config frame k slice) here (second.each (n - a) (omega (arith, lt, ge))) in
        subst (IsCodedFor told config frame (from + n)) (sym (get_or-append_right xs ys a n [] first.counted ge)) coded
  ];
}

-- one slice more
pub coded_more : (told : Option (List ℕ)) (config : Fields) (frame from count : ℕ) (slices : List (List ℕ)) (slice : List ℕ)
    → AreCodedFrom told config frame from count slices → IsCodedFor told config frame (from + count) slice
    → AreCodedFrom told config frame from (count + 1) (slices ++ slice ∷ [])
coded_more told config frame from count slices slice are coded =
    both_coded told config frame from count 1 slices (slice ∷ []) are (record { counted = refl; each = λ n lt. first n lt })
  where
    first : (n : ℕ) → n < 1 → IsCodedFor told config frame ((from + count) + n) (get_or (slice ∷ []) n [])
    first zero lt = subst (λ (k : ℕ). IsCodedFor told config frame k slice) (omega arith) coded
    first (suc n) lt = absurd (omega (arith, lt))

-- the slices of the only coded picture are those of the frame
pub one_picture : (told : Option (List ℕ)) (config : Fields) (frame start end : ℕ) (old new : List ℕ) → config.interlace ≡ 0
    → IsPicturePut told config frame 0 start end old new → ArePicturesPut told config frame start end old new
one_picture told config frame start end old new one put =
    let test : (config.interlace == 0) ≡ true = eq-eqb config.interlace 0 one in
    let per : ℕ = slices_in_picture config in
    let slices : List (List ℕ) = put.slices in
    let all : per ≡ slices_of config = sym (ap (λ (b : Bool). (if b then 1 else 2) * per) test ∙ omega arith) in
    let none : 0 * per ≡ 0 = omega arith in
    let coded : AreCodedFrom told config frame 0 per slices = subst (λ (n : ℕ). AreCodedFrom told config frame n per slices) none put.coded in
    record {
      slices = slices;
      coded = subst (λ (n : ℕ). AreCodedFrom told config frame 0 n slices) all coded;
      put = put.put ∙ ap (λ (xs : List ℕ). take start old ++ xs)
          (sym (ap (λ (b : Bool). if b then picture_bytes config.log2 slices else picture_bytes config.log2 (take per slices) ++ picture_bytes config.log2 (drop per slices)) test));
    }

-- and so are those of two fields
pub two_pictures : (told : Option (List ℕ)) (config : Fields) (frame start next end : ℕ) (old mid new : List ℕ) → (config.interlace ≡ 0 → ⊥)
    → IsPicturePut told config frame 0 start next old mid → IsPicturePut told config frame 1 next end mid new → ArePicturesPut told config frame start end old new
two_pictures told config frame start next end old mid new two first second =
    let test : (config.interlace == 0) ≡ false = ne_eqb config.interlace 0 two in
    let log2 : ℕ = config.log2 in
    let per : ℕ = slices_in_picture config in
    let a : List (List ℕ) = first.slices in
    let b : List (List ℕ) = second.slices in
    let front : take per (a ++ b) ≡ a = take_at a b per first.coded.counted in
    let rest : drop per (a ++ b) ≡ b = drop_at a b per first.coded.counted in
    let bytes : pictures_bytes (size_of config) log2 (a ++ b) ≡ picture_bytes log2 a ++ picture_bytes log2 b =
    ap (λ (k : Bool). if k then picture_bytes log2 (a ++ b) else picture_bytes log2 (take per (a ++ b)) ++ picture_bytes log2 (drop per (a ++ b))) test
    ∙ ap₂ (λ (xs ys : List (List ℕ)). picture_bytes log2 xs ++ picture_bytes log2 ys) front rest in
    let all : per + per ≡ slices_of config = sym (ap (λ (k : Bool). (if k then 1 else 2) * per) test ∙ omega arith) in
    let none : 0 * per ≡ 0 = omega arith in
    let before : AreCodedFrom told config frame 0 per a = subst (λ (n : ℕ). AreCodedFrom told config frame n per a) none first.coded in
    let next_is : 1 * per ≡ 0 + per = omega arith in
    let behind : AreCodedFrom told config frame (0 + per) per b = subst (λ (n : ℕ). AreCodedFrom told config frame n per b) next_is second.coded in
    record {
      slices = a ++ b;
      coded = subst (λ (n : ℕ). AreCodedFrom told config frame 0 n (a ++ b)) all (both_coded told config frame 0 per per a b before behind);
      put = second.put ∙ (ap (λ (xs : List ℕ). xs ++ picture_bytes log2 b) first.put ∙ (append_assoc (take start old) (picture_bytes log2 a) (picture_bytes log2 b)
          ∙ ap (λ (xs : List ℕ). take start old ++ xs) (sym bytes)));
    }

-- slices of the frame are those of its picture, where it is told
pub slices_of_picture : (told : Option (List ℕ)) (config : Fields) (frame : ℕ) (slices : List (List ℕ)) (picture : Planes)
    → AreCodedFrom told config frame 0 (slices_of config) slices → IsTold told config frame picture → AreCodedSlices config picture slices
slices_of_picture told config frame slices picture are is_told = record {
  counted = are.counted;
  each = λ index name lt named.
      let here : 0 + index ≡ index = omega arith in
      subst (λ (k : ℕ). IsCodedFor told config frame k (get_or slices index [])) here (are.each index (omega (arith, lt, are.counted))) picture name is_told named;
}

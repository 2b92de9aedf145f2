-- The slices of a coded picture one by one, and those of a frame.
use Rattle.std.proofs.Common.{◌≡◌, ℕ, ◌+◌, ◌-◌, ◌*◌, ◌/◌, ◌%◌, ◌<◌, ◌==◌, List, [], ◌∷◌, ◌++◌, Bool, true, false, length, append_assoc, take, drop, get_or, refl, sym, ap, ap₂, subst, ◌∙◌, arith, inl, inr, if◌then◌else◌}
use Rattle.std.proofs.lemmas.Bool.{cases_lt, ne_eqb, eq-eqb}
use Rattle.std.proofs.lemmas.List.{append-nil, drop_at, take_at, length-append, map-append, get_or_append_left, get_or-append_right, get_or_at}
use Rattle.std.proofs.lemmas.Grind.{flat_map-append}
use Rattle.std.proofs.lemmas.Nat.{div-mul-add, mod-mul-add}
use Rattle.rec_bytes.specs.Configuration.{Fields}
use Rattle.picture_plane.specs.Pictures.{Planes}
use Rattle.picture_plane.specs.Sizes.{size_of}
use Rattle.picture_plane.specs.Slices.{Size, IsSlice, IsFrameSlice}
use Rattle.picture_plane.specs.declared.slice_names.SliceName.{SliceName}
use Rattle.frame_syntax.specs.Written.{joined, lengths, picture_bytes, pictures_bytes}
use Rattle.frame_codec.specs.Coded.{IsCodedCut}
use Rattle.frame_codec.specs.Sources.{slices_of, IsNamed}
use Rattle.frame_codec.specs.inner.Writing.{AreFirstSlices, IsPicturePut, ArePicturesPut}

-- one more slice, joined
pub joined_more : (slices : List (List ℕ)) (slice : List ℕ) → joined (slices ++ slice ∷ []) ≡ joined slices ++ slice
joined_more slices slice = flat_map-append (λ (s : List ℕ). s) slices (slice ∷ []) ∙ ap (λ (xs : List ℕ). joined slices ++ xs) (append-nil slice)

-- and its length
pub lengths_more : (slices : List (List ℕ)) (slice : List ℕ) → lengths (slices ++ slice ∷ []) ≡ lengths slices ++ length slice ∷ []
lengths_more slices slice = map-append (λ (s : List ℕ). length s) slices (slice ∷ [])

-- a slice of a number has one name
one_name : (size : Size) (log2 number n : ℕ) (a b : SliceName) → IsSlice size log2 number n a → IsSlice size log2 number n b → a ≡ b
one_name size log2 number n a b p q = same (p.field ∙ sym q.field) (p.row ∙ sym q.row) (p.first ∙ sym q.first) (p.count ∙ sym q.count)
  where
    same : a.field ≡ b.field → a.row ≡ b.row → a.first ≡ b.first → a.count ≡ b.count → a ≡ b
    same field row first count = λ i. record { field = field i; row = row i; first = first i; count = count i }

-- what is coded by one name of a slice is so by any
pub coded_by_any : (fields : Fields) (picture : Planes) (number n : ℕ) (name other : SliceName) (bytes : List ℕ) → IsNamed fields number n name
    → IsCodedCut fields picture name bytes → IsNamed fields number n other → IsCodedCut fields picture other bytes
coded_by_any fields picture number n name other bytes is coded also =
    subst (λ (x : SliceName). IsCodedCut fields picture x bytes) (one_name (size_of fields) fields.log2 number n name other is also) coded

-- before the first slice there is none
pub none_coded : (fields : Fields) (picture : Planes) (number : ℕ) → AreFirstSlices fields picture number 0 []
none_coded fields picture number = record { counted = refl; each = λ n name lt is. absurd (omega (arith, lt)) }

-- one slice more
pub coded_more : (fields : Fields) (picture : Planes) (number count : ℕ) (slices : List (List ℕ)) (slice : List ℕ) → AreFirstSlices fields picture number count slices
    → ((name : SliceName) → IsNamed fields number count name → IsCodedCut fields picture name slice)
    → AreFirstSlices fields picture number (count + 1) (slices ++ slice ∷ [])
coded_more fields picture number count slices slice are coded = record {
  counted = omega (arith, length-append slices (slice ∷ []), are.counted);
  each = λ n name lt is. elim (cases_lt n count) [
    | inl before ↦ subst (IsCodedCut fields picture name) (sym (get_or_append_left slices (slice ∷ []) [] n (omega (arith, before, are.counted)))) (are.each n name before is)
    | inr ge ↦
        let last : n ≡ count = omega (arith, lt, ge) in
        let found : get_or (slices ++ slice ∷ []) n [] ≡ slice = get_or_at slices slice [] [] n (are.counted ∙ sym last) in
        subst (IsCodedCut fields picture name) (sym found) (coded name (subst (λ (k : ℕ). IsNamed fields number k name) last is))
  ];
}

-- a slice of the frame is one of a coded picture
in_picture : (fields : Fields) (picture : Planes) (number n index : ℕ) (name : SliceName) (bytes : List ℕ) → index ≡ number * slices_of fields + n
    → n < slices_of fields → (IsNamed fields number n name → IsCodedCut fields picture name bytes)
    → IsFrameSlice (size_of fields) fields.log2 index name → IsCodedCut fields picture name bytes
in_picture fields picture number n index name bytes e lt coded is =
    let per : ℕ = slices_of fields in
    let at : index / per ≡ number = ap (λ (k : ℕ). k / per) e ∙ div-mul-add number per n lt in
    let place : index % per ≡ n = ap (λ (k : ℕ). k % per) e ∙ mod-mul-add number per n lt in
    coded (subst (λ (k : ℕ). IsNamed fields number k name) place (subst (λ (k : ℕ). IsNamed fields k (index % per) name) at is))

-- the slices of the only coded picture are those of the frame
pub one_picture : (fields : Fields) (picture : Planes) (start end : ℕ) (old new : List ℕ) → fields.interlace ≡ 0
    → IsPicturePut fields picture 0 start end old new → ArePicturesPut fields picture start end old new
one_picture fields picture start end old new one put =
    let test : (fields.interlace == 0) ≡ true = eq-eqb fields.interlace 0 one in
    let per : ℕ = slices_of fields in
    let slices : List (List ℕ) = put.slices in
    record {
      slices = slices;
      coded = record {
        counted = put.coded.counted ∙ sym (ap (λ (b : Bool). (if b then 1 else 2) * per) test ∙ omega arith);
        each = λ index name lt is. in_picture fields picture 0 index index name (get_or slices index []) (omega arith) (omega (arith, lt, put.coded.counted))
            (put.coded.each index name (omega (arith, lt, put.coded.counted))) is;
      };
      put = put.put ∙ ap (λ (xs : List ℕ). take start old ++ xs)
          (sym (ap (λ (b : Bool). if b then picture_bytes fields.log2 slices else picture_bytes fields.log2 (take per slices) ++ picture_bytes fields.log2 (drop per slices)) test));
    }

-- and so are those of two fields
pub two_pictures : (fields : Fields) (picture : Planes) (start next end : ℕ) (old mid new : List ℕ) → (fields.interlace ≡ 0 → ⊥)
    → IsPicturePut fields picture 0 start next old mid → IsPicturePut fields picture 1 next end mid new → ArePicturesPut fields picture start end old new
two_pictures fields picture start next end old mid new two first second =
    let test : (fields.interlace == 0) ≡ false = ne_eqb fields.interlace 0 two in
    let log2 : ℕ = fields.log2 in
    let per : ℕ = slices_of fields in
    let a : List (List ℕ) = first.slices in
    let b : List (List ℕ) = second.slices in
    let front : take per (a ++ b) ≡ a = take_at a b per first.coded.counted in
    let rest : drop per (a ++ b) ≡ b = drop_at a b per first.coded.counted in
    let bytes : pictures_bytes (size_of fields) log2 (a ++ b) ≡ picture_bytes log2 a ++ picture_bytes log2 b =
    ap (λ (k : Bool). if k then picture_bytes log2 (a ++ b) else picture_bytes log2 (take per (a ++ b)) ++ picture_bytes log2 (drop per (a ++ b))) test
    ∙ ap₂ (λ (xs ys : List (List ℕ)). picture_bytes log2 xs ++ picture_bytes log2 ys) front rest in
    let long : length (a ++ b) ≡ 2 * per = omega (arith, length-append a b, first.coded.counted, second.coded.counted) in
    record {
      slices = a ++ b;
      coded = record {
        counted = long ∙ sym (ap (λ (k : Bool). (if k then 1 else 2) * per) test);
        each = λ index name lt is. elim (cases_lt index per) [
          | inl before ↦ in_picture fields picture 0 index index name (get_or (a ++ b) index []) (omega arith) before
              (λ s. subst (IsCodedCut fields picture name) (sym (get_or_append_left a b [] index (omega (arith, before, first.coded.counted)))) (first.coded.each index name before s)) is
          | inr ge ↦
              let n : ℕ = index - per in
              let within : n < per = omega (arith, lt, long, ge) in
              in_picture fields picture 1 n index name (get_or (a ++ b) index []) (omega (arith, ge)) within
              (λ s. subst (IsCodedCut fields picture name) (sym (get_or-append_right a b per index [] first.coded.counted ge)) (second.coded.each n name within s)) is
        ];
      };
      put = second.put ∙ (ap (λ (xs : List ℕ). xs ++ picture_bytes log2 b) first.put ∙ (append_assoc (take start old) (picture_bytes log2 a) (picture_bytes log2 b)
          ∙ ap (λ (xs : List ℕ). take start old ++ xs) (sym bytes)));
    }

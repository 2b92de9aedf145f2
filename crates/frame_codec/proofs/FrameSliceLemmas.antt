-- Lemmas on the slices of a coded frame.
use Rattle.std.proofs.Common.{◌≡◌, ◌<◌, ◌≤◌, ◌+◌, ◌*◌, ◌/◌, ◌%◌, ℕ, List, [], length, take, get_or, refl, sym, ap, subst, arith, inl, inr}
use Rattle.std.specs.Prelude.{sum}
use Rattle.std.proofs.lemmas.Bool.{cases_lt}
use Rattle.std.proofs.lemmas.Nat.{mul-add-lt, div-mul-add, mod-mul-add, mod_below}
use Rattle.rec_bytes.specs.Configuration.{Fields}
use Rattle.picture_plane.specs.Pictures.{Planes}
use Rattle.picture_plane.specs.Sizes.{size_of}
use Rattle.picture_plane.specs.Slices.{Size, picture_count, row_widths, slices_per_picture, slice_total, field_of, IsSlice, IsFrameSlice}
use Rattle.picture_plane.specs.declared.slice_names.SliceName.{SliceName}
use Rattle.picture_plane.specs.laws.SliceLaws.{slice_fits}
use Rattle.frame_codec.specs.Coded.{IsCodedCut, AreCodedSlices}

-- the number in its frame of the n-th slice of a coded picture, where all are cut alike
abbrev pub frame_number : Size → ℕ → ℕ → ℕ → ℕ
frame_number size log2 picture n = picture * slices_per_picture size log2 + n

-- a slice of a coded picture is the frame's slice of its number
pub record IsNumbered (size : Size) (log2 picture n : ℕ) (name : SliceName) : Type 0 where
  pub within : frame_number size log2 picture n < slice_total size log2
  pub named : IsFrameSlice size log2 (frame_number size log2 picture n) name

pub slice_is_numbered : (size : Size) (log2 picture n : ℕ) (name : SliceName) → picture < picture_count size → IsSlice size log2 picture n name
    → IsNumbered size log2 picture n name
slice_is_numbered size log2 picture n name there s =
    let per : ℕ = slices_per_picture size log2 in
    let row = div-mul-add picture per n s.within in
    let place = mod-mul-add picture per n s.within in
    record {
      within = omega (arith, mul-add-lt picture per n (picture_count size) there s.within);
      named = subst (λ (p : ℕ). IsSlice size log2 p ((picture * per + n) % per) name) (sym row)
          (subst (λ (m : ℕ). IsSlice size log2 picture m name) (sym place) s);
    }

some_slices : (count per index : ℕ) → index < count * per → 0 < per
some_slices count per index h =
    elim (cases_lt 0 per) [
      | inl some ↦ some
      | inr none ↦
          let nothing : count * per ≡ count * 0 = ap (λ (k : ℕ). count * k) (omega arith) in
          absurd (omega (arith, nothing, h))
    ]

-- each number has its slice
pub slice_of_number : (size : Size) (log2 index : ℕ) → index < slice_total size log2 → (name : SliceName) × IsFrameSlice size log2 index name
slice_of_number size log2 index h =
    let per : ℕ = slices_per_picture size log2 in
    let widths : List ℕ = row_widths size log2 in
    let at : ℕ = index % per % length widths in (
      record { field = field_of size.interlace (index / per); row = index % per / length widths; first = sum (take at widths); count = get_or widths at 0 },
      record { within = mod_below index per (some_slices (picture_count size) per index h); field = refl; row = refl; first = refl; count = refl },
    )

-- a slice has 8 macroblocks at most
pub few_macroblocks : (size : Size) (log2 picture n : ℕ) (name : SliceName) → log2 ≤ 3 → IsSlice size log2 picture n name → name.count ≤ 8
few_macroblocks size log2 picture n name small s = (slice_fits size log2 picture n name small s).most

-- what the frame has for a slice of a coded picture
pub cut_of : (fields : Fields) (source : Planes) (slices : List (List ℕ)) (picture n : ℕ) (name : SliceName) → AreCodedSlices fields source slices
    → picture < picture_count (size_of fields) → IsSlice (size_of fields) fields.log2 picture n name
    → IsCodedCut fields source name (get_or slices (frame_number (size_of fields) fields.log2 picture n) [])
cut_of fields source slices picture n name coded there named =
    let size = size_of fields in
    let at = slice_is_numbered size fields.log2 picture n name there named in
    let number : ℕ = frame_number size fields.log2 picture n in
    coded.each number name (subst (λ (k : ℕ). number < k) (sym coded.counted) at.within) at.named

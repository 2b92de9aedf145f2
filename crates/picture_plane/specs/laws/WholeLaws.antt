-- Laws of what all slices of a frame show: proved here, for proofs to cite.
use Rattle.std.specs.Prelude.{slice_index, sum}
use Rattle.std.proofs.lemmas.List.{get_or_append_left, get_or-append_right, get_or_past, length-append}
use Rattle.std.proofs.Common.{◌≡◌, ℕ, zero, suc, [], ◌∷◌, ◌++◌, ◌⊎◌, ◌≤◌, refl, take, ◌+◌, ◌-◌, ◌/◌, ◌%◌, ◌<◌, List, length, sym, ap, ◌∙◌, arith, inl, inr, subst, get_or, ap₂}
use Rattle.std.proofs.lemmas.Bool.{cases_lt}
use Rattle.picture_plane.specs.declared.planes.Plane.{Plane}
use Rattle.picture_plane.specs.declared.planes.Plane.TheVariants.{Y, Cb, Cr}
use Rattle.picture_plane.specs.Blocks.{column_of, first_block, frame_row, line_of, sample_of, IsInside}
use Rattle.picture_plane.specs.declared.slice_names.SliceName.{SliceName}
use Rattle.picture_plane.specs.Covering.{IsShownOf, IsSpot, ShowAlike, ShownSlices, SlicesHave, Spot}
use Rattle.picture_plane.specs.Pictures.{columns, plane_len, plane_start, row_start, sample_at, sample_count, IsPicture, Planes}
use Rattle.picture_plane.specs.laws.PictureLaws.{row_room, some_columns}
use Rattle.std.proofs.lemmas.Grind.{same_number_lists}
use Rattle.std.proofs.lemmas.Nat.{div_below, mod_below, div-add-mod'}
use Rattle.picture_plane.specs.Sizes.{IsSize}
use Rattle.picture_plane.specs.Slices.{Size, IsSlice, field_of, picture_count, row_widths, slices_per_picture}
use Rattle.picture_plane.specs.laws.CoverLaws.{one_name, one_spot, slice_field, spot_of}
use Rattle.picture_plane.specs.laws.PlaceLaws.{IsSamePlace, frame_row_below, same_place}

-- the sample that stands at a place among all samples
record IsSampleAt (size : Size) (k : ℕ) : Type 0 where
  pub plane : Plane
  pub row : ℕ
  pub column : ℕ
  pub below : row < size.height
  pub within : column < columns size plane
  pub place : k ≡ row_start size plane row + column

sample_in : (size : Size) (plane : Plane) (k at : ℕ) → IsSize size → k ≡ plane_start size plane + at → at < plane_len size plane → IsSampleAt size k
sample_in size plane k at is_size e h =
    let wide = columns size plane in let some = some_columns size plane is_size in
    record {
      plane = plane;
      row = at / wide;
      column = at % wide;
      below = div_below at wide size.height some h;
      within = mod_below at wide some;
      place = e ∙ omega (arith, div-add-mod' at wide);
    }

sample_place : (size : Size) (k : ℕ) → IsSize size → k < sample_count size → IsSampleAt size k
sample_place size k is_size h =
    elim (cases_lt k (plane_start size Cb)) [
      | inl luma ↦ sample_in size Y k k is_size (omega arith) luma
      | inr past ↦ elim (cases_lt k (plane_start size Cr)) [
        | inl blue ↦ sample_in size Cb k (k - plane_start size Cb) is_size (omega arith) (omega arith)
        | inr red ↦ sample_in size Cr k (k - plane_start size Cr) is_size (omega arith) (omega arith)
      ]
    ]

planes_with : Size → List ℕ → Planes
planes_with size samples = record { size = size; samples = samples }

same_planes : (a b : Planes) → a.size ≡ b.size → a.samples ≡ b.samples → a ≡ b
unfolding planes_with
same_planes a b size samples = ap₂ planes_with size samples

-- pictures that show the same samples in each slice have the same sample everywhere
samples_agree : (log2 : ℕ → ℕ) (a b : Planes) → a.size ≡ b.size → IsSize a.size → ShowAlike log2 a b
    → (plane : Plane) (row column : ℕ) → row < a.size.height → column < columns a.size plane → sample_at a plane row column ≡ sample_at b plane row column
samples_agree log2 a b size is_size alike plane row column below within =
    let found = spot_of a.size log2 plane row column is_size below within in
    let spot = found.0 in let is_spot = found.1 in
    let shown = alike spot.picture spot.n spot.name is_spot.picture is_spot.named in
    let inside : IsInside b.size spot.name plane spot.block spot.place = subst (λ (s : Size). IsInside s spot.name plane spot.block spot.place) size is_spot.inside in
    let here = shown.1 plane spot.block spot.place is_spot.inside ∙ sym (shown.2 plane spot.block spot.place inside) in
    let P : ℕ → Type 0 = λ r. sample_at a plane r (column_of spot.name plane spot.block spot.place) ≡ sample_at b plane r (column_of spot.name plane spot.block spot.place) in
    let Q : ℕ → Type 0 = λ c. sample_at a plane row c ≡ sample_at b plane row c in
    subst Q is_spot.stands.on_column (subst P is_spot.stands.on_row here)

-- what its slices show is the whole picture
pub one_picture : (log2 : ℕ → ℕ) (a b : Planes) → a.size ≡ b.size → IsPicture a → IsPicture b → ShowAlike log2 a b → a ≡ b
one_picture log2 a b size is_a is_b alike =
    let long : length a.samples ≡ length b.samples = is_a.all ∙ (ap sample_count size ∙ sym is_b.all) in
    let same : (k : ℕ) → k < length a.samples → get_or a.samples k 0 ≡ get_or b.samples k 0 = λ k h.
    let at = sample_place a.size k is_a.size (omega (arith, is_a.all)) in
    ap (λ (i : ℕ). get_or a.samples i 0) at.place
    ∙ (samples_agree log2 a b size is_a.size alike at.plane at.row at.column at.below at.within
    ∙ (ap (λ (s : Size). get_or b.samples (row_start s at.plane at.row + at.column) 0) (sym size)
    ∙ ap (λ (i : ℕ). get_or b.samples i 0) (sym at.place))) in
    same_planes a b size (same_number_lists a.samples b.samples long same)

-- the value that a sample shall have: that of its slice's samples at its spot
record HasValue (size : Size) (log2 : ℕ → ℕ) (samples : ℕ → ℕ → List (List ℕ)) (k value : ℕ) : Type 0 where
  pub at : IsSampleAt size k
  pub spot : Spot
  pub is_spot : IsSpot size log2 at.plane at.row at.column spot
  pub is_value : value ≡ sample_of (samples spot.picture spot.n) at.plane spot.block spot.place

value_at : (size : Size) (log2 : ℕ → ℕ) (samples : ℕ → ℕ → List (List ℕ)) (k : ℕ) → IsSize size → k < sample_count size → (value : ℕ) × HasValue size log2 samples k value
value_at size log2 samples k is_size h =
    let at = sample_place size k is_size h in
    let found = spot_of size log2 at.plane at.row at.column is_size at.below at.within in
    let spot = found.0 in
    (sample_of (samples spot.picture spot.n) at.plane spot.block spot.place, record { at = at; spot = spot; is_spot = found.1; is_value = refl })

-- so many samples that have their values
record HasValues (size : Size) (log2 : ℕ → ℕ) (samples : ℕ → ℕ → List (List ℕ)) (count : ℕ) : Type 0 where
  pub list : List ℕ
  pub long : length list ≡ count
  pub each : (k : ℕ) → k < count → HasValue size log2 samples k (get_or list k 0)

values_to : (size : Size) (log2 : ℕ → ℕ) (samples : ℕ → ℕ → List (List ℕ)) (count : ℕ) → IsSize size → count ≤ sample_count size → HasValues size log2 samples count
values_to size log2 samples zero is_size h = record { list = []; long = refl; each = λ k none. absurd (omega arith) }
values_to size log2 samples (suc count) is_size h =
    let before = values_to size log2 samples count is_size (omega arith) in
    let next = value_at size log2 samples count is_size (omega arith) in
    let Value : ℕ → ℕ → Type 0 = λ k v. HasValue size log2 samples k v in
    record {
      list = before.list ++ next.0 ∷ [];
      long = omega (arith, length-append before.list (next.0 ∷ []), before.long);
      each = λ k k_small. elim (cases_lt k count) [
        | inl lt ↦ subst (Value k) (sym (get_or_append_left before.list (next.0 ∷ []) 0 k (omega (arith, before.long)))) (before.each k lt)
        | inr ge ↦
            let last : k ≡ count = omega arith in
            let first : k - count ≡ 0 = omega arith in
            let here : get_or (before.list ++ next.0 ∷ []) k 0 ≡ next.0 =
            get_or-append_right before.list (next.0 ∷ []) count k 0 before.long (omega arith) ∙ ap (λ (i : ℕ). get_or (next.0 ∷ []) i 0) first in
            subst (Value k) (sym here) (subst (λ (i : ℕ). Value i next.0) (sym last) next.1)
      ];
    }

spot_moved : (size : Size) (log2 : ℕ → ℕ) (p q : Plane) (r s c d : ℕ) (spot : Spot) → IsSamePlace p q r s c d → IsSpot size log2 q s d spot → IsSpot size log2 p r c spot
spot_moved size log2 p q r s c d spot same h =
    let Planed : Plane → Type 0 = λ x. IsSpot size log2 x r c spot in
    let Rowed : ℕ → Type 0 = λ x. IsSpot size log2 q x c spot in
    let Columned : ℕ → Type 0 = λ x. IsSpot size log2 q s x spot in
    subst Planed (sym same.planes) (subst Rowed (sym same.rows) (subst Columned (sym same.columns) h))

-- the value at a spot that is known
value_of_spot : (samples : ℕ → ℕ → List (List ℕ)) (p q : Plane) (a b : Spot) (value : ℕ) → p ≡ q → a ≡ b → value ≡ sample_of (samples a.picture a.n) q a.block a.place
    → value ≡ sample_of (samples b.picture b.n) p b.block b.place
value_of_spot samples p q a b value planes spots h =
    h ∙ (ap (λ (x : Plane). sample_of (samples a.picture a.n) x a.block a.place) (sym planes) ∙ ap (λ (s : Spot). sample_of (samples s.picture s.n) p s.block s.place) spots)

-- the slices of a frame may show any samples
pub any_samples_shown : (size : Size) (log2 : ℕ → ℕ) (samples : ℕ → ℕ → List (List ℕ)) → IsSize size
    → ((picture n : ℕ) (name : SliceName) → picture < picture_count size → IsSlice size (log2 picture) picture n name
    → (b k : ℕ) → slice_index (get_or (samples picture n) b []) k < 1024)
    → IsShownOf size log2 samples
any_samples_shown size log2 samples is_size small =
    let values = values_to size log2 samples (sample_count size) is_size (omega arith) in
    let planes : Planes = record { size = size; samples = values.list } in
    record {
      planes = planes;
      is_size = refl;
      is_picture = record {
        size = is_size;
        all = values.long;
        small = λ k. elim (cases_lt k (sample_count size)) [
          | inl lt ↦
              let value = values.each k lt in
              subst (λ (v : ℕ). v < 1024) (sym value.is_value) (small value.spot.picture value.spot.n value.spot.name value.is_spot.picture value.is_spot.named (first_block value.at.plane + value.spot.block) value.spot.place)
          | inr ge ↦ subst (λ (v : ℕ). v < 1024) (sym (get_or_past values.list k 0 (omega (arith, values.long)))) (omega arith)
        ];
      };
      shown = λ picture n name there named plane block place inside.
          let row = frame_row name.field (line_of name plane block place) in let column = column_of name plane block place in
          let field = slice_field size (log2 picture) picture n name named in
          let below = frame_row_below size name.field (line_of name plane block place) field inside.line in
          let k = row_start size plane row + column in
          let value = values.each k (omega (arith, row_room size plane row below, inside.column)) in
          let same = same_place size plane value.at.plane row value.at.row column value.at.column below value.at.below inside.column value.at.within value.at.place in
          let asked : Spot = record { picture = picture; n = n; name = name; block = block; place = place } in
          let here : IsSpot size log2 plane row column asked = record {
            picture = there;
            named = named;
            inside = inside;
            stands = record { in_slice = inside.in_slice; in_block = inside.in_block; on_row = refl; on_column = refl };
          } in
          let found : IsSpot size log2 plane row column value.spot = spot_moved size log2 plane value.at.plane row value.at.row column value.at.column value.spot same value.is_spot in
          let spot = one_spot size log2 plane row column value.spot asked found here in
          value_of_spot samples plane value.at.plane value.spot asked (get_or values.list k 0) same.planes spot value.is_value;
    }

-- each number of a coded picture's slices has its slice
slice_named : (size : Size) (log2 picture n : ℕ) → n < slices_per_picture size log2 → (name : SliceName) × IsSlice size log2 picture n name
slice_named size log2 picture n h =
    let widths = row_widths size log2 in let at = n % length widths in (
      record { field = field_of size.interlace picture; row = n / length widths; first = sum (take at widths); count = get_or widths at 0 },
      record { within = h; field = refl; row = refl; first = refl; count = refl },
    )

-- the samples that are found for a slice, and none where there is no slice
chosen : (size : Size) (log2 : ℕ → ℕ) (R : ℕ → ℕ → SliceName → List (List ℕ) → Type 0) → SlicesHave size log2 R → (picture n : ℕ)
    → ((picture < picture_count size) ⊎ (picture_count size ≤ picture)) → ((n < slices_per_picture size (log2 picture)) ⊎ (slices_per_picture size (log2 picture) ≤ n)) → List (List ℕ)
chosen size log2 R found picture n (inl there) (inl within) =
    let named = slice_named size (log2 picture) picture n within in (found picture n named.0 there named.1).0
chosen size log2 R found picture n (inr past) within = []
chosen size log2 R found picture n there (inr past) = []

chosen_is : (size : Size) (log2 : ℕ → ℕ) (R : ℕ → ℕ → SliceName → List (List ℕ) → Type 0) (found : SlicesHave size log2 R) (picture n : ℕ) (name : SliceName)
    (p : (picture < picture_count size) ⊎ (picture_count size ≤ picture)) (q : (n < slices_per_picture size (log2 picture)) ⊎ (slices_per_picture size (log2 picture) ≤ n))
    → picture < picture_count size → IsSlice size (log2 picture) picture n name
    → R picture n name (chosen size log2 R found picture n p q) × ((b k : ℕ) → slice_index (get_or (chosen size log2 R found picture n p q) b []) k < 1024)
unfolding chosen
chosen_is size log2 R found picture n name (inl there) (inl within) h is =
    let named = slice_named size (log2 picture) picture n within in
    let has = found picture n named.0 there named.1 in
    let Named : SliceName → Type 0 = λ s. R picture n s has.0 in
    (subst Named (one_name size (log2 picture) picture n named.0 name named.1 is) has.1, has.2)
chosen_is size log2 R found picture n name (inr past) within h is = absurd (omega arith)
chosen_is size log2 R found picture n name there (inr past) h is = absurd (omega (arith, is.within))

-- where each slice has samples of some kind, a picture shows samples of that kind in each slice
pub shown_slices : (size : Size) (log2 : ℕ → ℕ) (R : ℕ → ℕ → SliceName → List (List ℕ) → Type 0) → IsSize size → SlicesHave size log2 R → ShownSlices size log2 R
shown_slices size log2 R is_size found =
    let count = picture_count size in
    let samples : ℕ → ℕ → List (List ℕ) = λ p n. chosen size log2 R found p n (cases_lt p count) (cases_lt n (slices_per_picture size (log2 p))) in
    let is = λ (p n : ℕ) (name : SliceName) (h : p < count) (s : IsSlice size (log2 p) p n name).
    chosen_is size log2 R found p n name (cases_lt p count) (cases_lt n (slices_per_picture size (log2 p))) h s in
    let picture = any_samples_shown size log2 samples is_size (λ p n name h s. (is p n name h s).1) in
    record {
      planes = picture.planes;
      is_size = picture.is_size;
      is_picture = picture.is_picture;
      shown = λ p n name h s. (samples p n, (is p n name h s).0, picture.shown p n name h s);
    }

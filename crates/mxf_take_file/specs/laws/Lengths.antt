-- How far the growing file of units reaches.
use Rattle.std.proofs.Common.{◌≡◌, ℕ, ◌+◌, ◌-◌, ◌*◌, ◌%◌, ◌<◌, ◌==◌, cond, List, [], ◌∷◌}
use Rattle.std.proofs.Common.{◌++◌, length, refl, ap, ap₂, subst, ◌∙◌, inl, inr, arith, append_assoc, append-nil}
use Rattle.std.proofs.lemmas.Bool.{cases_eq, eq-eqb, ne_eqb}
use Rattle.std.proofs.lemmas.List.{length-append}
use Rattle.std.proofs.lemmas.List.Concat.{flat_map-append}
use Rattle.mxf_names.specs.Picture.{picture_element}
use Rattle.mxf_partitions.specs.declared.partition.TheConstants.{PACK_LEN}
use Rattle.mxf_take_file.specs.Essence.{essence}
use Rattle.mxf_take_file.specs.Extents.{body_count, file_len, segment_bytes}
use Rattle.klv.specs.Items.{klv_head, length_bytes}
use Rattle.mxf_names.specs.declared.keys.TheConstants.{PICTURE_ELEMENT_KEY}
use Rattle.take_layout.specs.Grown.{grown, grown_behind}
use Rattle.mxf_take_file.specs.declared.lead.TheConstants.{HEADER_LEN}
use Rattle.mxf_take_file.specs.laws.Counts.{count_none, count_begins, count_stays, count_some}

-- the length of a body partition before a unit, by the number of units before it
abbrev pub partition_len : ℕ → ℕ → ℕ
partition_len part n = cond (n % part == 0) (PACK_LEN + cond (n == 0) 0 (segment_bytes part)) 0

-- the file by three numbers
abbrev pub len_by : ℕ → ℕ → ℕ → ℕ
len_by part n total = HEADER_LEN + body_count part n * PACK_LEN + (body_count part n - 1) * segment_bytes part + total

-- the file with one more unit
pub len_more : (part n total len : ℕ) → 0 < part → len_by part n total + (partition_len part n + 24) + len ≡ len_by part (n + 1) (total + (24 + len))
len_more part n total len some = elim (cases_eq (n % part) 0) [
  | inl begins ↦ elim (cases_eq n 0) [
    | inl none ↦
        let e : body_count part (n + 1) ≡ body_count part n + 1 = count_begins part n some begins in
        let z : body_count part n ≡ 0 = ap (body_count part) none ∙ count_none part some in
        rw (e, z, eq-eqb (n % part) 0 begins, eq-eqb n 0 none) (omega arith)
    | inr units ↦
        let e : body_count part (n + 1) ≡ body_count part n + 1 = count_begins part n some begins in
        let more = count_some part n some (omega arith) in
        let c : body_count part n ≡ (body_count part n - 1) + 1 = omega arith in
        let times : body_count part n * segment_bytes part ≡ (body_count part n - 1 + 1) * segment_bytes part = ap (λ (k : ℕ). k * segment_bytes part) c in
        let back : body_count part n + 1 - 1 ≡ body_count part n = omega arith in
        rw (e, back, eq-eqb (n % part) 0 begins, ne_eqb n 0 units) (omega arith)
  ]
  | inr stays ↦
      let e : body_count part (n + 1) ≡ body_count part n = count_stays part n some stays in
      rw (e, ne_eqb (n % part) 0 stays) (omega arith)
]

-- the length of an element's key and length
pub length_head : (n : ℕ) → length (klv_head PICTURE_ELEMENT_KEY 7 n) ≡ 24
unfolding length_bytes
length_head n = refl

-- the length of an element
length_element : (unit : List ℕ) → length (picture_element unit) ≡ 24 + length unit
length_element unit = omega (arith, length-append (klv_head PICTURE_ELEMENT_KEY 7 (length unit)) unit, length_head (length unit))

-- the essence stream of one more unit
pub essence_more : (units : List (List ℕ)) (unit : List ℕ) → length (essence (units ++ unit ∷ [])) ≡ length (essence units) + (24 + length unit)
essence_more units unit =
    ap length (flat_map-append picture_element units (unit ∷ []))
    ∙ length-append (essence units) (picture_element unit ++ [])
    ∙ ap (λ (bytes : List ℕ). length (essence units) + length bytes) (append-nil (picture_element unit))
    ∙ ap (λ (n : ℕ). length (essence units) + n) (length_element unit)

-- leads of a layout with so many units in a body partition
pub record AreLeads (part : ℕ) (lead : List (List ℕ) → ℕ → List ℕ) : Type 0 where
  pub some : 0 < part
  pub sized : (units : List (List ℕ)) (n : ℕ) → length (lead units n) ≡ partition_len part (length units) + 24

-- how far units behind others reach
grown_len_behind : (part : ℕ) (lead : List (List ℕ) → ℕ → List ℕ) (before units : List (List ℕ)) → AreLeads part lead
    → file_len part before + length (grown_behind lead before units) ≡ file_len part (before ++ units)
unfolding grown_behind
grown_len_behind part lead before [] h = rw (append-nil before) (omega arith)
grown_len_behind part lead before (unit ∷ units) h =
    let rest : List ℕ = grown_behind lead (before ++ unit ∷ []) units in
    let all : (before ++ unit ∷ []) ++ units ≡ before ++ (unit ∷ units) = append_assoc before (unit ∷ []) units in
    let next : file_len part (before ++ unit ∷ []) ≡ len_by part (length before + 1) (length (essence before) + (24 + length unit)) =
    ap₂ (λ (n total : ℕ). len_by part n total) (length-append before (unit ∷ [])) (essence_more before unit) in
    let step = len_more part (length before) (length (essence before)) (length unit) h.some in
    let later = grown_len_behind part lead (before ++ unit ∷ []) units h in
    let parts = length-append (lead before (length unit)) (unit ++ rest) in
    let parts_2 = length-append unit rest in
    subst (λ (us : List (List ℕ)). file_len part before + length (lead before (length unit) ++ (unit ++ rest)) ≡ file_len part us) all
    (omega (arith, step, later, next, parts, parts_2, h.sized before (length unit)))

-- the length of the growing file in closed form
pub grown_len : (part : ℕ) (head : List ℕ) (lead : List (List ℕ) → ℕ → List ℕ) (units : List (List ℕ)) → length head ≡ HEADER_LEN → AreLeads part lead
    → length (grown head lead units) ≡ file_len part units
grown_len part head lead units long h =
    let none : body_count part 0 ≡ 0 = count_none part h.some in
    let packs : (body_count part 0 - 1) * segment_bytes part ≡ (0 - 1) * segment_bytes part = ap (λ (k : ℕ). (k - 1) * segment_bytes part) none in
    omega (arith, length-append head (grown_behind lead [] units), grown_len_behind part lead [] units h, none, packs)

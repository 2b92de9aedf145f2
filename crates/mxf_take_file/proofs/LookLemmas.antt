-- A look at bytes that begin with the lead of a unit.
use Rattle.std.proofs.Common.{◌≡◌, ℕ, ◌+◌, ◌%◌, ◌^◌, ◌<◌, ◌≤◌, ◌⊎◌, inl, inr, List, [], ◌∷◌, ◌++◌, length, take, drop, refl, sym, subst, ap, ◌∙◌, arith, append_assoc, append-nil}
use Rattle.std.proofs.lemmas.Bool.{cases_eq, ne_eqb}
use Rattle.std.proofs.lemmas.List.{length-append, length-drop}
use Rattle.rec_bytes.specs.Configuration.{Fields}
use Rattle.klv.specs.Items.{klv_head}
use Rattle.mxf_names.specs.declared.keys.TheConstants.{PICTURE_ELEMENT_KEY}
use Rattle.mxf_partitions.specs.Partitions.{partition_pack}
use Rattle.mxf_index.specs.Segments.{index_segment}
use Rattle.mxf_names.specs.declared.keys.TheConstants.{INDEX_SEGMENT_KEY}
use Rattle.take_layout.specs.declared.walk.Walk.TheVariants as walk
use Rattle.mxf_take_file.specs.Extents.{Extents, extents, segment_bytes}
use Rattle.mxf_take_file.specs.Layout.{body_start, start_of, lead_of, lead}
use Rattle.mxf_take_file.specs.Packs.{body_pack}
use Rattle.mxf_take_file.specs.Segments.{segment_of_entries, segment_from, whole_first}
use Rattle.mxf_take_file.specs.inner.Standing.{stand_first, look_of, look_at}
use Rattle.mxf_take_file.specs.laws.Lengths.{length_head}
use Rattle.mxf_take_file.specs.laws.Parts.{IsWhole, extents_whole, body_pack_len, start_due, start_not_due, whole_segment_len}
use Rattle.mxf_take_file.specs.declared.picture_layout.TheConstants.{MAX_UNIT}
use Rattle.mxf_take_file.specs.declared.walk.Stand.{Stand}
use Rattle.mxf_take_file.proofs.SegmentLemmas.{none_from}
use Rattle.mxf_take_file.proofs.WalkLemmas.{Stood, IsPack, IsSegment, first_stood, pack_stood, segment_stood, found}

-- a body partition begins with the pack's key
is_pack : (cfg : Fields) (e : Extents) → IsPack (partition_pack (body_pack cfg e))
unfolding body_pack
is_pack cfg e = record { key = refl; size = body_pack_len cfg e }

-- entries that there are begin with the segment's key
entries_key : (cfg : Fields) (first : ℕ) (offsets : List ℕ) → 0 < length offsets → take 16 (segment_of_entries cfg first offsets) ≡ INDEX_SEGMENT_KEY
unfolding segment_of_entries index_segment
entries_key cfg first [] h = absurd (omega arith)
entries_key cfg first (offset ∷ offsets) h = refl

-- the segment of a whole body partition
is_segment : (cfg : Fields) (e : Extents) → IsWhole e → 0 < cfg.part → e.count % cfg.part ≡ 0 → (e.count ≡ 0 → ⊥) → IsSegment cfg.part (segment_from cfg e (whole_first cfg e))
unfolding segment_from
is_segment cfg e h some even units =
    let long : length (segment_from cfg e (whole_first cfg e)) ≡ segment_bytes cfg.part = whole_segment_len cfg e h some even ∙ rw (ne_eqb e.count 0 units) refl in
    record {
      key = entries_key cfg (whole_first cfg e) (drop (whole_first cfg e) e.offsets) (omega (arith, length-drop (whole_first cfg e) e.offsets, h, units));
      size = long;
    }

-- the element stands behind the start of a body partition, or at the front where none is due
start_stood : (cfg : Fields) (e : Extents) (n : ℕ) (bytes missing tail : List ℕ) → IsWhole e → 0 < cfg.part
    → bytes ++ missing ≡ start_of cfg e ++ (klv_head PICTURE_ELEMENT_KEY 7 n ++ tail) → Stood bytes (length (start_of cfg e)) (stand_first cfg.part bytes)
unfolding body_start
start_stood cfg e n bytes missing tail h some is =
    let rest : List ℕ = klv_head PICTURE_ELEMENT_KEY 7 n ++ tail in
    let pack : List ℕ = partition_pack (body_pack cfg e) in
    let segment : List ℕ = segment_from cfg e (whole_first cfg e) in
    elim (cases_eq (e.count % cfg.part) 0) [
      | inr stays ↦
          let none : start_of cfg e ≡ [] = start_not_due cfg e stays in
          subst (λ (xs : List ℕ). Stood bytes (length xs) (stand_first cfg.part bytes)) (sym none) (first_stood cfg.part bytes missing tail n (is ∙ ap (λ (xs : List ℕ). xs ++ rest) none))
      | inl even ↦
          let due : start_of cfg e ≡ pack ++ segment = start_due cfg e even in
          elim (cases_eq e.count 0) [
            | inl none ↦
                let empty : segment ≡ [] = none_from cfg e (whole_first cfg e) h (omega (arith, none)) in
                let alone : start_of cfg e ≡ pack = due ∙ ap (λ (xs : List ℕ). pack ++ xs) empty ∙ append-nil pack in
                let long : length (start_of cfg e) ≡ 124 = ap length alone ∙ body_pack_len cfg e in
                subst (λ (k : ℕ). Stood bytes k (stand_first cfg.part bytes)) (sym long) (pack_stood cfg.part bytes missing pack tail n (is ∙ ap (λ (xs : List ℕ). xs ++ rest) alone) (is_pack cfg e))
            | inr units ↦
                let whole = is_segment cfg e h some even units in
                let long : length (start_of cfg e) ≡ 124 + segment_bytes cfg.part = omega (arith, ap length due, length-append pack segment, body_pack_len cfg e, whole.size) in
                subst (λ (k : ℕ). Stood bytes k (stand_first cfg.part bytes)) (sym long)
                (segment_stood cfg.part bytes missing pack segment tail n (is ∙ ap (λ (xs : List ℕ). xs ++ rest) due ∙ append_assoc pack segment rest) (is_pack cfg e) whole)
          ]
    ]

-- the lead and its unit's length are found, or more of the lead is asked for
pub look_finds : (cfg : Fields) (units : List (List ℕ)) (n from : ℕ) (bytes missing tail : List ℕ) → 0 < cfg.part → n ≤ MAX_UNIT
    → bytes ++ missing ≡ lead cfg units n ++ tail → from + length (lead cfg units n) < 2 ^ 64
    → (look_at cfg.part bytes from ≡ walk.Lead (from + length (lead cfg units n)) n)
    ⊎ ((need : ℕ) × (look_at cfg.part bytes from ≡ walk.More need) × (length bytes < need) × (need ≤ length (lead cfg units n)))
unfolding look_at lead_of
look_finds cfg units n from bytes missing tail some small is far =
    let e : Extents = extents cfg.part units in
    let start : List ℕ = start_of cfg e in
    let parts : bytes ++ missing ≡ start ++ (klv_head PICTURE_ELEMENT_KEY 7 n ++ tail) = is ∙ append_assoc start (klv_head PICTURE_ELEMENT_KEY 7 n) tail in
    let long : length (lead cfg units n) ≡ length start + 24 = length-append start (klv_head PICTURE_ELEMENT_KEY 7 n) ∙ ap (λ (k : ℕ). length start + k) (length_head n) in
    elim (start_stood cfg e n bytes missing tail (extents_whole cfg.part units) some parts) [
      | inl there ↦
          inl (ap (λ (s : Stand). look_of s bytes from) there.0
          ∙ found bytes missing start tail n (length start) from parts refl there.1 small (omega (arith, far, long))
          ∙ ap (λ (k : ℕ). walk.Lead (from + k) n) (sym long))
      | inr more ↦ inr (more.0, ap (λ (s : Stand). look_of s bytes from) more.1, more.2, omega (arith, more.3, long))
    ]

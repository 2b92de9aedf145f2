-- How long the parts of a take's file are.
use Rattle.std.proofs.Common.{◌≡◌, ℕ, ◌+◌, ◌-◌, ◌%◌, ◌<◌, ◌==◌, suc, cond, List, [], ◌∷◌, ◌++◌}
use Rattle.std.proofs.Common.{length, drop, refl, sym, ap, ◌∙◌, inl, inr, arith, Option, Some, None, codes}
use Rattle.std.proofs.lemmas.Nat.{mul-le}
use Rattle.std.proofs.lemmas.Bool.{cases_eq, eq-eqb, ne_eqb}
use Rattle.std.proofs.lemmas.List.{length-append, length-drop, length-map, length-take-le}
use Rattle.std.proofs.lemmas.List.FromFn.{length-map-range_with_len}
use Rattle.rec_bytes.specs.Configuration.{Fields}
use Rattle.rec_bytes.specs.Ranges.{IsInRange}
use Rattle.klv.specs.Items.{klv_head}
use Rattle.mxf_names.specs.declared.keys.TheConstants.{PICTURE_ELEMENT_KEY}
use Rattle.mxf_partitions.specs.Partitions.{partition_pack}
use Rattle.mxf_partitions.specs.RandomIndex.{random_index_pack, random_index_size}
use Rattle.mxf_partitions.specs.laws.Lengths.{length-partition_pack, length-random_index_pack}
use Rattle.mxf_names.specs.Identifiers.{ids_of, named_id}
use Rattle.mxf_metadata.specs.Metadata.{metadata}
use Rattle.mxf_metadata.specs.laws.Laws.{length-metadata}
use Rattle.mxf_names.specs.laws.Lengths.{length-named_id, are-ids_of}
use Rattle.mxf_metadata.specs.declared.lengths.TheConstants.{METADATA}
use Rattle.mxf_index.specs.laws.Lengths.{length-index_segment}
use Rattle.take_layout.specs.declared.place.Place.{Place}
use Rattle.mxf_take_file.specs.Essence.{offsets_behind, stream_offsets}
use Rattle.mxf_take_file.specs.Extents.{Extents, extents, body_count, segment_bytes, file_len}
use Rattle.mxf_take_file.specs.inner.Kept.{extents_kept}
use Rattle.mxf_take_file.specs.Layout.{head, body_start, start_of, lead_of, tail_of, lead, growing, places_of}
use Rattle.mxf_take_file.specs.Packs.{header_pack, body_pack, footer_pack, pack_entries, body_entries, entry}
use Rattle.mxf_take_file.specs.Segments.{segment_size, segment_of_entries, segment_from, whole_first, last_first}
use Rattle.mxf_take_file.specs.declared.lead.TheConstants.{HEADER_LEN}
use Rattle.mxf_take_file.specs.laws.Counts.{count_times, count_some}
use Rattle.mxf_take_file.specs.laws.Lengths.{length_head, partition_len, AreLeads, grown_len}
use Rattle.mxf_take_file.specs.laws.Units.{lying_extents}

-- a stream offset for each unit
abbrev pub IsWhole : Extents → Type 0
IsWhole e = length e.offsets ≡ e.count

-- the offsets of units behind others
offsets_count : (before units : List (List ℕ)) → length (offsets_behind before units) ≡ length units
unfolding offsets_behind
offsets_count before [] = refl
offsets_count before (unit ∷ units) = ap suc (offsets_count (before ++ unit ∷ []) units)

-- as many stream offsets as units
pub offsets_are : (units : List (List ℕ)) → length (stream_offsets units) ≡ length units
offsets_are units = offsets_count [] units

-- units have whole extents
pub extents_whole : (part : ℕ) (units : List (List ℕ)) → IsWhole (extents part units)
extents_whole part units = offsets_count [] units

-- so have places
pub kept_whole : (places : List Place) → IsWhole (extents_kept places)
kept_whole places = length-map places (λ (place : Place). place.stream)

-- the identifiers of segments begin with eight bytes
pub ids_sized : (cfg : Fields) → length (ids_of cfg).index ≡ 8
unfolding ids_of
ids_sized cfg = length-take-le 8 (named_id cfg.take_id (codes "index")) (omega (arith, length-named_id cfg.take_id (codes "index")))

-- the metadata of a take have always as many bytes
pub metadata_len : (cfg : Fields) (frames : Option ℕ) → IsInRange cfg → length (metadata cfg (ids_of cfg) frames) ≡ METADATA
metadata_len cfg frames h = length-metadata cfg (ids_of cfg) frames (are-ids_of cfg h.take_id)

-- the length of a segment
entries_len : (cfg : Fields) (first : ℕ) (offsets : List ℕ) → length (segment_of_entries cfg first offsets) ≡ segment_size (length offsets)
unfolding segment_of_entries
entries_len cfg first [] = refl
entries_len cfg first (offset ∷ offsets) =
    let some : suc (length offsets) ≡ 0 → ⊥ = λ (q : suc (length offsets) ≡ 0). omega arith in
    rw (ne_eqb (suc (length offsets)) 0 some) (length-index_segment cfg (ids_of cfg) first (offset ∷ offsets) (ids_sized cfg))

-- the length of the segment of the units from a number on
pub segment_len_is : (cfg : Fields) (e : Extents) (first : ℕ) → IsWhole e → length (segment_from cfg e first) ≡ segment_size (e.count - first)
unfolding segment_from
segment_len_is cfg e first h = entries_len cfg first (drop first e.offsets) ∙ ap segment_size (length-drop first e.offsets ∙ ap (λ (n : ℕ). n - first) h)

-- a count that is a multiple of part, and not 0, has a whole body partition before it
whole_part : (part n : ℕ) → 0 < part → n % part ≡ 0 → (n ≡ 0 → ⊥) → n - (n - part) ≡ part
whole_part part n some even units =
    let times = count_times part n even in
    let more = count_some part n some (omega arith) in
    omega (arith, times, mul-le 1 part (body_count part n) part (omega arith) (omega arith))

-- the length of the segment in a body partition that begins
pub whole_segment_len : (cfg : Fields) (e : Extents) → IsWhole e → 0 < cfg.part → e.count % cfg.part ≡ 0
    → length (segment_from cfg e (whole_first cfg e)) ≡ cond (e.count == 0) 0 (segment_bytes cfg.part)
whole_segment_len cfg e h some even = segment_len_is cfg e (whole_first cfg e) h ∙ (elim (cases_eq e.count 0) [
  | inl none ↦ let z : e.count - (e.count - cfg.part) ≡ 0 = omega arith in rw (z, eq-eqb e.count 0 none) refl
  | inr units ↦ let w : e.count - (e.count - cfg.part) ≡ cfg.part = whole_part cfg.part e.count some even units in
      let p : cfg.part ≡ 0 → ⊥ = λ (q : cfg.part ≡ 0). omega arith in
      rw (w, ne_eqb e.count 0 units, ne_eqb cfg.part 0 p) refl
])

-- the length of the start of a body partition
pub body_start_len_is : (cfg : Fields) (e : Extents) → IsWhole e → length (body_start cfg e) ≡ 124 + segment_size (e.count - whole_first cfg e)
unfolding body_start body_pack
body_start_len_is cfg e h =
    let pack : length (partition_pack (body_pack cfg e)) ≡ 124 = length-partition_pack (body_pack cfg e) refl refl in
    omega (arith, pack, segment_len_is cfg e (whole_first cfg e) h, length-append (partition_pack (body_pack cfg e)) (segment_from cfg e (whole_first cfg e)))

-- the length of its pack
pub body_pack_len : (cfg : Fields) (e : Extents) → length (partition_pack (body_pack cfg e)) ≡ 124
unfolding body_pack
body_pack_len cfg e = length-partition_pack (body_pack cfg e) refl refl

-- its label count
pub body_pack_labels : (cfg : Fields) (e : Extents) → (body_pack cfg e).label_count ≡ 1
unfolding body_pack
body_pack_labels cfg e = refl

-- the two parts of the start of a body partition
pub body_start_parts : (cfg : Fields) (e : Extents) (first : ℕ) → first ≡ whole_first cfg e
    → 124 + length (segment_from cfg e first) ≡ length (body_start cfg e)
unfolding body_start
body_start_parts cfg e first h =
    ap (λ (n : ℕ). 124 + length (segment_from cfg e n)) h
    ∙ ap (λ (n : ℕ). n + length (segment_from cfg e (whole_first cfg e))) (sym (body_pack_len cfg e))
    ∙ sym (length-append (partition_pack (body_pack cfg e)) (segment_from cfg e (whole_first cfg e)))

-- the start of a body partition that is due
pub start_due : (cfg : Fields) (e : Extents) → e.count % cfg.part ≡ 0 → start_of cfg e ≡ body_start cfg e
unfolding start_of
start_due cfg e even = rw (eq-eqb (e.count % cfg.part) 0 even) refl

-- one that isn't
pub start_not_due : (cfg : Fields) (e : Extents) → (e.count % cfg.part ≡ 0 → ⊥) → start_of cfg e ≡ []
unfolding start_of
start_not_due cfg e stays = rw (ne_eqb (e.count % cfg.part) 0 stays) refl

-- the length of either
pub start_len_is : (cfg : Fields) (e : Extents) → IsWhole e → 0 < cfg.part → length (start_of cfg e) ≡ partition_len cfg.part e.count
start_len_is cfg e h some = elim (cases_eq (e.count % cfg.part) 0) [
  | inl even ↦
      let segment = whole_segment_len cfg e h some even in
      let long = segment_len_is cfg e (whole_first cfg e) h in
      rw (start_due cfg e even, eq-eqb (e.count % cfg.part) 0 even) (omega (arith, body_start_len_is cfg e h, segment, long))
  | inr stays ↦ rw (start_not_due cfg e stays, ne_eqb (e.count % cfg.part) 0 stays) refl
]

-- the length of a lead
pub lead_len_is : (cfg : Fields) (e : Extents) (unit_len : ℕ) → IsWhole e → 0 < cfg.part → length (lead_of cfg e unit_len) ≡ partition_len cfg.part e.count + 24
unfolding lead_of
lead_len_is cfg e unit_len h some =
    omega (arith, length-append (start_of cfg e) (klv_head PICTURE_ELEMENT_KEY 7 unit_len), start_len_is cfg e h some, length_head unit_len)

-- the same by what stands before the element
pub lead_len_by : (cfg : Fields) (e : Extents) (unit_len : ℕ) → length (lead_of cfg e unit_len) ≡ length (start_of cfg e) + 24
unfolding lead_of
lead_len_by cfg e unit_len = omega (arith, length-append (start_of cfg e) (klv_head PICTURE_ELEMENT_KEY 7 unit_len), length_head unit_len)

-- the leads of a configuration
pub leads_are : (cfg : Fields) → IsInRange cfg → AreLeads cfg.part (lead cfg)
leads_are cfg h = record {
  some = h.part.least;
  sized = λ units n. lead_len_is cfg (extents cfg.part units) n (extents_whole cfg.part units) h.part.least;
}

-- the length of a head
pub head_len_is : (cfg : Fields) → IsInRange cfg → length (head cfg) ≡ HEADER_LEN
unfolding head
head_len_is cfg h =
    omega (
      arith,
      length-append (partition_pack header_pack) (metadata cfg (ids_of cfg) None),
      length-partition_pack header_pack refl refl,
      metadata_len cfg None h,
    )

-- the growing file's length in closed form
pub growing_len : (cfg : Fields) (units : List (List ℕ)) → IsInRange cfg → length (growing cfg units) ≡ file_len cfg.part units
growing_len cfg units h = grown_len cfg.part (head cfg) (lead cfg) units (head_len_is cfg h) (leads_are cfg h)

-- what the places say
pub kept_is : (cfg : Fields) (units : List (List ℕ)) → IsInRange cfg → extents_kept (places_of cfg units) ≡ extents cfg.part units
kept_is cfg units h = lying_extents cfg.part (head cfg) (lead cfg) units (head_len_is cfg h) (leads_are cfg h)

-- as many entries of the random index pack as partitions
pub entries_count : (cfg : Fields) (e : Extents) → length (pack_entries cfg e) ≡ body_count cfg.part e.count + 2
unfolding pack_entries
entries_count cfg e =
    let bodies : length (body_entries cfg.part e (body_count cfg.part e.count)) ≡ body_count cfg.part e.count =
    length-map-range_with_len _ 0 (body_count cfg.part e.count) in
    omega (arith, length-append (body_entries cfg.part e (body_count cfg.part e.count)) (entry 0 (e.end_of e.count) ∷ []), bodies)

-- the length of a tail
pub tail_len_is : (cfg : Fields) (e : Extents) → IsWhole e → IsInRange cfg
    → length (tail_of cfg e) ≡ 124 + METADATA + segment_size (e.count - last_first cfg e) + random_index_size (body_count cfg.part e.count + 2)
unfolding tail_of footer_pack
tail_len_is cfg e h range =
    let a : List ℕ = partition_pack (footer_pack cfg e) in
    let b : List ℕ = metadata cfg (ids_of cfg) (Some e.count) in
    let s : List ℕ = segment_from cfg e (last_first cfg e) in
    let r : List ℕ = random_index_pack (pack_entries cfg e) in
    let pack : length a ≡ 124 = length-partition_pack (footer_pack cfg e) refl refl in
    omega (
      arith,
      length-append (a ++ b ++ s) r,
      length-append (a ++ b) s,
      length-append a b,
      pack,
      metadata_len cfg (Some e.count) range,
      segment_len_is cfg e (last_first cfg e) h,
      length-random_index_pack (pack_entries cfg e),
      entries_count cfg e,
    )

-- the same of places that are those of units
pub kept_as : (cfg : Fields) (units : List (List ℕ)) (places : List Place) → IsInRange cfg → places ≡ places_of cfg units
    → extents_kept places ≡ extents cfg.part units
kept_as cfg units places h is = ap extents_kept is ∙ kept_is cfg units h

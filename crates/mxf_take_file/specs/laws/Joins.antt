-- The index table segments of a file join, and packs count what stands behind them.
use Rattle.std.proofs.Common.{◌≡◌, ℕ, ◌+◌, ◌-◌, ◌*◌, ◌%◌, ◌<◌, ◌≤◌, ◌⊎◌, List, [], ◌∷◌, ◌++◌}
use Rattle.std.proofs.Common.{get_or, length, take, drop, refl, sym, ap, ◌∙◌, inl, inr, arith, append_assoc, Some, None}
use Rattle.std.proofs.lemmas.Nat.{mul-le}
use Rattle.std.proofs.lemmas.Bool.{cases_eq, cases_lt, eq-eqb, ne_eqb}
use Rattle.std.proofs.lemmas.Grind.{div_ceil_times}
use Rattle.std.proofs.lemmas.List.{length-append, length-drop, drop_at, take_at}
use Rattle.rec_bytes.specs.Configuration.{Fields}
use Rattle.rec_bytes.specs.Ranges.{IsInRange}
use Rattle.klv.specs.Items.{klv_head}
use Rattle.mxf_names.specs.Identifiers.{ids_of}
use Rattle.mxf_names.specs.declared.keys.TheConstants.{PICTURE_ELEMENT_KEY}
use Rattle.mxf_partitions.specs.Partitions.{partition_pack}
use Rattle.mxf_partitions.specs.RandomIndex.{random_index_pack}
use Rattle.mxf_partitions.specs.laws.Lengths.{length-partition_pack}
use Rattle.mxf_partitions.specs.declared.partition.TheConstants.{PACK_LEN}
use Rattle.mxf_metadata.specs.Metadata.{metadata}
use Rattle.mxf_metadata.specs.declared.lengths.TheConstants.{METADATA}
use Rattle.mxf_index.specs.Segments.{index_segment}
use Rattle.mxf_take_file.specs.Essence.{stream_offsets}
use Rattle.mxf_take_file.specs.Extents.{Extents, extents, body_count}
use Rattle.mxf_take_file.specs.Layout.{head, lead, lead_of, body_start, tail, tail_of, growing, closed}
use Rattle.mxf_take_file.specs.Packs.{header_pack, body_pack, footer_pack, pack_entries, index_stream}
use Rattle.mxf_take_file.specs.Segments.{segment_of_entries, segment_from, whole_first, last_first}
use Rattle.mxf_take_file.specs.Stands.{SegmentStands, NamesIndex}
use Rattle.mxf_take_file.specs.laws.Counts.{count_times}
use Rattle.mxf_take_file.specs.laws.Fields.{segment_stands}
use Rattle.mxf_take_file.specs.laws.Parts.{extents_whole, ids_sized, metadata_len, body_pack_len, start_due}
use Rattle.take_layout.specs.laws.Grown.{grown_more}

-- entries that there are make a segment
pub entries_some : (cfg : Fields) (first : ℕ) (offsets : List ℕ) → 0 < length offsets
    → segment_of_entries cfg first offsets ≡ index_segment cfg (ids_of cfg) first offsets
unfolding segment_of_entries
entries_some cfg first [] h = absurd (omega arith)
entries_some cfg first (offset ∷ offsets) h = refl

-- so do units that there are
units_some : (cfg : Fields) (units : List (List ℕ)) (first : ℕ) → first < length units
    → segment_from cfg (extents cfg.part units) first ≡ index_segment cfg (ids_of cfg) first (drop first (stream_offsets units))
unfolding segment_from
units_some cfg units first h =
    entries_some cfg first (drop first (stream_offsets units)) (omega (arith, h, length-drop first (stream_offsets units), extents_whole cfg.part units))

-- where a body partition begins, the segment is the one of the units of the partition before
pub body_segment : (cfg : Fields) (units : List (List ℕ)) (unit : List ℕ) → IsInRange cfg → 0 < length units → length units % cfg.part ≡ 0
    → SegmentStands (growing cfg (units ++ unit ∷ [])) (length (growing cfg units) + PACK_LEN)
    (length units - cfg.part) (drop (length units - cfg.part) (stream_offsets units))
unfolding lead_of body_start
body_segment cfg units unit h some even =
    let e : Extents = extents cfg.part units in
    let first : ℕ = length units - cfg.part in
    let offsets : List ℕ = drop first (stream_offsets units) in
    let front : List ℕ = growing cfg units in
    let pack : List ℕ = partition_pack (body_pack cfg e) in
    let segment : List ℕ = index_segment cfg (ids_of cfg) first offsets in
    let element : List ℕ = klv_head PICTURE_ELEMENT_KEY 7 (length unit) in
    let is : segment_from cfg e first ≡ segment = units_some cfg units first (omega (arith, some, h.part.least)) in
    let lead_is : lead cfg units (length unit) ≡ (pack ++ segment) ++ element =
    ap (λ (xs : List ℕ). xs ++ element) (start_due cfg e even) ∙ ap (λ (xs : List ℕ). (pack ++ xs) ++ element) is in
    let parts : front ++ (((pack ++ segment) ++ element) ++ unit) ≡ (front ++ pack) ++ (segment ++ (element ++ unit)) =
    rw (
      append_assoc (pack ++ segment) element unit,
      append_assoc pack segment (element ++ unit),
      append_assoc front pack (segment ++ (element ++ unit)),
    ) refl in
    let all : growing cfg (units ++ unit ∷ []) ≡ (front ++ pack) ++ (segment ++ (element ++ unit)) =
    grown_more (head cfg) (lead cfg) units unit ∙ ap (λ (xs : List ℕ). front ++ (xs ++ unit)) lead_is ∙ parts in
    let long : length (front ++ pack) ≡ length front + 124 = omega (arith, length-append front pack, body_pack_len cfg e) in
    segment_stands cfg (ids_of cfg) (growing cfg (units ++ unit ∷ [])) (element ++ unit) (length front + 124) first offsets (ids_sized cfg)
    (ap (λ (xs : List ℕ). drop (length front + 124) xs) all ∙ drop_at (front ++ pack) (segment ++ (element ++ unit)) (length front + 124) long)

-- the last body partition begins at the multiple of part that has 1 to part units from there on
pub last_is : (part n first : ℕ) → 0 < part → first % part ≡ 0 → first < n → n ≤ first + part → (body_count part n - 1) * part ≡ first
unfolding body_count
last_is part n first some even below above =
    let q : ℕ = body_count part first in
    let times : q * part ≡ first = count_times part first even in
    let bodies : ℕ = body_count part n in
    let covers : n ≤ bodies * part = (div_ceil_times n part some).0 in
    let less : bodies * part < n + part = (div_ceil_times n part some).1 in
    let one : bodies ≡ q + 1 = elim (cases_lt bodies (q + 1)) [
      | inl few ↦ absurd (omega (arith, mul-le bodies part q part (omega arith) (omega arith)))
      | inr more ↦ elim (cases_lt (q + 1) bodies) [
        | inl many ↦ absurd (omega (arith, mul-le (q + 2) part bodies part (omega arith) (omega arith)))
        | inr same ↦ omega arith
      ]
    ] in
    let back : bodies - 1 ≡ q = omega arith in
    ap (λ (k : ℕ). k * part) back ∙ times

-- the length of the footer's pack
pub footer_pack_len : (cfg : Fields) (e : Extents) → length (partition_pack (footer_pack cfg e)) ≡ 124
unfolding footer_pack
footer_pack_len cfg e = length-partition_pack (footer_pack cfg e) refl refl

-- four parts, from the last
four : (a b c d : List ℕ) → ((a ++ b) ++ c) ++ d ≡ a ++ (b ++ (c ++ d))
four a b c d = rw (append_assoc (a ++ b) c d, append_assoc a b (c ++ d)) refl

-- the footer's segment is the one of the units since the last body partition began
pub footer_segment : (cfg : Fields) (units : List (List ℕ)) (first : ℕ) → IsInRange cfg → first % cfg.part ≡ 0 → first < length units
    → length units ≤ first + cfg.part
    → SegmentStands (closed cfg units) (length (growing cfg units) + PACK_LEN + METADATA) first (drop first (stream_offsets units))
unfolding tail_of
footer_segment cfg units first h even below above =
    let e : Extents = extents cfg.part units in
    let offsets : List ℕ = drop first (stream_offsets units) in
    let front : List ℕ = growing cfg units in
    let pack : List ℕ = partition_pack (footer_pack cfg e) in
    let sets : List ℕ = metadata cfg (ids_of cfg) (Some (length units)) in
    let segment : List ℕ = index_segment cfg (ids_of cfg) first offsets in
    let last : List ℕ = random_index_pack (pack_entries cfg e) in
    let is : segment_from cfg e (last_first cfg e) ≡ segment =
    ap (λ (n : ℕ). segment_from cfg e n) (last_is cfg.part (length units) first h.part.least even below above) ∙ units_some cfg units first below in
    let all : closed cfg units ≡ ((front ++ pack) ++ sets) ++ (segment ++ last) =
    ap (λ (xs : List ℕ). front ++ (((pack ++ sets) ++ xs) ++ last)) is
    ∙ ap (λ (xs : List ℕ). front ++ xs) (four pack sets segment last)
    ∙ sym (append_assoc front pack (sets ++ (segment ++ last)))
    ∙ sym (append_assoc (front ++ pack) sets (segment ++ last)) in
    let at : ℕ = length front + 124 + 3165 in
    let long : length ((front ++ pack) ++ sets) ≡ at =
    omega (arith, length-append (front ++ pack) sets, length-append front pack, footer_pack_len cfg e, metadata_len cfg (Some (length units)) h) in
    segment_stands cfg (ids_of cfg) (closed cfg units) last at first offsets (ids_sized cfg)
    (ap (λ (xs : List ℕ). drop at xs) all ∙ drop_at ((front ++ pack) ++ sets) (segment ++ last) at long)

-- the header's pack counts the metadata
pub header_counts : (cfg : Fields) → IsInRange cfg
    → drop PACK_LEN (head cfg) ≡ metadata cfg (ids_of cfg) None × (header_pack.header_bytes ≡ length (drop PACK_LEN (head cfg)))
unfolding head
header_counts cfg h =
    let pack : List ℕ = partition_pack header_pack in
    let sets : List ℕ = metadata cfg (ids_of cfg) None in
    let behind : drop 124 (pack ++ sets) ≡ sets = drop_at pack sets 124 (length-partition_pack header_pack refl refl) in
    (behind, sym (ap length behind ∙ metadata_len cfg None h))

-- a body partition's pack counts the segment before the first element
pub body_counts : (cfg : Fields) (units : List (List ℕ)) (unit_len : ℕ) → length units % cfg.part ≡ 0
    → drop (PACK_LEN + (body_pack cfg (extents cfg.part units)).index_bytes) (lead cfg units unit_len) ≡ klv_head PICTURE_ELEMENT_KEY 7 unit_len
unfolding lead_of body_start body_pack
body_counts cfg units unit_len even =
    let e : Extents = extents cfg.part units in
    let pack : List ℕ = partition_pack (body_pack cfg e) in
    let segment : List ℕ = segment_from cfg e (whole_first cfg e) in
    let element : List ℕ = klv_head PICTURE_ELEMENT_KEY 7 unit_len in
    let at : ℕ = 124 + length segment in
    let long : length (pack ++ segment) ≡ at = omega (arith, length-append pack segment, body_pack_len cfg e) in
    ap (λ (xs : List ℕ). drop at (xs ++ element)) (start_due cfg e even) ∙ drop_at (pack ++ segment) element at long

-- the footer's pack counts the metadata and the segment before the random index pack
pub footer_counts : (cfg : Fields) (units : List (List ℕ)) → IsInRange cfg
    → take METADATA (drop PACK_LEN (tail cfg units)) ≡ metadata cfg (ids_of cfg) (Some (length units))
    × (drop (PACK_LEN + METADATA + (footer_pack cfg (extents cfg.part units)).index_bytes) (tail cfg units)
    ≡ random_index_pack (pack_entries cfg (extents cfg.part units)))
unfolding tail_of footer_pack
footer_counts cfg units h =
    let e : Extents = extents cfg.part units in
    let pack : List ℕ = partition_pack (footer_pack cfg e) in
    let sets : List ℕ = metadata cfg (ids_of cfg) (Some (length units)) in
    let segment : List ℕ = segment_from cfg e (last_first cfg e) in
    let last : List ℕ = random_index_pack (pack_entries cfg e) in
    let long : length sets ≡ 3165 = metadata_len cfg (Some (length units)) h in
    let at : ℕ = 124 + 3165 + length segment in
    let all : length ((pack ++ sets) ++ segment) ≡ at =
    omega (arith, length-append (pack ++ sets) segment, length-append pack sets, footer_pack_len cfg e, long) in (
      ap (λ (xs : List ℕ). take 3165 (drop 124 xs)) (four pack sets segment last)
          ∙ ap (λ (xs : List ℕ). take 3165 xs) (drop_at pack (sets ++ (segment ++ last)) 124 (footer_pack_len cfg e))
          ∙ take_at sets (segment ++ last) 3165 long,
      drop_at ((pack ++ sets) ++ segment) last at all,
    )

-- the stream of so many bytes of index tables
streams_named : (n : ℕ) → ((0 < n) × (index_stream n ≡ 2)) ⊎ ((n ≡ 0) × (index_stream n ≡ 0))
streams_named n = elim (cases_eq n 0) [
  | inl none ↦ inr (none, rw (eq-eqb n 0 none) refl)
  | inr some ↦ inl (omega arith, rw (ne_eqb n 0 some) refl)
]

-- packs name the stream of index tables where there are some
pub header_names : NamesIndex header_pack
header_names = inr (refl, refl)

pub body_names : (cfg : Fields) (e : Extents) → NamesIndex (body_pack cfg e)
unfolding body_pack
body_names cfg e = streams_named (length (segment_from cfg e (whole_first cfg e)))

pub footer_names : (cfg : Fields) (e : Extents) → NamesIndex (footer_pack cfg e)
unfolding footer_pack
footer_names cfg e = streams_named (length (segment_from cfg e (last_first cfg e)))

-- bodies alone name the essence stream
pub body_essence : (cfg : Fields) (e : Extents) → (body_pack cfg e).body_sid ≡ 1
unfolding body_pack
body_essence cfg e = refl

pub footer_essence : (cfg : Fields) (e : Extents) → ((footer_pack cfg e).body_sid ≡ 0) × ((footer_pack cfg e).body_offset ≡ 0)
unfolding footer_pack
footer_essence cfg e = (refl, refl)

-- the kind and the status of a partition stand in its pack's key
pub header_kind : (cfg : Fields) → (get_or (head cfg) 13 0 ≡ 2) × (get_or (head cfg) 14 0 ≡ 1)
unfolding head
header_kind cfg = (refl, refl)

pub body_kind : (cfg : Fields) (units : List (List ℕ)) (unit_len : ℕ) → length units % cfg.part ≡ 0
    → (get_or (lead cfg units unit_len) 13 0 ≡ 3) × (get_or (lead cfg units unit_len) 14 0 ≡ 1)
unfolding lead_of body_start body_pack
body_kind cfg units unit_len even =
    let element : List ℕ = klv_head PICTURE_ELEMENT_KEY 7 unit_len in
    let due = start_due cfg (extents cfg.part units) even in
    (ap (λ (xs : List ℕ). get_or (xs ++ element) 13 0) due, ap (λ (xs : List ℕ). get_or (xs ++ element) 14 0) due)

pub footer_kind : (cfg : Fields) (units : List (List ℕ)) → (get_or (tail cfg units) 13 0 ≡ 4) × (get_or (tail cfg units) 14 0 ≡ 4)
unfolding tail_of footer_pack
footer_kind cfg units = (refl, refl)

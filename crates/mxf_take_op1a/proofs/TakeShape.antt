-- The file of a take has this shape.
use Rattle.std.proofs.Common.{◌≡◌, ℕ, ◌+◌, ◌-◌, ◌%◌, ◌^◌, ◌<◌, ◌≤◌, ◌==◌, true, false, cond, List, [], ◌∷◌, ◌++◌, length, map, drop}
use Rattle.std.proofs.Common.{take, Option, Some, None, refl, sym, ap, ◌∙◌, inl, inr, arith, append_assoc, append-nil, length-append}
use Rattle.std.proofs.lemmas.Bool.{cases_eq, eq-eqb, ne_eqb, eqb-true}
use Rattle.std.proofs.lemmas.List.Folds.{flat_map-map}
use Rattle.std.specs.List.{flat_map}
use Rattle.rec_bytes.specs.Configuration.{Fields}
use Rattle.rec_bytes.specs.Ranges.{IsInRange}
use Rattle.klv.specs.Items.{Item, item_of, spelled}
use Rattle.klv.specs.laws.Lengths.{length-spelled}
use Rattle.local_sets.specs.Sets.{local_set}
use Rattle.mxf_names.specs.Identifiers.{ids_of}
use Rattle.mxf_names.specs.Picture.{picture_item}
use Rattle.mxf_names.specs.Keys.{set_key}
use Rattle.mxf_names.specs.declared.keys.TheConstants.{PRIMER_KEY, PICTURE_ELEMENT_KEY}
use Rattle.mxf_partitions.specs.Partitions.{pack_item}
use Rattle.mxf_partitions.specs.RandomIndex.{random_index_item}
use Rattle.mxf_partitions.specs.declared.partition.Partition.{Partition}
use Rattle.mxf_partitions.specs.laws.Lengths.{length-partition_pack}
use Rattle.mxf_metadata.specs.Metadata.{Set, sets, metadata}
use Rattle.mxf_metadata.specs.Primer.{primer, primer_value, own_entry}
use Rattle.mxf_metadata.specs.declared.tags.TheConstants.{TAGS}
use Rattle.mxf_metadata.specs.declared.lengths.TheConstants.{METADATA}
use Rattle.mxf_index.specs.Segments.{segment_item, segment_of, index_segment}
use Rattle.mxf_op1a.specs.Contents.{content_of, pack_or_other}
use Rattle.mxf_op1a.specs.Contents.Content.{Pack, Primer, Set as SetContent, Segment, RandomIndex, Element}
use Rattle.mxf_take_file.specs.Extents.{Extents, extents, file_len}
use Rattle.mxf_take_file.specs.Items.{item_of_set, metadata_items, entries_items, segment_items, start_items, items_behind, tail_items, closed_items}
use Rattle.mxf_take_file.specs.Layout.{growing, lead, start_of}
use Rattle.mxf_take_file.specs.Packs.{header_pack, body_pack, footer_pack, pack_entries}
use Rattle.mxf_take_file.specs.Segments.{segment_from, segment_of_entries, whole_first, last_first, pack_before}
use Rattle.mxf_take_file.specs.laws.Counts.{last_few}
use Rattle.mxf_take_file.specs.laws.Parts.{metadata_len, head_len_is, segment_len_is, extents_whole, body_pack_labels, body_pack_len}
use Rattle.mxf_take_file.specs.laws.Parts.{body_start_parts, start_due, start_not_due, lead_len_by}
use Rattle.mxf_take_file.specs.laws.Trait.{starts, grows}
use Rattle.mxf_partitions.specs.Ranges.{IsInRange as PackInRange}
use Rattle.mxf_take_op1a.proofs.ReadBack.{ReadBack}
use Rattle.mxf_take_op1a.proofs.PlacedLemmas.{bytes_of, AreAll}
use Rattle.mxf_take_op1a.proofs.Shapes.{Units, Shape, IsShape, behind, all_items}
use Rattle.mxf_take_op1a.proofs.SmallLemmas.{AreSmall, small_take, small_front, essence_small, file_small, segment_small}

-- the primer pack of a take's file
abbrev pub primer_item : Item
primer_item = item_of PRIMER_KEY 3 (primer_value (map own_entry TAGS))

-- its sets
abbrev pub set_items : Fields → Option ℕ → List Item
set_items cfg frames = map item_of_set (sets cfg (ids_of cfg) frames)

-- the segments of the body that begins behind units
abbrev pub body_segments : Fields → Units → List Item
body_segments cfg before = segment_items cfg (extents cfg.part before) (whole_first cfg (extents cfg.part before))

-- the shape of the closed file of units
abbrev pub shape : Fields → Units → Shape
shape cfg units = record {
  header = pack_item header_pack;
  opens = header_pack;
  primer = primer_item;
  head_sets = set_items cfg None;
  due = λ before. length before % cfg.part == 0;
  pack = λ before. pack_item (body_pack cfg (extents cfg.part before));
  says = λ before. body_pack cfg (extents cfg.part before);
  segments = body_segments cfg;
  element = picture_item;
  footer = pack_item (footer_pack cfg (extents cfg.part units));
  closes = footer_pack cfg (extents cfg.part units);
  foot_sets = set_items cfg (Some (length units));
  last = segment_items cfg (extents cfg.part units) (last_first cfg (extents cfg.part units));
  random = random_index_item (pack_entries cfg (extents cfg.part units));
  place = λ before. length (growing cfg before);
  key = λ before. length (growing cfg before) + length (start_of cfg (extents cfg.part before));
}

-- its items are those of the layout
behind_is : (cfg : Fields) (all before units : Units)
    → items_behind cfg before units ++ tail_items cfg (extents cfg.part all) ≡ behind (shape cfg all) before units
unfolding items_behind behind start_items
behind_is cfg all before [] = refl
behind_is cfg all before (unit ∷ units) =
    let start : List Item = start_items cfg (extents cfg.part before) in
    let later : List Item = items_behind cfg (before ++ unit ∷ []) units in
    append_assoc start (picture_item unit ∷ later) (tail_items cfg (extents cfg.part all))
    ∙ ap (λ (items : List Item). start ++ (picture_item unit ∷ items)) (behind_is cfg all (before ++ unit ∷ []) units)

pub items_are : (cfg : Fields) (units : Units) → closed_items cfg units ≡ all_items (shape cfg units) units
items_are cfg units =
    ap (λ (items : List Item). pack_item header_pack ∷ (metadata_items cfg None ++ items)) (behind_is cfg units [] units)

-- the bytes of segments
entries_bytes : (cfg : Fields) (first : ℕ) (offsets : List ℕ) → flat_map spelled (entries_items cfg first offsets) ≡ segment_of_entries cfg first offsets
unfolding entries_items segment_of_entries index_segment
entries_bytes cfg first [] = refl
entries_bytes cfg first (offset ∷ offsets) = append-nil (index_segment cfg (ids_of cfg) first (offset ∷ offsets))

pub segment_bytes_are : (cfg : Fields) (e : Extents) (first : ℕ) → length (segment_from cfg e first) ≡ bytes_of (segment_items cfg e first)
unfolding segment_from
segment_bytes_are cfg e first = ap length (sym (entries_bytes cfg first (drop first e.offsets)))

-- and of metadata
metadata_bytes : (cfg : Fields) (frames : Option ℕ) → flat_map spelled (metadata_items cfg frames) ≡ metadata cfg (ids_of cfg) frames
unfolding metadata primer local_set
metadata_bytes cfg frames = ap (λ (xs : List ℕ). primer ++ xs) (flat_map-map spelled item_of_set (sets cfg (ids_of cfg) frames))

pub metadata_bytes_are : (cfg : Fields) (frames : Option ℕ) → IsInRange cfg → METADATA ≡ bytes_of (primer_item ∷ set_items cfg frames)
metadata_bytes_are cfg frames h = sym (ap length (metadata_bytes cfg frames) ∙ metadata_len cfg frames h)

-- what items are
element_is : ReadBack → (unit : List ℕ) → content_of (picture_item unit) ≡ Element
unfolding content_of
element_is r unit = ap (λ (found : Option Partition). pack_or_other found PICTURE_ELEMENT_KEY) (r.element 7 unit)

primer_is : ReadBack → content_of primer_item ≡ Primer
unfolding content_of
primer_is r = ap (λ (found : Option Partition). pack_or_other found PRIMER_KEY) (r.primer 3 (primer_value (map own_entry TAGS)))

set_is : ReadBack → (set : Set) → content_of (item_of_set set) ≡ SetContent
unfolding content_of
set_is r set = ap (λ (found : Option Partition). pack_or_other found (set_key set.kind)) (r.set set.kind 3 (item_of_set set).value)

sets_are : ReadBack → (list : List Set) → AreAll SetContent (map item_of_set list)
sets_are r [] = tt
sets_are r (set ∷ list) = (set_is r set, sets_are r list)

segment_is : ReadBack → (cfg : Fields) (first : ℕ) (offsets : List ℕ) → AreAll Segment (entries_items cfg first offsets)
unfolding entries_items content_of
segment_is r cfg first [] = tt
segment_is r cfg first (offset ∷ offsets) =
    let item : Item = segment_item (segment_of cfg (ids_of cfg) first (offset ∷ offsets)) in
    (ap (λ (found : Option Partition). pack_or_other found item.key) (r.index_segment 3 item.value), tt)

random_is : ReadBack → (cfg : Fields) (e : Extents) → content_of (random_index_item (pack_entries cfg e)) ≡ RandomIndex
unfolding content_of
random_is r cfg e =
    let item : Item = random_index_item (pack_entries cfg e) in
    ap (λ (found : Option Partition). pack_or_other found item.key) (r.random_index 3 item.value)

pack_is : ReadBack → (p : Partition) → PackInRange p → p.label_count ≡ 1 → content_of (pack_item p) ≡ Pack p
unfolding content_of
pack_is r p h one = ap (λ (found : Option Partition). pack_or_other found (pack_item p).key) (r.pack p h one)

-- the numbers of packs fit
header_fits : PackInRange header_pack
header_fits = record {
  major = omega arith;
  minor = omega arith;
  kag = omega arith;
  this = omega arith;
  previous = omega arith;
  footer = omega arith;
  header_bytes = omega arith;
  index_bytes = omega arith;
  index_sid = omega arith;
  body_offset = omega arith;
  body_sid = omega arith;
  pattern = refl;
  label_count = omega arith;
  label = refl;
}

before_fits : (cfg : Fields) (units : Units) (first : ℕ) → IsInRange cfg → AreSmall units → pack_before (extents cfg.part units) first < 256 ^ 8
before_fits cfg units first h small = elim (cases_eq (length units) 0) [
  | inl none ↦ rw (eq-eqb (length units) 0 none) (omega arith)
  | inr some ↦ rw (ne_eqb (length units) 0 some) (omega (arith, file_small cfg (take first units) h (small_take first units small)))
]

stream_fits : (n : ℕ) → cond (n == 0) 0 2 < 256 ^ 4
stream_fits n = elim (cases_eq n 0) [
  | inl none ↦ rw (eq-eqb n 0 none) (omega arith)
  | inr some ↦ rw (ne_eqb n 0 some) (omega arith)
]

whole_file : (cfg : Fields) (units : Units) → IsInRange cfg → AreSmall units → file_len cfg.part (take (length units) units) < 256 ^ 8
whole_file cfg units h small = omega (arith, file_small cfg (take (length units) units) h (small_take (length units) units small))

segment_fits : (cfg : Fields) (units : Units) (first : ℕ) → length units - first ≤ 2000 → length (segment_from cfg (extents cfg.part units) first) < 256 ^ 8
segment_fits cfg units first h =
    omega (arith, segment_len_is cfg (extents cfg.part units) first (extents_whole cfg.part units), segment_small (length units - first) h)

body_fits : (cfg : Fields) (units : Units) → IsInRange cfg → AreSmall units → PackInRange (body_pack cfg (extents cfg.part units))
unfolding body_pack
body_fits cfg units h small =
    let e : Extents = extents cfg.part units in
    let part = h.part.most in
    record {
      major = omega arith;
      minor = omega arith;
      kag = omega arith;
      this = whole_file cfg units h small;
      previous = before_fits cfg units (whole_first cfg e) h small;
      footer = omega arith;
      header_bytes = omega arith;
      index_bytes = segment_fits cfg units (whole_first cfg e) (omega arith);
      index_sid = stream_fits (length (segment_from cfg e (whole_first cfg e)));
      body_offset = omega (arith, essence_small units small);
      body_sid = omega arith;
      pattern = refl;
      label_count = omega arith;
      label = refl;
    }

footer_fits : (cfg : Fields) (units : Units) → IsInRange cfg → AreSmall units → PackInRange (footer_pack cfg (extents cfg.part units))
unfolding footer_pack
footer_fits cfg units h small =
    let e : Extents = extents cfg.part units in
    let part = h.part.most in
    let few = last_few cfg.part (length units) h.part.least in
    record {
      major = omega arith;
      minor = omega arith;
      kag = omega arith;
      this = whole_file cfg units h small;
      previous = before_fits cfg units (last_first cfg e) h small;
      footer = whole_file cfg units h small;
      header_bytes = omega arith;
      index_bytes = segment_fits cfg units (last_first cfg e) (omega arith);
      index_sid = stream_fits (length (segment_from cfg e (last_first cfg e)));
      body_offset = omega arith;
      body_sid = omega arith;
      pattern = refl;
      label_count = omega arith;
      label = refl;
    }

footer_labels : (cfg : Fields) (e : Extents) → (footer_pack cfg e).label_count ≡ 1
unfolding footer_pack
footer_labels cfg e = refl

-- the parts stand where the layout puts them
starts_at : (cfg : Fields) → IsInRange cfg → length (growing cfg []) ≡ length (spelled (pack_item header_pack)) + bytes_of (primer_item ∷ set_items cfg None)
starts_at cfg h = ap length (starts cfg) ∙ head_len_is cfg h ∙ omega (arith, length-partition_pack header_pack refl refl, metadata_bytes_are cfg None h)

due_key : (cfg : Fields) (before : Units) → (length before % cfg.part == 0) ≡ true
    → length (growing cfg before) + length (start_of cfg (extents cfg.part before))
    ≡ length (growing cfg before) + length (spelled (pack_item (body_pack cfg (extents cfg.part before)))) + bytes_of (body_segments cfg before)
due_key cfg before due =
    let e : Extents = extents cfg.part before in
    let even : length before % cfg.part ≡ 0 = eqb-true (length before % cfg.part) 0 due in
    omega (
      arith,
      ap length (start_due cfg e even),
      body_start_parts cfg e (whole_first cfg e) refl,
      body_pack_len cfg e,
      segment_bytes_are cfg e (whole_first cfg e),
    )

stays_key : (cfg : Fields) (before : Units) → (length before % cfg.part == 0) ≡ false
    → length (growing cfg before) + length (start_of cfg (extents cfg.part before)) ≡ length (growing cfg before)
stays_key cfg before stays =
    let uneven : length before % cfg.part ≡ 0 → ⊥ = λ (e : length before % cfg.part ≡ 0).
    let is = eq-eqb (length before % cfg.part) 0 e in absurd (cc) in
    omega (arith, ap length (start_not_due cfg (extents cfg.part before) uneven))

next_place : (cfg : Fields) (before : Units) (unit : List ℕ)
    → length (growing cfg (before ++ unit ∷ [])) ≡ length (growing cfg before) + length (start_of cfg (extents cfg.part before)) + length
    (spelled (picture_item unit))
next_place cfg before unit =
    let lead_is : List ℕ = lead cfg before (length unit) in
    omega (
      arith,
      ap length (grows cfg before unit),
      length-append (growing cfg before) (lead_is ++ unit),
      length-append lead_is unit,
      lead_len_by cfg (extents cfg.part before) (length unit),
      length-spelled (picture_item unit) refl,
    )

pub is_shape : ReadBack → (cfg : Fields) (units : Units) → IsInRange cfg → AreSmall units → IsShape (shape cfg units) units
is_shape r cfg units h small = record {
  header_is = pack_is r header_pack header_fits refl;
  primer_is = primer_is r;
  head_sets_are = sets_are r (sets cfg (ids_of cfg) None);
  pack_is = λ before rest e. pack_is r (body_pack cfg (extents cfg.part before)) (body_fits cfg before h (small_front units before rest e small))
      (body_pack_labels cfg (extents cfg.part before));
  segments_are = λ before. segment_is r cfg _ _;
  element_is = element_is r;
  footer_is = pack_is r (footer_pack cfg (extents cfg.part units)) (footer_fits cfg units h small) (footer_labels cfg (extents cfg.part units));
  foot_sets_are = sets_are r (sets cfg (ids_of cfg) (Some (length units)));
  last_are = segment_is r cfg _ _;
  random_is = random_is r cfg (extents cfg.part units);
  starts = starts_at cfg h;
  due_key = due_key cfg;
  stays_key = stays_key cfg;
  next = next_place cfg;
}

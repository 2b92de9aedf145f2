-- The items of a take's file are items of key, length and value.
use Rattle.std.proofs.Common.{◌≡◌, ℕ, ◌-◌, ◌^◌, ◌≤◌, List, [], ◌∷◌, ◌++◌, length, map, drop}
use Rattle.std.proofs.Common.{Option, Some, None, refl, sym, subst, inl, inr, arith, length-append}
use Rattle.std.proofs.lemmas.List.{length-drop}
use Rattle.std.specs.List.{flat_map, AllByRecursion}
use Rattle.rec_bytes.specs.Configuration.{Fields}
use Rattle.rec_bytes.specs.Ranges.{IsInRange}
use Rattle.klv.specs.Items.{Item, IsItem, spelled, length_limit}
use Rattle.klv.specs.laws.Lengths.{length-spelled}
use Rattle.mxf_names.specs.Identifiers.{ids_of}
use Rattle.mxf_names.specs.Picture.{picture_item}
use Rattle.mxf_partitions.specs.Partitions.{pack_item}
use Rattle.mxf_partitions.specs.RandomIndex.{random_index_item}
use Rattle.mxf_partitions.specs.declared.partition.Partition.{Partition}
use Rattle.mxf_partitions.specs.declared.partition.TheConstants.{LABEL_LEN}
use Rattle.mxf_partitions.specs.laws.Lengths.{length-pack_value, length-random_index_pack}
use Rattle.mxf_metadata.specs.Metadata.{Set, sets}
use Rattle.mxf_metadata.specs.Primer.{primer_value}
use Rattle.mxf_index.specs.laws.Lengths.{length-items}
use Rattle.mxf_take_file.specs.Essence.{stream_offsets}
use Rattle.mxf_take_file.specs.Extents.{Extents, extents}
use Rattle.mxf_take_file.specs.Items.{item_of_set, entries_items, segment_items}
use Rattle.mxf_take_file.specs.Packs.{header_pack, body_pack, footer_pack, pack_entries}
use Rattle.mxf_take_file.specs.Segments.{whole_first, last_first}
use Rattle.mxf_take_file.specs.laws.Counts.{count_few, last_few}
use Rattle.mxf_take_file.specs.laws.Parts.{ids_sized, offsets_are, entries_count}
use Rattle.mxf_take_op1a.proofs.PlacedLemmas.{bytes_of}
use Rattle.mxf_take_op1a.proofs.Shapes.{Units, Shape, behind, behind_due, behind_stays, closing, all_items, tested}
use Rattle.mxf_take_op1a.proofs.SmallLemmas.{AreSmall, each_join}
use Rattle.mxf_take_op1a.proofs.TakeShape.{shape, primer_item, set_items, body_segments, metadata_bytes_are}

pack_item_is : (p : Partition) → length p.pattern ≡ LABEL_LEN → length p.label ≡ LABEL_LEN → IsItem (pack_item p)
unfolding length_limit
pack_item_is p pattern label = record { key = refl; form = omega arith; fits = omega (arith, length-pack_value p pattern label) }

element_item_is : (unit : List ℕ) → length unit ≤ 2 ^ 28 → IsItem (picture_item unit)
unfolding length_limit
element_item_is unit h = record { key = refl; form = omega arith; fits = omega (arith, h) }

primer_item_is : IsItem primer_item
unfolding length_limit primer_value
primer_item_is = record { key = refl; form = omega arith; fits = omega arith }

sets_items : (list : List Set) → bytes_of (map item_of_set list) ≤ 4000 → AllByRecursion IsItem (map item_of_set list)
unfolding length_limit
sets_items [] h = tt
sets_items (set ∷ list) h =
    let whole = length-append (spelled (item_of_set set)) (flat_map spelled (map item_of_set list)) in
    let one = length-spelled (item_of_set set) refl in
    (record { key = refl; form = omega arith; fits = omega (arith, h, whole, one) }, sets_items list (omega (arith, h, whole)))

heading_items : (cfg : Fields) (frames : Option ℕ) → IsInRange cfg → AllByRecursion IsItem (primer_item ∷ set_items cfg frames)
heading_items cfg frames h = (
  primer_item_is,
  sets_items (sets cfg (ids_of cfg) frames)
      (omega (arith, metadata_bytes_are cfg frames h, length-append (spelled primer_item) (flat_map spelled (set_items cfg frames)))),
)

segment_items_are : (cfg : Fields) (first : ℕ) (offsets : List ℕ) → length offsets ≤ 2000 → AllByRecursion IsItem (entries_items cfg first offsets)
unfolding entries_items length_limit
segment_items_are cfg first [] h = tt
segment_items_are cfg first (offset ∷ offsets) h = (
  record { key = refl; form = omega arith; fits = omega (arith, h, length-items cfg (ids_of cfg) first (offset ∷ offsets) (ids_sized cfg)) },
  tt,
)

units_segment : (cfg : Fields) (units : Units) (first : ℕ) → length units - first ≤ 2000
    → AllByRecursion IsItem (segment_items cfg (extents cfg.part units) first)
units_segment cfg units first h =
    segment_items_are cfg first (drop first (stream_offsets units)) (omega (arith, length-drop first (stream_offsets units), offsets_are units, h))

random_item_is : (cfg : Fields) (units : Units) → IsInRange cfg → AreSmall units → IsItem (random_index_item (pack_entries cfg (extents cfg.part units)))
unfolding length_limit
random_item_is cfg units h small =
    let item : Item = random_index_item (pack_entries cfg (extents cfg.part units)) in
    let long = length-random_index_pack (pack_entries cfg (extents cfg.part units)) in
    record {
      key = refl;
      form = omega arith;
      fits = omega (
        arith,
        length-spelled item refl,
        long,
        entries_count cfg (extents cfg.part units),
        count_few cfg.part (length units) h.part.least,
        small.few,
      );
    }

closing_items : (cfg : Fields) (units : Units) → IsInRange cfg → AreSmall units → AllByRecursion IsItem (closing (shape cfg units))
closing_items cfg units h small =
    let e : Extents = extents cfg.part units in
    let few = last_few cfg.part (length units) h.part.least in
    let part = h.part.most in
    let last = units_segment cfg units (last_first cfg e) (omega (arith, few, part)) in
    let heading = heading_items cfg (Some (length units)) h in (
      heading.0,
      each_join IsItem (set_items cfg (Some (length units))) _ heading.1
          (each_join IsItem (segment_items cfg e (last_first cfg e)) _ last (random_item_is cfg units h small, tt)),
    )

body_pack_is : (cfg : Fields) (e : Extents) → IsItem (pack_item (body_pack cfg e))
unfolding body_pack
body_pack_is cfg e = pack_item_is (body_pack cfg e) refl refl

footer_pack_is : (cfg : Fields) (e : Extents) → IsItem (pack_item (footer_pack cfg e))
unfolding footer_pack
footer_pack_is cfg e = pack_item_is (footer_pack cfg e) refl refl

behind_items : (cfg : Fields) (all before units : Units) → IsInRange cfg → AreSmall all → AllByRecursion (λ unit. length unit ≤ 2 ^ 28) units
    → AllByRecursion IsItem (behind (shape cfg all) before units)
unfolding behind
behind_items cfg all before [] h small each = (footer_pack_is cfg (extents cfg.part all), closing_items cfg all h small)
behind_items cfg all before (unit ∷ units) h small each =
    let s : Shape = shape cfg all in
    let part = h.part.most in
    let e : Extents = extents cfg.part before in
    let later : AllByRecursion IsItem (picture_item unit ∷ behind s (before ++ unit ∷ []) units) =
    (element_item_is unit each.0, behind_items cfg all (before ++ unit ∷ []) units h small each.1) in
    elim (tested (s.due before)) [
      | inl due ↦ subst (AllByRecursion IsItem) (sym (behind_due s before unit units due)) (
        body_pack_is cfg e,
        each_join IsItem (body_segments cfg before) (picture_item unit ∷ behind s (before ++ unit ∷ []) units)
            (units_segment cfg before (whole_first cfg e) (omega (arith, part))) later,
      )
      | inr stays ↦ subst (AllByRecursion IsItem) (sym (behind_stays s before unit units stays)) later
    ]

pub each_item : (cfg : Fields) (units : Units) → IsInRange cfg → AreSmall units → AllByRecursion IsItem (all_items (shape cfg units) units)
each_item cfg units h small = (
  pack_item_is header_pack refl refl,
  each_join IsItem (primer_item ∷ set_items cfg None) _ (heading_items cfg None h) (behind_items cfg units [] units h small small.each),
)

-- The items of which a take's file is made (SMPTE ST 336, ST 377-1). docs/FORMATS.md, "A take's file".
use Rattle.std.specs.Prelude.{ℕ, ◌%◌, ◌==◌, if◌then◌else◌, List, [], ◌∷◌, ◌++◌, map, drop, Option, Some, None}
use Rattle.rec_bytes.specs.Configuration.{Fields}
use Rattle.klv.specs.Items.{Item, item_of}
use Rattle.local_sets.specs.Sets.{set_item}
use Rattle.mxf_names.specs.Identifiers.{ids_of}
use Rattle.mxf_names.specs.Keys.{set_key}
use Rattle.mxf_names.specs.Picture.{picture_item}
use Rattle.mxf_names.specs.declared.keys.TheConstants.{PRIMER_KEY}
use Rattle.mxf_partitions.specs.Partitions.{pack_item}
use Rattle.mxf_partitions.specs.RandomIndex.{random_index_item}
use Rattle.mxf_metadata.specs.Metadata.{Set, sets}
use Rattle.mxf_metadata.specs.Primer.{primer_value, own_entry}
use Rattle.mxf_metadata.specs.declared.tags.TheConstants.{TAGS}
use Rattle.mxf_index.specs.Segments.{segment_item, segment_of}
use Rattle.mxf_take_file.specs.Extents.{Extents, extents}
use Rattle.mxf_take_file.specs.Packs.{header_pack, body_pack, footer_pack, pack_entries}
use Rattle.mxf_take_file.specs.Segments.{whole_first, last_first}

-- a set of the metadata
abbrev pub item_of_set : Set → Item
item_of_set set = set_item (set_key set.kind) set.items

-- the primer pack and the sets
abbrev pub metadata_items : Fields → Option ℕ → List Item
metadata_items cfg frames = item_of PRIMER_KEY 3 (primer_value (map own_entry TAGS)) ∷ map item_of_set (sets cfg (ids_of cfg) frames)

-- an index table segment, where there are entries
unfoldable pub entries_items : Fields → ℕ → List ℕ → List Item
entries_items cfg first [] = []
entries_items cfg first (offset ∷ offsets) = segment_item (segment_of cfg (ids_of cfg) first (offset ∷ offsets)) ∷ []

-- that of the units from a number on
abbrev pub segment_items : Fields → Extents → ℕ → List Item
segment_items cfg e first = entries_items cfg first (drop first e.offsets)

-- what begins before a unit whose number is a multiple of part
unfoldable pub start_items : Fields → Extents → List Item
start_items cfg e = if e.count % cfg.part == 0 then pack_item (body_pack cfg e) ∷ segment_items cfg e (whole_first cfg e) else []

-- units behind others
unfoldable pub items_behind : Fields → List (List ℕ) → List (List ℕ) → List Item
items_behind cfg before [] = []
items_behind cfg before (unit ∷ units) =
    start_items cfg (extents cfg.part before) ++ (picture_item unit ∷ items_behind cfg (before ++ unit ∷ []) units)

-- the footer partition and the random index pack
abbrev pub tail_items : Fields → Extents → List Item
tail_items cfg e =
    pack_item (footer_pack cfg e)
    ∷ (metadata_items cfg (Some e.count) ++ (segment_items cfg e (last_first cfg e) ++ (random_index_item (pack_entries cfg e) ∷ [])))

-- those of the closed file
abbrev pub closed_items : Fields → List (List ℕ) → List Item
closed_items cfg units =
    pack_item header_pack ∷ (metadata_items cfg None ++ (items_behind cfg [] units ++ tail_items cfg (extents cfg.part units)))

-- The file of a take in edition 1 of its layout (SMPTE ST 377-1, ST 378; layout own). docs/FORMATS.md, "A take's file".
use Rattle.klv.specs.declared.head.TheConstants.{ELEMENT_HEAD_LEN}
use Rattle.std.specs.Prelude.{◌≤◌, ℕ, ◌+◌, ◌%◌, ◌==◌, if◌then◌else◌, List, [], ◌++◌, length, Some, None}
use Rattle.rec_bytes.specs.Configuration.{Fields}
use Rattle.klv.specs.Items.{klv_head}
use Rattle.mxf_names.specs.declared.keys.TheConstants.{PICTURE_ELEMENT_KEY}
use Rattle.mxf_partitions.specs.Partitions.{partition_pack}
use Rattle.mxf_partitions.specs.RandomIndex.{random_index_pack, random_index_size}
use Rattle.mxf_partitions.specs.declared.partition.TheConstants.{PACK_LEN}
use Rattle.mxf_names.specs.Identifiers.{ids_of}
use Rattle.mxf_metadata.specs.Metadata.{metadata}
use Rattle.mxf_metadata.specs.declared.lengths.TheConstants.{METADATA}
use Rattle.take_layout.specs.declared.place.Place.{Place}
use Rattle.mxf_take_file.specs.Essence.{essence}
use Rattle.mxf_take_file.specs.Extents.{Extents, extents, body_count, segment_bytes}
use Rattle.take_layout.specs.Grown.{grown, lying}
use Rattle.mxf_take_file.specs.Packs.{header_pack, body_pack, footer_pack, pack_entries}
use Rattle.mxf_take_file.specs.Segments.{segment_from, whole_first, last_first}
use Rattle.mxf_take_file.specs.declared.picture_layout.TheConstants.{MAX_UNIT}

-- a unit has at most 2^28 bytes
abbrev pub is_unit : Fields → List ℕ → Type 0
is_unit cfg unit = length unit ≤ MAX_UNIT

-- the header partition: its pack, and metadata that know no duration
unfoldable pub head : Fields → List ℕ
head cfg = partition_pack header_pack ++ metadata cfg (ids_of cfg) None

-- where a body partition begins: its pack, and the index table segment of the units of the one before
unfoldable pub body_start : Fields → Extents → List ℕ
body_start cfg e = partition_pack (body_pack cfg e) ++ segment_from cfg e (whole_first cfg e)

-- the same before a unit whose number is a multiple of part; nothing before any other
unfoldable pub start_of : Fields → Extents → List ℕ
start_of cfg e = if e.count % cfg.part == 0 then body_start cfg e else []

-- what stands before the next unit: where one is due the start of a body partition, and the element's key and length
unfoldable pub lead_of : Fields → Extents → ℕ → List ℕ
lead_of cfg e unit_len = start_of cfg e ++ klv_head PICTURE_ELEMENT_KEY 7 unit_len

-- the footer partition: its pack, metadata with the duration, the index table segment of the last units, and the random
-- index pack
unfoldable pub tail_of : Fields → Extents → List ℕ
tail_of cfg e =
    partition_pack (footer_pack cfg e) ++ metadata cfg (ids_of cfg) (Some e.count) ++ segment_from cfg e (last_first cfg e)
    ++ random_index_pack (pack_entries cfg e)

-- the lead of a unit of a length behind units
abbrev pub lead : Fields → List (List ℕ) → ℕ → List ℕ
lead cfg units unit_len = lead_of cfg (extents cfg.part units) unit_len

-- what closes the file of units
abbrev pub tail : Fields → List (List ℕ) → List ℕ
tail cfg units = tail_of cfg (extents cfg.part units)

-- the file of units that may go on
abbrev pub growing : Fields → List (List ℕ) → List ℕ
growing cfg units = grown (head cfg) (lead cfg) units

-- the file of units that ends with them
abbrev pub closed : Fields → List (List ℕ) → List ℕ
closed cfg units = growing cfg units ++ tail cfg units

-- the stream offset of the unit behind others
abbrev pub stream_of : Fields → List (List ℕ) → ℕ
stream_of cfg units = length (essence units)

-- where units lie in that file
abbrev pub places_of : Fields → List (List ℕ) → List Place
places_of cfg units = lying (stream_of cfg) (head cfg) (lead cfg) units

-- the longest lead: a pack, the index table segment of a whole body partition, and an element's key and length
abbrev pub lead_most : Fields → ℕ
lead_most cfg = PACK_LEN + segment_bytes cfg.part + ELEMENT_HEAD_LEN

-- a tail with as many index entries as a body partition has, and as many partitions as the take may have
abbrev pub tail_most : Fields → ℕ
tail_most cfg = PACK_LEN + METADATA + segment_bytes cfg.part + random_index_size (body_count cfg.part cfg.max_frames + 2)

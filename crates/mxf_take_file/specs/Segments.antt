-- The index table segments of a take's file (SMPTE ST 377-1). docs/FORMATS.md, "A take's file".
use Rattle.std.specs.Prelude.{ℕ, ◌-◌, ◌*◌, ◌==◌, if◌then◌else◌, List, [], ◌∷◌, drop}
use Rattle.rec_bytes.specs.Configuration.{Fields}
use Rattle.mxf_names.specs.Identifiers.{ids_of}
use Rattle.mxf_index.specs.Segments.{index_segment}
use Rattle.mxf_take_file.specs.Extents.{Extents, body_count, segment_bytes}

-- the bytes of a segment of so many entries; none where there are no entries
abbrev pub segment_size : ℕ → ℕ
segment_size n = if n == 0 then 0 else segment_bytes n

-- a segment whose first entry is the one of a unit; nothing where there are no entries
unfoldable pub segment_of_entries : Fields → ℕ → List ℕ → List ℕ
segment_of_entries cfg first [] = []
segment_of_entries cfg first (offset ∷ offsets) = index_segment cfg (ids_of cfg) first (offset ∷ offsets)

-- the segment of the units from a number on
unfoldable pub segment_from : Fields → Extents → ℕ → List ℕ
segment_from cfg e first = segment_of_entries cfg first (drop first e.offsets)

-- the unit at which the body partition before one that begins now began
abbrev pub whole_first : Fields → Extents → ℕ
whole_first cfg e = e.count - cfg.part

-- the unit at which the last body partition began
abbrev pub last_first : Fields → Extents → ℕ
last_first cfg e = (body_count cfg.part e.count - 1) * cfg.part

-- the place of the pack of the body partition that began at a unit; where there are no units that of the header
abbrev pub pack_before : Extents → ℕ → ℕ
pack_before e first = if e.count == 0 then 0 else e.end_of first

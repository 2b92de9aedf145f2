-- How far the file of units and its essence stream reach (own layout). docs/FORMATS.md, "A take's file".
use Rattle.std.specs.Prelude.{ℕ, ◌+◌, ◌-◌, ◌*◌, List, length, take}
use Rattle.std.specs.Int.{div_ceil}
use Rattle.mxf_partitions.specs.declared.partition.TheConstants.{PACK_LEN}
use Rattle.mxf_index.specs.declared.segment.TheConstants.{SEGMENT_LEN}
use Rattle.mxf_index.specs.declared.tags.TheConstants.{ENTRY_SIZE}
use Rattle.mxf_take_file.specs.Essence.{essence, stream_offsets}
use Rattle.mxf_take_file.specs.declared.lead.TheConstants.{HEADER_LEN}

-- the body partitions of n units: one begins before every unit whose number is a multiple of part
unfoldable pub body_count : ℕ → ℕ → ℕ
body_count part n = div_ceil n part

-- the length of an index table segment of n entries
abbrev pub segment_bytes : ℕ → ℕ
segment_bytes n = SEGMENT_LEN + ENTRY_SIZE * n

-- the length of the growing file: the head, the packs of the body partitions, in each but the first the index table
-- segment of the units of the one before, and the essence stream
abbrev pub file_len : ℕ → List (List ℕ) → ℕ
file_len part units =
    HEADER_LEN + body_count part (length units) * PACK_LEN + (body_count part (length units) - 1) * segment_bytes part
    + length (essence units)

-- what the partitions of a file say of its units: how many there are, where the growing file of the first so many ends,
-- their stream offsets, and the length of the essence stream
pub record Extents : Type 0 where
  pub count : ℕ
  pub end_of : ℕ → ℕ
  pub offsets : List ℕ
  pub total : ℕ

-- this of units
abbrev pub extents : ℕ → List (List ℕ) → Extents
extents part units = record {
  count = length units;
  end_of = λ n. file_len part (take n units);
  offsets = stream_offsets units;
  total = length (essence units);
}

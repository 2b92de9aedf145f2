-- What stands in the bytes of a take's file, field by field (SMPTE ST 377-1). docs/FORMATS.md, "Index table segments".
use Rattle.std.specs.Prelude.{◌≡◌, ◌<◌, ◌⊎◌, ℕ, ◌+◌, ◌*◌, List, length, take, drop, slice_index}
use Rattle.byteorder.specs.Endian.{big_bytes}
use Rattle.mxf_names.specs.declared.keys.TheConstants.{INDEX_SEGMENT_KEY}
use Rattle.mxf_partitions.specs.declared.partition.Partition.{Partition}

-- at a place stands an index table segment: its first frame, how many they are, and the stream offset of each
pub record SegmentStands (bytes : List ℕ) (at first : ℕ) (offsets : List ℕ) : Type 0 where
  pub key : take 16 (drop at bytes) ≡ INDEX_SEGMENT_KEY
  pub first_is : take 8 (drop (at + 56) bytes) ≡ big_bytes 8 first
  pub count_is : take 8 (drop (at + 68) bytes) ≡ big_bytes 8 (length offsets)
  pub entry_is : (k : ℕ) → k < length offsets → take 8 (drop (at + (138 + 11 * k)) bytes) ≡ big_bytes 8 (slice_index offsets k)

-- a pack names the stream of index tables, which is 2, exactly where its partition has bytes of them
abbrev pub NamesIndex : Partition → Type 0
NamesIndex p = ((0 < p.index_bytes) × (p.index_sid ≡ 2)) ⊎ ((p.index_bytes ≡ 0) × (p.index_sid ≡ 0))

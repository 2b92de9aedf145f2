-- Where a lead ends, by the keys that stand in bytes (own). Private functions alone cite these: what `walk` promises is in
-- the trait.
use Rattle.klv.specs.declared.head.TheConstants.{ELEMENT_HEAD_LEN}
use Rattle.std.specs.Prelude.{ℕ, ◌+◌, ◌-◌, ◌^◌, Bool, nat_lt, ◌==◌, if◌then◌else◌, List, length, take, drop, slice_index, min}
use Rattle.std.specs.Str.{bytes_eq}
use Rattle.byteorder.specs.Endian.{big_number}
use Rattle.mxf_names.specs.Keys.{partition_key}
use Rattle.mxf_names.specs.declared.keys.TheConstants.{PICTURE_ELEMENT_KEY}
use Rattle.mxf_names.specs.declared.partition_keys.PartitionKind.TheVariants.{Body}
use Rattle.mxf_names.specs.declared.partition_keys.PartitionStatus.TheVariants.{OpenIncomplete}
use Rattle.mxf_partitions.specs.declared.partition.TheConstants.{PACK_LEN}
use Rattle.mxf_names.specs.declared.keys.TheConstants.{INDEX_SEGMENT_KEY}
use Rattle.take_layout.specs.declared.walk.Walk.{Walk}
use Rattle.take_layout.specs.declared.walk.Walk.TheVariants as walk
use Rattle.mxf_take_file.specs.Extents.{segment_bytes}
use Rattle.mxf_take_file.specs.declared.picture_layout.TheConstants.{MAX_UNIT}
use Rattle.mxf_take_file.specs.declared.walk.Stand.{Stand}
use Rattle.mxf_take_file.specs.declared.walk.Stand.TheVariants.{At, More, Broken}

-- the key of the pack of a body partition
abbrev pub body_key : List ℕ
body_key = partition_key Body OpenIncomplete

-- whether a key stands at a place
unfoldable pub stands : List ℕ → ℕ → List ℕ → Bool
stands bytes at key = bytes_eq (take 16 (drop at bytes)) key

-- the picture element's key at a place, with the length behind it
unfoldable pub stand_at : List ℕ → ℕ → Stand
stand_at bytes at =
    if nat_lt (length bytes) (at + ELEMENT_HEAD_LEN) then More (at + ELEMENT_HEAD_LEN)
    else if stands bytes at PICTURE_ELEMENT_KEY then At at
    else Broken at

-- the same behind the pack of a body partition and its index table segment
unfoldable pub stand_behind_pack : ℕ → List ℕ → Stand
stand_behind_pack part bytes =
    if nat_lt (length bytes) (PACK_LEN + ELEMENT_HEAD_LEN) then More (PACK_LEN + ELEMENT_HEAD_LEN)
    else if stands bytes PACK_LEN PICTURE_ELEMENT_KEY then At PACK_LEN
    else if stands bytes PACK_LEN INDEX_SEGMENT_KEY then stand_at bytes (PACK_LEN + segment_bytes part)
    else Broken PACK_LEN

-- the same at the end of a lead
unfoldable pub stand_first : ℕ → List ℕ → Stand
stand_first part bytes =
    if nat_lt (length bytes) ELEMENT_HEAD_LEN then More ELEMENT_HEAD_LEN
    else if stands bytes 0 PICTURE_ELEMENT_KEY then At 0
    else if stands bytes 0 body_key then stand_behind_pack part bytes
    else Broken 0

-- a place behind another, or the greatest number where there is none
abbrev pub far : ℕ → ℕ → ℕ
far from n = min (from + n) (2 ^ 64 - 1)

-- the unit of the picture element whose key stands at a place
unfoldable pub found_at : List ℕ → ℕ → ℕ → Walk
found_at bytes at from =
    if slice_index bytes (at + 16) == 0x87 then
    (if nat_lt MAX_UNIT (big_number 7 (drop (at + 17) bytes)) then walk.Broken (far from (at + 17))
    else if nat_lt (from + (at + ELEMENT_HEAD_LEN)) (2 ^ 64) then walk.Lead (from + (at + ELEMENT_HEAD_LEN)) (big_number 7 (drop (at + 17) bytes))
    else walk.Broken (2 ^ 64 - 1))
    else walk.Broken (far from (at + 16))

-- what stands at the front of bytes that lie at a place of the file
abbrev pub look_of : Stand → List ℕ → ℕ → Walk
look_of (At at) bytes from = found_at bytes at from
look_of (More need) bytes from = walk.More need
look_of (Broken at) bytes from = walk.Broken (far from at)

-- the same
unfoldable pub look_at : ℕ → List ℕ → ℕ → Walk
look_at part bytes from = look_of (stand_first part bytes) bytes from

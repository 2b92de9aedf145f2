-- What packs say (SMPTE ST 377-1). docs/FORMATS.md, "Partition packs", "Random index pack".
use Rattle.std.specs.Prelude.{ℕ, ◌+◌, ◌*◌, ◌-◌, ◌/◌, ◌==◌, ◌&&◌, Bool, if◌then◌else◌, List, length, take, drop, map, replicate, slice_index, Option, Some, None}
use Rattle.std.specs.List.{range_with_len}
use Rattle.std.specs.Str.{bytes_eq}
use Rattle.byteorder.specs.Endian.{big_number}
use Rattle.klv.specs.Items.{Item, spelled}
use Rattle.mxf_names.specs.declared.keys.TheConstants.{PARTITION_KEY_START, RANDOM_INDEX_KEY}
use Rattle.mxf_names.specs.declared.partition_keys.PartitionKind.{PartitionKind}
use Rattle.mxf_names.specs.declared.partition_keys.PartitionKind.TheVariants.{Header, Body, Footer}
use Rattle.mxf_names.specs.declared.partition_keys.PartitionStatus.{PartitionStatus}
use Rattle.mxf_names.specs.declared.partition_keys.PartitionStatus.TheVariants.{OpenIncomplete, ClosedIncomplete, OpenComplete, ClosedComplete}
use Rattle.mxf_partitions.specs.declared.partition.Partition.{Partition}
use Rattle.mxf_partitions.specs.declared.partition.TheConstants.{LABEL_LEN, PACK_FIELDS_LEN}
use Rattle.mxf_partitions.specs.declared.random_index.PackEntry.{PackEntry}
use Rattle.mxf_partitions.specs.declared.random_index.TheConstants.{PACK_ENTRY_LEN, PACK_END_LEN}

-- the kind of a partition by byte 13 of its pack's key
unfoldable pub kind_of : List ℕ → Option PartitionKind
kind_of key =
    if slice_index key 13 == 2 then Some Header else if slice_index key 13 == 3 then Some Body else if slice_index key 13 == 4 then Some Footer else None

-- its status by byte 14
unfoldable pub status_of : List ℕ → Option PartitionStatus
status_of key =
    if slice_index key 14 == 1 then Some OpenIncomplete
    else if slice_index key 14 == 2 then Some ClosedIncomplete
    else if slice_index key 14 == 3 then Some OpenComplete
    else if slice_index key 14 == 4 then Some ClosedComplete
    else None

-- a key is a partition pack's in all bytes but these two
unfoldable pub has_pack_key : List ℕ → Bool
has_pack_key key = bytes_eq (take 13 key) PARTITION_KEY_START && slice_index key 15 == 0

-- a value is the fields and then as many labels as it counts, of 16 bytes each also where it counts none
unfoldable pub has_pack_size : List ℕ → Bool
has_pack_size value =
    length value == PACK_FIELDS_LEN + LABEL_LEN * big_number 4 (drop 80 value) && big_number 4 (drop 84 value) == LABEL_LEN

-- the first of so many labels, 16 zero bytes where there is none
abbrev pub label_of : ℕ → List ℕ → List ℕ
label_of count labels = if count == 0 then replicate LABEL_LEN 0 else take LABEL_LEN labels

-- what the fields say, by their places in the value
abbrev pub fields_of : PartitionKind → PartitionStatus → List ℕ → Partition
fields_of kind status value = record {
  kind = kind;
  status = status;
  major = big_number 2 value;
  minor = big_number 2 (drop 2 value);
  kag = big_number 4 (drop 4 value);
  this = big_number 8 (drop 8 value);
  previous = big_number 8 (drop 16 value);
  footer = big_number 8 (drop 24 value);
  header_bytes = big_number 8 (drop 32 value);
  index_bytes = big_number 8 (drop 40 value);
  index_sid = big_number 4 (drop 48 value);
  body_offset = big_number 8 (drop 52 value);
  body_sid = big_number 4 (drop 60 value);
  pattern = take LABEL_LEN (drop 64 value);
  label_count = big_number 4 (drop 80 value);
  label = label_of (big_number 4 (drop 80 value)) (drop PACK_FIELDS_LEN value);
}

-- the same where the key names a kind and a status
abbrev pub partition_of : Option PartitionKind → Option PartitionStatus → List ℕ → Option Partition
partition_of (Some kind) (Some status) value = Some (fields_of kind status value)
partition_of (Some kind) None value = None
partition_of None status value = None

-- what an item says as a partition pack, none where it is no such pack
unfoldable pub pack_of : Item → Option Partition
pack_of item =
    if has_pack_key item.key && has_pack_size item.value then partition_of (kind_of item.key) (status_of item.key) item.value else None

-- how many entries of 12 bytes stand before the last word of a value
abbrev pub entry_count : List ℕ → ℕ
entry_count value = (length value - PACK_END_LEN) / PACK_ENTRY_LEN

-- an entry of a value, by its place
abbrev pub entry_at : List ℕ → ℕ → PackEntry
entry_at value k = record {
  body_sid = big_number 4 (drop (PACK_ENTRY_LEN * k) value);
  at = big_number 8 (drop (PACK_ENTRY_LEN * k + 4) value);
}

-- all of them, in order
abbrev pub entries_in : List ℕ → List PackEntry
entries_in value = map (entry_at value) (range_with_len 0 (entry_count value))

-- a value is entries and the last word, and that word is this size
unfoldable pub has_index_size : List ℕ → ℕ → Bool
has_index_size value size =
    length value == PACK_ENTRY_LEN * entry_count value + PACK_END_LEN && big_number 4 (drop (PACK_ENTRY_LEN * entry_count value) value) == size

-- the entries of an item as a random index pack, none where it is no such pack: its last word is the whole item's length
unfoldable pub entries_of : Item → Option (List PackEntry)
entries_of item =
    if bytes_eq item.key RANDOM_INDEX_KEY && has_index_size item.value (length (spelled item)) then Some (entries_in item.value) else None

-- What the private functions answer (own).
use Rattle.std.specs.Prelude.{◌≡◌, ℕ, ◌+◌, ◌-◌, ◌*◌, ◌/◌, ◌==◌, ◌&&◌, ◌≤◌, Bool, List, length, drop, Some, None}
use Rattle.std.specs.Str.{bytes_eq}
use Rattle.byteorder.specs.Endian.{big_number}
use Rattle.klv.specs.Items.{Item}
use Rattle.klv.specs.Reads.{IsItemAt}
use Rattle.mxf_names.specs.declared.keys.TheConstants.{RANDOM_INDEX_KEY}
use Rattle.mxf_partitions.specs.Reads.{entries_of, entries_in, has_index_size}
use Rattle.mxf_partitions.specs.declared.partition.TheConstants.{LABEL_LEN, PACK_FIELDS_LEN}
use Rattle.mxf_partitions.specs.declared.random_index.TheConstants.{PACK_ENTRY_LEN, PACK_END_LEN}

-- the size of a value by its length and the bytes with which it begins
abbrev pub front_size : ℕ → List ℕ → Bool
front_size value_len front = value_len == PACK_FIELDS_LEN + LABEL_LEN * big_number 4 (drop 80 front) && big_number 4 (drop 84 front) == LABEL_LEN

-- an item of this key, this value and this size is a random index pack
abbrev pub holds_entries : List ℕ → List ℕ → ℕ → Bool
holds_entries key value size = bytes_eq key RANDOM_INDEX_KEY && has_index_size value size

-- the same by the length of the value and by its last word
abbrev pub holds_count : List ℕ → ℕ → ℕ → ℕ → Bool
holds_count key value_len size last =
    bytes_eq key RANDOM_INDEX_KEY && (value_len == PACK_ENTRY_LEN * ((value_len - PACK_END_LEN) / PACK_ENTRY_LEN) + PACK_END_LEN && last == size)

-- bytes begin with a random index pack that has this value
pub record HoldsIndex (bytes value : List ℕ) : Type 0 where
  pub item : Item
  pub stands : IsItemAt bytes 0 item
  pub says : entries_of item ≡ Some (entries_in value)
  pub long : PACK_END_LEN ≤ length value

-- bytes begin with none
abbrev pub HoldsNoIndex : List ℕ → Type 0
HoldsNoIndex bytes = (item : Item) → IsItemAt bytes 0 item → entries_of item ≡ None

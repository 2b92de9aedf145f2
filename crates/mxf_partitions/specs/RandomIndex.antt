-- The random index pack (SMPTE ST 377-1). docs/FORMATS.md, "Random index pack".
use Rattle.std.specs.Prelude.{◌≡◌, ℕ, ◌+◌, ◌*◌, List, ◌++◌, length}
use Rattle.std.specs.List.{flat_map}
use Rattle.byteorder.specs.Endian.{big_bytes}
use Rattle.klv.specs.Items.{Item, item_of, spelled, klv_head}
use Rattle.klv.specs.declared.head.TheConstants.{SET_HEAD_LEN}
use Rattle.mxf_names.specs.declared.keys.TheConstants.{RANDOM_INDEX_KEY}
use Rattle.mxf_partitions.specs.declared.random_index.PackEntry.{PackEntry}
use Rattle.mxf_partitions.specs.declared.random_index.TheConstants.{PACK_ENTRY_LEN, PACK_END_LEN}

-- an entry: the number of the essence stream, and the place of the pack
abbrev pub entry_bytes : PackEntry → List ℕ
entry_bytes entry = big_bytes 4 entry.body_sid ++ big_bytes 8 entry.at

-- an entry for each partition in order, then the length of the whole item
abbrev pub index_value : List PackEntry → ℕ → List ℕ
index_value entries size = flat_map entry_bytes entries ++ big_bytes 4 size

-- an item is the random index pack of these entries, whatever the form of its length: the last word counts all of it
pub record IsRandomIndex (item : Item) (entries : List PackEntry) : Type 0 where
  pub key : item.key ≡ RANDOM_INDEX_KEY
  pub value : item.value ≡ index_value entries (length (spelled item))

-- the bytes of ours where it has so many entries
abbrev pub random_index_size : ℕ → ℕ
random_index_size count = SET_HEAD_LEN + PACK_ENTRY_LEN * count + PACK_END_LEN

-- ours: its length is 83h and three bytes
abbrev pub random_index_item : List PackEntry → Item
random_index_item entries = item_of RANDOM_INDEX_KEY 3 (index_value entries (random_index_size (length entries)))

-- as it is spelled
abbrev pub random_index_pack : List PackEntry → List ℕ
random_index_pack entries = spelled (random_index_item entries)

-- what stands before its entries: key and length
abbrev pub random_index_head : ℕ → List ℕ
random_index_head count = klv_head RANDOM_INDEX_KEY 3 (PACK_ENTRY_LEN * count + PACK_END_LEN)

-- what stands behind them: the length of the whole item, with key and length
abbrev pub random_index_end : ℕ → List ℕ
random_index_end count = big_bytes 4 (random_index_size count)

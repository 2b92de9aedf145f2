-- What is read of packs, and why they are refused. docs/FORMATS.md, "Partition packs", "Random index pack".
use Rattle.std.specs.Prelude.{◌≡◌, ◌⊎◌, ℕ, ◌-◌, ◌<◌, ◌≤◌, true, false, List, length, take, drop, map, slice_index, Some, None}
use Rattle.byteorder.specs.Endian.{big_number}
use Rattle.klv.specs.Items.{Item, spelled}
use Rattle.klv.specs.Reads.{IsItemAt}
use Rattle.mxf_partitions.specs.Reads.{pack_of, has_pack_key, has_pack_size, kind_of, status_of, entries_of}
use Rattle.mxf_partitions.specs.declared.partition.Partition.{Partition}
use Rattle.mxf_partitions.specs.declared.fault.PackFault.{PackFault}
use Rattle.mxf_partitions.specs.declared.fault.PackFault.TheVariants.{Memory, NotPack, PackSize, PackKind, IndexPackSize, IndexPackOrder}
use Rattle.mxf_partitions.specs.declared.random_index.PackEntry.{PackEntry}
use Rattle.mxf_partitions.specs.declared.random_index.TheConstants.{PACK_END_LEN}
use Rattle.mxf_partitions.specs.declared.reading.TheConstants.{PACK_FRONT_LEN}

-- bytes begin with a partition pack that says this
pub record IsReadPack (bytes : List ℕ) (p : Partition) : Type 0 where
  pub item : Item
  pub stands : IsItemAt bytes 0 item
  pub says : pack_of item ≡ Some p

-- why an item is no partition pack: the first of the three rules that it breaks
abbrev pub RefusesPack : Item → PackFault → Type 0
RefusesPack item NotPack = has_pack_key item.key ≡ false
RefusesPack item PackSize = (has_pack_key item.key ≡ true) × (has_pack_size item.value ≡ false)
RefusesPack item PackKind =
    (has_pack_key item.key ≡ true) × (has_pack_size item.value ≡ true) × ((kind_of item.key ≡ None) ⊎ (status_of item.key ≡ None))
RefusesPack item IndexPackSize = ⊥
RefusesPack item (IndexPackOrder entry) = ⊥
RefusesPack item Memory = ⊥

-- an item stands at the front of bytes, and that is why it is no partition pack
abbrev pub RefusesItem : List ℕ → PackFault → Type 0
RefusesItem bytes fault = (item : Item) × IsItemAt bytes 0 item × RefusesPack item fault

-- why bytes begin with no partition pack: no item with its key stands there, or the item there breaks a later rule
abbrev pub RefusesFront : List ℕ → PackFault → Type 0
RefusesFront bytes NotPack = (item : Item) → IsItemAt bytes 0 item → has_pack_key item.key ≡ false
RefusesFront bytes PackSize = RefusesItem bytes PackSize
RefusesFront bytes PackKind = RefusesItem bytes PackKind
RefusesFront bytes IndexPackSize = ⊥
RefusesFront bytes (IndexPackOrder entry) = ⊥
RefusesFront bytes Memory = ⊥

-- the key of an item, the length of its value, and the bytes with which the value begins, as many as a pack with one label has
pub record IsPackFront (item : Item) (key : List ℕ) (value_len : ℕ) (front : List ℕ) : Type 0 where
  pub key_is : item.key ≡ key
  pub value_len_is : length item.value ≡ value_len
  pub front_is : take PACK_FRONT_LEN item.value ≡ take PACK_FRONT_LEN front

-- the places of entries
abbrev pub places : List PackEntry → List ℕ
places entries = map (λ (entry : PackEntry). entry.at) entries

-- up to an entry each place is above the one before
abbrev pub RiseTo : List PackEntry → ℕ → Type 0
RiseTo entries end = (k : ℕ) → 0 < k → k < end → slice_index (places entries) (k - 1) < slice_index (places entries) k

-- the first entry whose place isn't above the one before
pub record IsFirstFall (entries : List PackEntry) (entry : ℕ) : Type 0 where
  pub behind : 0 < entry
  pub there : entry < length entries
  pub falls : slice_index (places entries) entry ≤ slice_index (places entries) (entry - 1)
  pub rise : RiseTo entries entry

-- bytes begin with a random index pack of these entries, whose places rise
pub record IsReadIndex (bytes : List ℕ) (entries : List PackEntry) : Type 0 where
  pub item : Item
  pub stands : IsItemAt bytes 0 item
  pub says : entries_of item ≡ Some entries
  pub rise : RiseTo entries (length entries)

-- bytes begin with a random index pack whose places don't rise, first at this entry
pub record HasFall (bytes : List ℕ) (entry : ℕ) : Type 0 where
  pub item : Item
  pub stands : IsItemAt bytes 0 item
  pub entries : List PackEntry
  pub says : entries_of item ≡ Some entries
  pub falls : IsFirstFall entries entry

-- why bytes begin with no random index pack; want of memory comes anywhere
abbrev pub RefusesIndex : List ℕ → PackFault → Type 0
RefusesIndex bytes IndexPackSize = (item : Item) → IsItemAt bytes 0 item → entries_of item ≡ None
RefusesIndex bytes (IndexPackOrder entry) = HasFall bytes entry
RefusesIndex bytes Memory = Unit {0}
RefusesIndex bytes NotPack = ⊥
RefusesIndex bytes PackSize = ⊥
RefusesIndex bytes PackKind = ⊥

-- the key of an item, the length of its value, its own length, and the number in the last four bytes of its value
pub record IsIndexEnd (item : Item) (key : List ℕ) (value_len size last : ℕ) : Type 0 where
  pub key_is : item.key ≡ key
  pub value_len_is : length item.value ≡ value_len
  pub size_is : length (spelled item) ≡ size
  pub last_is : big_number 4 (drop (length item.value - PACK_END_LEN) item.value) ≡ last

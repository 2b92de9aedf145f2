-- What stands at a place: an item, or why there is none (SMPTE ST 336). docs/FORMATS.md, "Items".
use Rattle.std.specs.Prelude.{◌≡◌, ℕ, ◌+◌, ◌<◌, ◌≤◌, ◌⊎◌, List, ◌++◌, length, take, drop, slice_index}
use Rattle.klv.specs.Items.{Item, IsItem, spelled}
use Rattle.klv.specs.declared.head.TheConstants.{MAX_HEAD_LEN}
use Rattle.klv.specs.declared.head.Head.{Head}
use Rattle.klv.specs.declared.head.KlvFault.{KlvFault}
use Rattle.klv.specs.declared.head.KlvFault.TheVariants.{KeyShort, LengthForm, ValueShort}
use Rattle.klv.specs.declared.item.Klv.{Klv}

-- the bytes from a place on begin with this item
pub record IsItemAt (bytes : List ℕ) (at : ℕ) (item : Item) : Type 0 where
  pub is_item : IsItem item
  pub rest : List ℕ
  pub bytes_are : drop at bytes ≡ spelled item ++ rest

-- an item stands at a place
abbrev pub HasItemAt : List ℕ → ℕ → Type 0
HasItemAt bytes at = (item : Item) × IsItemAt bytes at item

-- the head at a place: of an item there, the bytes before the value and those of the value
pub record IsHeadAt (bytes : List ℕ) (at : ℕ) (head : Head) : Type 0 where
  pub item : Item
  pub stands : IsItemAt bytes at item
  pub head_len : head.head_len ≡ 17 + item.form
  pub value_len : head.value_len ≡ length item.value

-- the item at a place: its key, and where its value and it end
pub record IsKlvAt (bytes : List ℕ) (at : ℕ) (klv : Klv) : Type 0 where
  pub item : Item
  pub stands : IsItemAt bytes at item
  pub key : klv.key ≡ item.key
  pub value_at : klv.value_at ≡ at + (17 + item.form)
  pub value_len : klv.value_len ≡ length item.value
  pub end : klv.end ≡ at + length (spelled item)

-- the bytes from a place on that a head can have, and how many are left there in all
pub record IsFrontAt (bytes : List ℕ) (at : ℕ) (front : List ℕ) (left : ℕ) : Type 0 where
  pub front_is : front ≡ take MAX_HEAD_LEN (drop at bytes)
  pub left_is : left ≡ length (drop at bytes)

-- behind a key stands a byte that begins no length
pub record HasNoForm (bytes : List ℕ) : Type 0 where
  pub there : 16 < length bytes
  pub none : (slice_index bytes 16 ≡ 0x80) ⊎ (0x88 < slice_index bytes 16)

-- the bytes are a part of an item: its key, and not all that follows
pub record IsCutItem (bytes : List ℕ) : Type 0 where
  pub item : Item
  pub is_item : IsItem item
  pub key : 16 ≤ length bytes
  pub cut : length bytes < length (spelled item)
  pub bytes_are : bytes ≡ take (length bytes) (spelled item)

-- why no item stands at a place
abbrev pub Refuses : List ℕ → ℕ → KlvFault → Type 0
Refuses bytes at (KeyShort place) = (place ≡ at) × (length (drop at bytes) < 16)
Refuses bytes at (LengthForm place) = (place ≡ at) × HasNoForm (drop at bytes)
Refuses bytes at (ValueShort place) = (place ≡ at) × IsCutItem (drop at bytes)

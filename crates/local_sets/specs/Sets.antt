-- Local sets with tags and lengths of two bytes (SMPTE ST 336). docs/FORMATS.md, "Local sets".
use Rattle.std.specs.Prelude.{◌≡◌, ◌^◌, ◌<◌, ℕ, List, ◌++◌, length}
use Rattle.std.specs.List.{flat_map, AllByRecursion}
use Rattle.byteorder.specs.Endian.{big_bytes}
use Rattle.klv.specs.Items as klv
use Rattle.local_sets.specs.Values.{value_bytes}
use Rattle.local_sets.specs.declared.set.Item.{Item}
use Rattle.local_sets.specs.declared.value.Value.{Value}

-- an item as it stands in a set: its local tag and its value
pub record RawItem : Type 0 where
  pub tag : ℕ
  pub value : List ℕ

-- tag and length fit two bytes each
pub record IsRawItem (item : RawItem) : Type 0 where
  pub tag : item.tag < 2 ^ 16
  pub fits : length item.value < 2 ^ 16

-- such an item as it is spelled: local tag, length, value
abbrev pub raw_bytes : RawItem → List ℕ
raw_bytes item = big_bytes 2 item.tag ++ big_bytes 2 (length item.value) ++ item.value

-- what a set holds: its items one after the other
abbrev pub set_value : List RawItem → List ℕ
set_value items = flat_map raw_bytes items

-- an item of key, length and value is the set of a key and of these items, whatever the form of its length
pub record IsSet (set : klv.Item) (key : List ℕ) (items : List RawItem) : Type 0 where
  pub keyed : set.key ≡ key
  pub value : set.value ≡ set_value items
  pub each : AllByRecursion IsRawItem items

-- an item of ours: a tag and a value of a kind
abbrev pub item : ℕ → Value → Item
item tag value = record { tag = tag; value = value }

-- as it stands in a set
abbrev pub raw : Item → RawItem
raw item = record { tag = item.tag; value = value_bytes item.value }

-- as it is spelled
abbrev pub item_bytes : Item → List ℕ
item_bytes item = raw_bytes (raw item)

-- items one after the other
abbrev pub items_bytes : List Item → List ℕ
items_bytes items = flat_map item_bytes items

-- a set of ours: its length is 83h and three bytes
abbrev pub set_item : List ℕ → List Item → klv.Item
set_item key items = klv.item_of key 3 (items_bytes items)

-- as it is spelled
unfoldable pub local_set : List ℕ → List Item → List ℕ
local_set key items = klv.spelled (set_item key items)

-- The items with which bytes begin, and what is left behind them (SMPTE ST 336). docs/FORMATS.md, "Local sets".
use Rattle.std.specs.Prelude.{◌≡◌, ℕ, zero, suc, ◌+◌, ◌≤◌, nat_lt, if◌then◌else◌, List, [], ◌∷◌, length, take, drop, Option, Some, None}
use Rattle.byteorder.specs.Endian.{big_number}
use Rattle.local_sets.specs.Sets.{RawItem}
use Rattle.local_sets.specs.declared.reading.ItemPlace.{ItemPlace}
use Rattle.local_sets.specs.declared.set.TheConstants.{ITEM_HEAD_LEN}

-- the item with which bytes begin, none where they end inside it
unfoldable pub first_item : List ℕ → Option RawItem
first_item bytes =
    if nat_lt (length bytes) ITEM_HEAD_LEN then None
    else if nat_lt (length bytes) (ITEM_HEAD_LEN + big_number 2 (drop 2 bytes)) then None
    else Some (record { tag = big_number 2 bytes; value = take (big_number 2 (drop 2 bytes)) (drop ITEM_HEAD_LEN bytes) })

-- bytes of an item as it is spelled
abbrev pub item_len : RawItem → ℕ
item_len item = ITEM_HEAD_LEN + length item.value

-- the items with which bytes begin, one after the other, so many at most
unfoldable pub first_items : ℕ → List ℕ → List RawItem
first_items zero bytes = []
first_items (suc more) bytes =
    elim (first_item bytes) [ None ↦ [] | Some item ↦ item ∷ first_items more (drop (item_len item) bytes) ]

-- what is left behind them
unfoldable pub rest_behind : ℕ → List ℕ → List ℕ
rest_behind zero bytes = bytes
rest_behind (suc more) bytes =
    elim (first_item bytes) [ None ↦ bytes | Some item ↦ rest_behind more (drop (item_len item) bytes) ]

-- the whole items with which a set's value begins
abbrev pub items_in : List ℕ → List RawItem
items_in value = first_items (length value) value

-- what is left of it: a set is cut where that is some bytes
abbrev pub rest_in : List ℕ → List ℕ
rest_in value = rest_behind (length value) value

-- the item of a place
abbrev pub raw_at : List ℕ → ItemPlace → RawItem
raw_at bytes place = record { tag = place.tag; value = take place.value_len (drop place.value_at bytes) }

-- the item at a place of bytes, or none where they end inside it
abbrev pub IsItemPlace : List ℕ → ℕ → Option ItemPlace → Type 0
IsItemPlace bytes at None = first_item (drop at bytes) ≡ None
IsItemPlace bytes at (Some place) =
    (first_item (drop at bytes) ≡ Some (raw_at bytes place))
    × (place.value_at ≡ at + ITEM_HEAD_LEN)
    × (place.value_at + place.value_len ≤ length bytes)

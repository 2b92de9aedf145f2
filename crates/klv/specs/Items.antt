-- Items of key, length and value (SMPTE ST 336). docs/FORMATS.md, "Items".
use Rattle.std.specs.Prelude.{◌≡◌, ℕ, zero, suc, ◌+◌, ◌<◌, ◌≤◌, ◌^◌, List, [], ◌∷◌, ◌++◌, length, take}
use Rattle.std.specs.List.{flat_map, AllByRecursion}
use Rattle.byteorder.specs.Endian.{big_bytes}

-- an item; its form is how many bytes follow the first one of its length
pub record Item : Type 0 where
  pub key : List ℕ
  pub form : ℕ
  pub value : List ℕ

-- the item of a key, a form and a value
abbrev pub item_of : List ℕ → ℕ → List ℕ → Item
item_of key form value = record { key = key; form = form; value = value }

-- a length as it is spelled: one byte, or 80h + form and then so many bytes, the highest first
unfoldable pub length_bytes : ℕ → ℕ → List ℕ
length_bytes zero len = len ∷ []
length_bytes (suc more) len = (0x80 + suc more) ∷ big_bytes (suc more) len

-- the least length that is too long for the form
unfoldable pub length_limit : ℕ → ℕ
length_limit zero = 0x80
length_limit (suc more) = 256 ^ suc more

-- what stands before a value
abbrev pub klv_head : List ℕ → ℕ → ℕ → List ℕ
klv_head key form len = key ++ length_bytes form len

-- an item as it is spelled
abbrev pub spelled : Item → List ℕ
spelled item = klv_head item.key item.form (length item.value) ++ item.value

-- a key of 16 bytes, one of the nine forms, and a value whose length fits it
pub record IsItem (item : Item) : Type 0 where
  pub key : length item.key ≡ 16
  pub form : item.form ≤ 8
  pub fits : length item.value < length_limit item.form

-- the bytes are these items, one after the other
pub record AreItems (bytes : List ℕ) (items : List Item) : Type 0 where
  pub bytes_are : bytes ≡ flat_map spelled items
  pub each : AllByRecursion IsItem items

-- the bytes end inside an item: behind whole items stands a part of one
pub record EndsInside (bytes : List ℕ) : Type 0 where
  pub before : List Item
  pub each : AllByRecursion IsItem before
  pub item : Item
  pub is_item : IsItem item
  pub part : ℕ
  pub some : 0 < part
  pub cut : part < length (spelled item)
  pub bytes_are : bytes ≡ flat_map spelled before ++ take part (spelled item)

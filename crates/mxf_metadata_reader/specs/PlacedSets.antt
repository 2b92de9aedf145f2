-- The sets among items, and where they stand (SMPTE ST 377-1). docs/FORMATS.md, "Metadata".
use Rattle.std.specs.Prelude.{ℕ, ◌+◌, ◌==◌, ◌&&◌, Bool, List, [], ◌∷◌, ◌++◌, length, take, slice_index, Option, Some, None, if◌then◌else◌}
use Rattle.std.specs.Str.{bytes_eq}
use Rattle.klv.specs.Items.{Item, spelled}
use Rattle.local_sets.specs.Sets.{RawItem}
use Rattle.local_sets.specs.Reads.{items_in, rest_in}
use Rattle.mxf_names.specs.declared.keys.TheConstants.{SET_KEY_START}

-- a set as it is read: its kind, its whole items, and what is left behind them, some bytes where the set is cut
pub record ReadSet : Type 0 where
  pub kind : ℕ
  pub items : List RawItem
  pub rest : List ℕ

-- a key is that of a set: its last byte but one is the set's kind
abbrev pub is_set_key : List ℕ → Bool
is_set_key key = bytes_eq (take 14 key) SET_KEY_START && slice_index key 15 == 0

-- the set of a kind and a value
abbrev pub read_set : ℕ → List ℕ → ReadSet
read_set kind value = record { kind = kind; items = items_in value; rest = rest_in value }

-- the set that an item is, none where it isn't one
abbrev pub set_of : Item → Option ReadSet
set_of item = if is_set_key item.key then Some (read_set (slice_index item.key 14) item.value) else None

-- a set, and the place of the first byte of its value
pub record PlacedSet : Type 0 where
  pub at : ℕ
  pub set : ReadSet

-- one set or none, whose value begins at a place
abbrev pub placed_at : ℕ → Option ReadSet → List PlacedSet
placed_at at None = []
placed_at at (Some set) = record { at = at; set = set } ∷ []

-- the set that an item is, if any, where the item's key stands at a place
abbrev pub set_at : ℕ → Item → List PlacedSet
set_at at item = placed_at (at + (17 + item.form)) (set_of item)

-- the sets among items, of which the first one's key stands at a place
unfoldable pub sets_from : ℕ → List Item → List PlacedSet
sets_from at [] = []
sets_from at (item ∷ items) = set_at at item ++ sets_from (at + length (spelled item)) items

-- What is kept of sets while they are judged (own).
use Rattle.std.specs.Prelude.{◌≡◌, ◌≤◌, ℕ, ◌+◌, ◌||◌, not, Bool, List, [], ◌∷◌, take, drop, map, filter, min, Option, Some, None}
use Rattle.std.specs.List.{AllByRecursion, list_all}
use Rattle.std.specs.Str.{bytes_eq}
use Rattle.klv.specs.Items.{AreItems, Item}
use Rattle.klv.specs.declared.item.Klv.{Klv}
use Rattle.local_sets.specs.Sets.{RawItem}
use Rattle.mxf_metadata.specs.Durations.{is_duration}
use Rattle.mxf_metadata_reader.specs.PlacedSets.{is_set_key, read_set}
use Rattle.mxf_metadata_check.specs.declared.outline.Held.{Held}
use Rattle.mxf_op1a.specs.Clauses.{first_place}
use Rattle.mxf_op1a.specs.Contents.{Placed, placed_from}
use Rattle.mxf_op1a.specs.Metadata.{SetAt, lasts, places_but, set_at}

-- an item has the key of a set
abbrev pub is_set_item : Placed → Bool
is_set_item p = is_set_key p.item.key

-- the sets among items that stand from a place on
abbrev pub sets_among : ℕ → List Item → List SetAt
sets_among at items = map set_at (filter is_set_item (placed_from at items))

-- the set that is kept
abbrev pub set_held : List ℕ → Held → SetAt
set_held bytes held = record { at = held.at; set = read_set held.kind (take held.value_len (drop held.value_at bytes)) }

-- those that are kept
abbrev pub sets_held : List ℕ → List Held → List SetAt
sets_held bytes all = map (set_held bytes) all

-- the values of those that are kept lie within so many bytes
abbrev pub AreWithin : ℕ → List Held → Type 0
AreWithin len all = AllByRecursion (λ (held : Held). held.value_at + held.value_len ≤ len) all

-- what is kept of an item whose key stands at a place
abbrev pub kept : Option ℕ → ℕ → Klv → List Held
kept None at klv = []
kept (Some kind) at klv = record { at = at; kind = kind; value_at = klv.value_at; value_len = klv.value_len } ∷ []

-- what is kept is the sets of the items that stand from a place of the bytes on, which are themselves from another on
abbrev pub HoldsSets : List ℕ → ℕ → ℕ → List Held → Type 0
HoldsSets bytes start at all = (items : List Item) → AreItems (drop start bytes) items → sets_held bytes all ≡ sets_among (at + start) items

-- the place of the first set with another duration among items that stand from a place on
abbrev pub other_among : List ℕ → ℕ → List Item → Option ℕ
other_among duration at items = first_place (places_but (lasts duration) (sets_among at items))

-- each duration of items is this
abbrev pub all_last : List ℕ → List RawItem → Bool
all_last duration items = list_all (λ item. not (is_duration item.tag) || bytes_eq item.value duration) items

-- the lesser of two places that may be missing
abbrev pub lesser : Option ℕ → Option ℕ → Option ℕ
lesser None other = other
lesser (Some place) None = Some place
lesser (Some place) (Some other) = Some (min place other)

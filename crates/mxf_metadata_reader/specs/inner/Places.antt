-- What is kept of the sets while they are read (own).
use Rattle.std.specs.Prelude.{◌≡◌, ◌≤◌, ◌<◌, ℕ, ◌+◌, ◌^◌, Bool, List, ◌∷◌, [], ◌++◌, length, take, drop, map, get_or, slice_index, false, Option}
use Rattle.std.specs.Prelude.{Some, None, if◌then◌else◌}
use Rattle.std.specs.List.{flat_map, AllByRecursion}
use Rattle.std.specs.BTreeSet.{BTreeSet, contains}
use Rattle.std.specs.Ordering.{nat_cmp}
use Rattle.byteorder.specs.Endian.{big_number}
use Rattle.klv.specs.Items.{Item, IsItem, spelled}
use Rattle.klv.specs.declared.item.Klv.{Klv}
use Rattle.local_sets.specs.declared.reading.ItemPlace.{ItemPlace}
use Rattle.mxf_metadata.specs.Tags.{is_among}
use Rattle.mxf_metadata_reader.specs.PlacedSets.{PlacedSet, is_set_key, read_set, sets_from}
use Rattle.mxf_metadata_reader.specs.Reads.{AreFirstItems}
use Rattle.mxf_metadata_reader.specs.References.{is_found}
use Rattle.mxf_metadata_reader.specs.declared.outline.SetPlace.{SetPlace}
use Rattle.mxf_metadata_reader.specs.declared.outline.Outline.{Outline}

-- a table has a place for each tag, and tells those that are listed
pub record IsTable (table : List Bool) (tags : List ℕ) : Type 0 where
  pub whole : length table ≡ 2 ^ 16
  pub tells : (tag : ℕ) → tag < 2 ^ 16 → get_or table tag false ≡ is_among tag tags

-- the set of a place
abbrev pub placed : List ℕ → SetPlace → PlacedSet
placed bytes place = record { at = place.value_at; set = read_set place.kind (take place.value_len (drop place.value_at bytes)) }

-- the sets of places
abbrev pub sets_at : List ℕ → List SetPlace → List PlacedSet
sets_at bytes places = map (placed bytes) places

-- the values of places lie within so many bytes
abbrev pub AreWithin : ℕ → List SetPlace → Type 0
AreWithin len places = AllByRecursion (λ (place : SetPlace). place.value_at + place.value_len ≤ len) places

-- the kind of a set by its key
abbrev pub kind_of : List ℕ → Option ℕ
kind_of key = if is_set_key key then Some (slice_index key 14) else None

-- what is kept of an item at a place
abbrev pub kept : Option ℕ → Klv → List SetPlace
kept None klv = []
kept (Some kind) klv = record { kind = kind; value_at = klv.value_at; value_len = klv.value_len } ∷ []

-- up to a place stand these sets
pub record Passed (bytes : List ℕ) (start at : ℕ) (places : List SetPlace) : Type 0 where
  pub items : List Item
  pub each : AllByRecursion IsItem items
  pub bytes_are : drop start bytes ≡ flat_map spelled items ++ drop at bytes
  pub place : at ≡ start + length (flat_map spelled items)
  pub end : at ≤ length bytes
  pub sets_are : sets_at bytes places ≡ sets_from start items
  pub within : AreWithin (length bytes) places

-- from a place on stand these sets, and then no item
pub record IsOutline (bytes : List ℕ) (start : ℕ) (outline : Outline) : Type 0 where
  pub items : List Item
  pub are_first : AreFirstItems (drop start bytes) items (drop outline.stop bytes)
  pub place : outline.stop ≡ start + length (flat_map spelled items)
  pub end : outline.stop ≤ length bytes
  pub sets_are : sets_at bytes outline.sets.items ≡ sets_from start items
  pub within : AreWithin (length bytes) outline.sets.items

-- the value of a place
abbrev pub value_of : List ℕ → Option ItemPlace → Option (List ℕ)
value_of bytes None = None
value_of bytes (Some place) = Some (take place.value_len (drop place.value_at bytes))

-- the numbers of 16 bytes that are kept are the identifiers of sets
abbrev pub HoldsIds : BTreeSet ℕ → List PlacedSet → Type 0
HoldsIds ids sets =
    (id : List ℕ) → length id ≡ 16 → ((k : ℕ) → slice_index id k < 256) → contains nat_cmp ids (big_number 16 id) ≡ is_found id sets

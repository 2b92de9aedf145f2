-- How sets that are read name one another (SMPTE ST 377-1). docs/FORMATS.md, "Metadata".
use Rattle.std.specs.Prelude.{ℕ, zero, suc, ◌==◌, ◌&&◌, Bool, true, false, List, [], ◌∷◌, length, take, drop, Option, Some, None, if◌then◌else◌}
use Rattle.std.specs.Option.{is_some}
use Rattle.std.specs.Str.{bytes_eq}
use Rattle.byteorder.specs.Endian.{big_number}
use Rattle.local_sets.specs.Sets.{RawItem}
use Rattle.local_sets.specs.declared.value.TheConstants.{BATCH_HEAD_LEN, ID_LEN}
use Rattle.mxf_names.specs.declared.tags.TheConstants.{INSTANCE_ID}
use Rattle.mxf_metadata.specs.Nodes.{is_reference}
use Rattle.mxf_metadata.specs.declared.tags.Size.{Size}
use Rattle.mxf_metadata.specs.declared.tags.Size.TheVariants.{Fixed, Batch, Letters}
use Rattle.mxf_metadata_reader.specs.PlacedSets.{PlacedSet}
use Rattle.mxf_metadata_reader.specs.Sizes.{is_sized, size_of}

-- the value of the first item with a tag
unfoldable pub first_value : ℕ → List RawItem → Option (List ℕ)
first_value tag [] = None
first_value tag (item ∷ items) = if item.tag == tag then Some item.value else first_value tag items

-- a value, if there is one, is an identifier, which has 16 bytes
abbrev pub is_id : List ℕ → Option (List ℕ) → Bool
is_id id None = false
is_id id (Some own) = length own == ID_LEN && bytes_eq own id

-- a set of these items has this identifier: the value of its first instance identifier
abbrev pub has_id : List ℕ → List RawItem → Bool
has_id id items = is_id id (first_value INSTANCE_ID items)

-- the first set with an identifier
unfoldable pub find : List ℕ → List PlacedSet → Option PlacedSet
find id [] = None
find id (placed ∷ sets) = if has_id id placed.set.items then Some placed else find id sets

-- some set has the identifier
abbrev pub is_found : List ℕ → List PlacedSet → Bool
is_found id sets = is_some (find id sets)

-- so many identifiers, one after the other
unfoldable pub ids_in : ℕ → List ℕ → List (List ℕ)
ids_in zero bytes = []
ids_in (suc more) bytes = take ID_LEN bytes ∷ ids_in more (drop ID_LEN bytes)

-- the identifiers in a value of a size: those of a batch, or the value itself
abbrev pub ids_of_size : Option Size → List ℕ → List (List ℕ)
ids_of_size None value = value ∷ []
ids_of_size (Some (Fixed count)) value = value ∷ []
ids_of_size (Some Letters) value = value ∷ []
ids_of_size (Some Batch) value = ids_in (big_number 4 value) (drop BATCH_HEAD_LEN value)

-- the identifiers of the sets that an item names, where its value has its tag's size
abbrev pub names_of : RawItem → List (List ℕ)
names_of item = if is_reference item.tag && is_sized item.tag item.value then ids_of_size (size_of item.tag) item.value else []

-- each identifier is that of a set
unfoldable pub all_found : List PlacedSet → List (List ℕ) → Bool
all_found sets [] = true
all_found sets (id ∷ ids) = is_found id sets && all_found sets ids

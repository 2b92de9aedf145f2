-- Which set has an identifier first, and which identifiers an item names (own).
use Rattle.std.specs.Prelude.{◌≡◌, ◌<◌, ℕ, ◌+◌, ◌/◌, ◌&&◌, Bool, true, false, List, [], ◌∷◌, length, slice_index, Option, Some, None, if◌then◌else◌}
use Rattle.std.specs.BTreeMap.{BTreeMap, get}
use Rattle.std.specs.List.{list_all}
use Rattle.std.specs.Option.{is_some}
use Rattle.std.specs.Ordering.{nat_cmp}
use Rattle.byteorder.specs.Endian.{big_number}
use Rattle.local_sets.specs.Reads.{items_in, rest_in}
use Rattle.local_sets.specs.Sets.{RawItem}
use Rattle.local_sets.specs.declared.value.TheConstants.{ID_LEN}
use Rattle.mxf_metadata.specs.declared.tags.Size.{Size}
use Rattle.mxf_metadata.specs.declared.tags.Size.TheVariants.{Fixed, Batch, Letters}
use Rattle.mxf_metadata_reader.specs.References.{has_id, ids_in}
use Rattle.mxf_op1a.specs.Metadata.{SetAt, is_empty, set_with}

-- the number of the first set with an identifier, counted from k
unfoldable pub index_from : ℕ → List SetAt → List ℕ → Option ℕ
index_from k [] id = None
index_from k (s ∷ sets) id = if has_id id s.set.items then Some k else index_from (k + 1) sets id

-- counted from 0
abbrev pub index_with : List SetAt → List ℕ → Option ℕ
index_with sets id = index_from 0 sets id

-- a table tells it by the number of the identifier
abbrev pub TellsFirsts : BTreeMap ℕ ℕ → List SetAt → Type 0
TellsFirsts firsts sets =
    (id : List ℕ) → length id ≡ ID_LEN → ((k : ℕ) → slice_index id k < 256) → get nat_cmp firsts (big_number 16 id) ≡ index_with sets id

-- a number, if it is this
abbrev pub some_if : Bool → ℕ → Option ℕ
some_if true k = Some k
some_if false k = None

-- a size is that of a batch
abbrev pub is_batch : Option Size → Bool
is_batch None = false
is_batch (Some (Fixed count)) = false
is_batch (Some Batch) = true
is_batch (Some Letters) = false

-- the identifiers in bytes, one after the other
abbrev pub ids_within : List ℕ → List (List ℕ)
ids_within bytes = ids_in (length bytes / ID_LEN) bytes

-- a set has an identifier
abbrev pub is_there : List SetAt → List ℕ → Bool
is_there sets id = is_some (set_with sets id)

-- a value is whole items, and each keeps a test
abbrev pub all_whole : (RawItem → Bool) → List ℕ → Bool
all_whole test value = is_empty (rest_in value) && list_all test (items_in value)

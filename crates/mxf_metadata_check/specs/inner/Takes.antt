-- The first set of a kind among items (own).
use Rattle.std.specs.Prelude.{ℕ, ◌==◌, ◌&&◌, Bool, List, slice_index}
use Rattle.klv.specs.Items.{Item}
use Rattle.local_sets.specs.Sets.{RawItem}
use Rattle.mxf_metadata_reader.specs.PlacedSets.{is_set_key}
use Rattle.mxf_metadata_check.specs.Metadata.{first_items}
use Rattle.mxf_metadata_check.specs.inner.Held.{sets_among}
use Rattle.mxf_op1a.specs.Metadata.{all_of_kind}

-- a key is that of a set of a kind
abbrev pub is_of_kind : ℕ → List ℕ → Bool
is_of_kind kind key = is_set_key key && slice_index key 14 == kind

-- what the first set of a kind holds, among items that stand from a place on
abbrev pub kind_among : ℕ → ℕ → List Item → List RawItem
kind_among kind at items = first_items (all_of_kind kind (sets_among at items))

-- What the sets of the metadata say of links (SMPTE ST 377-1). docs/FORMATS.md, "Metadata".
use Rattle.std.specs.Prelude.{ℕ, ◌==◌, nat_lt, Bool, List, [], ◌∷◌, length, map, Option, if◌then◌else◌}
use Rattle.std.specs.List.{flat_map}
use Rattle.local_sets.specs.declared.value.Value.{Value}
use Rattle.local_sets.specs.declared.value.Value.TheVariants.{Word, Label, Umid, BatchOfOne, BatchOfTwo}
use Rattle.mxf_names.specs.declared.tags.TheConstants.{INSTANCE_ID}
use Rattle.mxf_metadata.specs.Links.{Reference, Node, kinds_named}
use Rattle.rec_bytes.specs.Configuration.{Fields}
use Rattle.mxf_names.specs.declared.ids.Ids.{Ids}
use Rattle.mxf_metadata.specs.Metadata.{Set, sets}
use Rattle.mxf_metadata.specs.declared.tags.TheConstants.{DATA_DEFINITION, PACKAGE_ID, SOURCE_PACKAGE_ID, LINKED_PACKAGE_ID}
use Rattle.mxf_metadata.specs.declared.tags.TheConstants.{TRACK_ID, SOURCE_TRACK_ID, LINKED_TRACK_ID, TRACK_NUMBER}

-- the labels and identifiers in a value
abbrev pub ids_in : Value → List (List ℕ)
ids_in (Label id) = id ∷ []
ids_in (Umid id) = id ∷ []
ids_in (BatchOfOne id) = id ∷ []
ids_in (BatchOfTwo first second) = first ∷ second ∷ []
ids_in value = []

-- the number in a value
abbrev pub words_in : Value → List ℕ
words_in (Word number) = number ∷ []
words_in value = []

-- the labels and identifiers of a set's items with a tag
abbrev pub ids_at : ℕ → Set → List (List ℕ)
ids_at tag set = flat_map (λ item. if item.tag == tag then ids_in item.value else []) set.items

-- the numbers of a set's items with a tag
abbrev pub words_at : ℕ → Set → List ℕ
words_at tag set = flat_map (λ item. if item.tag == tag then words_in item.value else []) set.items

-- an item with a tag names sets
abbrev pub is_reference : ℕ → Bool
is_reference tag = nat_lt 0 (length (kinds_named tag))

-- the references of a set's items
abbrev pub references : Set → List (Reference (List ℕ))
references set =
    flat_map (λ item. if is_reference item.tag then map (λ id. record { tag = item.tag; id = id }) (ids_in item.value) else []) set.items

-- what a set says of links
abbrev pub node : Set → Node (List ℕ)
node set = record {
  kind = set.kind;
  own = ids_at INSTANCE_ID set;
  names = references set;
  definitions = ids_at DATA_DEFINITION set;
  packages = ids_at PACKAGE_ID set;
  sources = ids_at SOURCE_PACKAGE_ID set;
  linked_packages = ids_at LINKED_PACKAGE_ID set;
  track_ids = words_at TRACK_ID set;
  source_tracks = words_at SOURCE_TRACK_ID set;
  linked_tracks = words_at LINKED_TRACK_ID set;
  track_numbers = words_at TRACK_NUMBER set;
}

-- what the 19 sets say
abbrev pub nodes : Fields → Ids → Option ℕ → List (Node (List ℕ))
nodes cfg ids frames = map node (sets cfg ids frames)

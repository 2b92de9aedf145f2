-- The metadata of a partition as bytes (SMPTE ST 377-1). docs/formats/mxf.md, "What an OP1a file is".
use Rattle.std.specs.Prelude.{◌≡◌, ℕ, ◌+◌, ◌||◌, true, List, [], ◌∷◌, drop, length, Option}
use Rattle.std.specs.List.{AllByRecursion}
use Rattle.byteorder.specs.Endian.{big_bytes}
use Rattle.klv.specs.Items.{AreItems, Item, spelled}
use Rattle.local_sets.specs.Sets.{RawItem}
use Rattle.mxf_metadata.specs.declared.labels.TheConstants.{MATERIAL_SET}
use Rattle.mxf_metadata.specs.declared.tags.TheConstants.{PACKAGE_ID}
use Rattle.mxf_metadata_reader.specs.Fields.{or_zeros}
use Rattle.mxf_metadata_reader.specs.PrimerTags.{tags_of_primer}
use Rattle.mxf_metadata_reader.specs.References.{first_value}
use Rattle.mxf_op1a.specs.Clauses.{first_place}
use Rattle.mxf_op1a.specs.Contents.{Placed, content_of, is_fill, is_set, placed_from}
use Rattle.mxf_op1a.specs.Metadata.{SetAt, all_of_kind, lasts, least, places_but, sets_behind, wrong_behind}

-- an item is a set or fill
abbrev pub IsSetOrFill : Item → Type 0
IsSetOrFill item = (is_set (content_of item) || is_fill (content_of item)) ≡ true

-- bytes are a primer pack, and sets and fill behind it
pub record AreMetadata (bytes : List ℕ) (primer : Item) (items : List Item) : Type 0 where
  pub are_items : AreItems bytes (primer ∷ items)
  pub each : AllByRecursion IsSetOrFill items

-- the items behind a primer pack that stands at a place
abbrev pub behind : ℕ → Item → List Item → List Placed
behind at primer items = placed_from (at + length (spelled primer)) items

-- the least place where metadata that stand there are wrong
abbrev pub least_wrong : ℕ → Item → List Item → Option ℕ
least_wrong at primer items = least (wrong_behind at (tags_of_primer primer) (behind at primer items))

-- the place of the first set with a duration that isn't this count
abbrev pub first_other : ℕ → ℕ → Item → List Item → Option ℕ
first_other count at primer items = first_place (places_but (lasts (big_bytes 8 count)) (sets_behind (behind at primer items)))

-- the items of the first of sets, none where there is no set
abbrev pub first_items : List SetAt → List RawItem
first_items [] = []
first_items (s ∷ sets) = s.set.items

-- the take that sets are of: the second half of the first material package's identifier, zeros where it is missing
abbrev pub take_id_in : List SetAt → List ℕ
take_id_in sets = drop 16 (or_zeros 32 (first_value PACKAGE_ID (first_items (all_of_kind MATERIAL_SET sets))))

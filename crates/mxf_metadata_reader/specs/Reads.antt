-- Header metadata as it is read: a primer pack, and the sets behind it (SMPTE ST 377-1). docs/FORMATS.md, "Metadata".
use Rattle.std.specs.Prelude.{◌≡◌, ℕ, ◌+◌, ◌⊎◌, List, [], ◌++◌, length, Option, Some, None}
use Rattle.std.specs.List.{flat_map, AllByRecursion}
use Rattle.std.specs.Option.{option_or}
use Rattle.klv.specs.Items.{Item, IsItem, spelled}
use Rattle.klv.specs.Reads.{IsItemAt, HasItemAt}
use Rattle.mxf_metadata_reader.specs.Faults.{sets_fault, end_fault, links_fault}
use Rattle.mxf_metadata_reader.specs.Fields.{fields_of}
use Rattle.mxf_metadata_reader.specs.PlacedSets.{PlacedSet, sets_from}
use Rattle.mxf_metadata_reader.specs.PrimerTags.{tags_of_primer}
use Rattle.mxf_metadata_reader.specs.declared.fault.SetFault.{SetFault}
use Rattle.mxf_metadata_reader.specs.declared.fault.SetFault.TheVariants.{Memory, NotPrimer, UnknownTag, SetCut, ItemSize, BrokenReference}
use Rattle.mxf_metadata_reader.specs.declared.fields.Sets.{Sets}

-- bytes are these items, and a rest with which no item begins
pub record AreFirstItems (bytes : List ℕ) (items : List Item) (rest : List ℕ) : Type 0 where
  pub each : AllByRecursion IsItem items
  pub bytes_are : bytes ≡ flat_map spelled items ++ rest
  pub ends : (rest ≡ []) ⊎ (¬ HasItemAt rest 0)

-- bytes begin with a primer pack that lists tags
pub record HasPrimer (bytes : List ℕ) : Type 0 where
  pub primer : Item
  pub stands : IsItemAt bytes 0 primer
  pub tags : List ℕ
  pub tags_are : tags_of_primer primer ≡ Some tags

-- bytes are a primer pack, items behind it, and a rest with which no item begins
pub record Metadata (bytes : List ℕ) : Type 0 where
  pub front : HasPrimer bytes
  pub items : List Item
  pub rest : List ℕ
  pub behind : AreFirstItems front.stands.rest items rest

-- of sets behind a primer pack of these tags, and of what is left behind them at a place, what is wrong first: with a set's
-- items, or behind the sets, and then with what the sets name
abbrev pub fault_of : List ℕ → List PlacedSet → ℕ → List ℕ → Option SetFault
fault_of tags sets end rest = option_or (option_or (sets_fault tags sets) (end_fault end rest)) (links_fault sets sets)

-- the sets behind the primer pack
abbrev pub sets_behind : {bytes : List ℕ} → Metadata bytes → List PlacedSet
sets_behind metadata = sets_from (length (spelled metadata.front.primer)) metadata.items

-- the place of the rest
abbrev pub end_of : {bytes : List ℕ} → Metadata bytes → ℕ
end_of metadata = length (spelled metadata.front.primer) + length (flat_map spelled metadata.items)

-- what is wrong first, if anything
abbrev pub first_fault : {bytes : List ℕ} → Metadata bytes → Option SetFault
first_fault metadata = fault_of metadata.front.tags (sets_behind metadata) (end_of metadata) metadata.rest

-- the bytes are metadata of which this is wrong first, if anything
abbrev pub HasFault : List ℕ → Option SetFault → Type 0
HasFault bytes fault = (metadata : Metadata bytes) × (first_fault metadata ≡ fault)

-- the bytes are metadata of which nothing is wrong, and say this
pub record IsReadSets (bytes : List ℕ) (sets : Sets) : Type 0 where
  pub metadata : Metadata bytes
  pub right : first_fault metadata ≡ None
  pub fields : sets ≡ fields_of (sets_behind metadata)

-- why bytes are no such metadata; want of memory is free
abbrev pub Refuses : List ℕ → SetFault → Type 0
Refuses bytes Memory = Unit {0}
Refuses bytes NotPrimer = ¬ HasPrimer bytes
Refuses bytes (UnknownTag at tag) = HasFault bytes (Some (UnknownTag at tag))
Refuses bytes (SetCut at tag) = HasFault bytes (Some (SetCut at tag))
Refuses bytes (ItemSize at tag) = HasFault bytes (Some (ItemSize at tag))
Refuses bytes (BrokenReference at tag) = HasFault bytes (Some (BrokenReference at tag))

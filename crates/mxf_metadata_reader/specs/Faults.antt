-- What is wrong with the sets of metadata, first (own order). docs/FORMATS.md, "Metadata".
use Rattle.std.specs.Prelude.{ℕ, ◌+◌, nat_lt, List, [], ◌∷◌, length, Option, Some, None, if◌then◌else◌}
use Rattle.std.specs.Option.{option_or}
use Rattle.byteorder.specs.Endian.{big_number}
use Rattle.local_sets.specs.Sets.{RawItem}
use Rattle.local_sets.specs.Reads.{item_len}
use Rattle.mxf_metadata.specs.Tags.{is_among}
use Rattle.mxf_metadata_reader.specs.PlacedSets.{PlacedSet}
use Rattle.mxf_metadata_reader.specs.Sizes.{is_sized}
use Rattle.mxf_metadata_reader.specs.References.{names_of, all_found}
use Rattle.mxf_metadata_reader.specs.declared.fault.SetFault.{SetFault}
use Rattle.mxf_metadata_reader.specs.declared.fault.SetFault.TheVariants.{UnknownTag, SetCut, ItemSize, BrokenReference}

-- a whole item at a place: its tag is in the primer, and its value has its tag's size
abbrev pub item_fault : List ℕ → ℕ → RawItem → Option SetFault
item_fault tags at item =
    if is_among item.tag tags then (if is_sized item.tag item.value then None else Some (ItemSize at item.tag))
    else Some (UnknownTag at item.tag)

-- the tag with which an item that is cut begins, 0 where it is cut too
abbrev pub cut_tag : List ℕ → ℕ
cut_tag rest = if nat_lt (length rest) 2 then 0 else big_number 2 rest

-- behind the whole items nothing is left
abbrev pub cut_fault : ℕ → List ℕ → Option SetFault
cut_fault at [] = None
cut_fault at (byte ∷ rest) = Some (SetCut at (cut_tag (byte ∷ rest)))

-- the items of a set from a place on, and what is left behind them
unfoldable pub items_fault : List ℕ → ℕ → List RawItem → List ℕ → Option SetFault
items_fault tags at [] rest = cut_fault at rest
items_fault tags at (item ∷ items) rest = option_or (item_fault tags at item) (items_fault tags (at + item_len item) items rest)

-- the sets, in order
unfoldable pub sets_fault : List ℕ → List PlacedSet → Option SetFault
sets_fault tags [] = None
sets_fault tags (placed ∷ sets) = option_or (items_fault tags placed.at placed.set.items placed.set.rest) (sets_fault tags sets)

-- an item of key, length and value that is cut, or has no length, at a place
abbrev pub end_fault : ℕ → List ℕ → Option SetFault
end_fault at [] = None
end_fault at (byte ∷ rest) = Some (SetCut at 0)

-- each set that an item at a place names is there
abbrev pub name_fault : List PlacedSet → ℕ → RawItem → Option SetFault
name_fault all at item = if all_found all (names_of item) then None else Some (BrokenReference at item.tag)

-- the items of a set from a place on
unfoldable pub names_fault : List PlacedSet → ℕ → List RawItem → Option SetFault
names_fault all at [] = None
names_fault all at (item ∷ items) = option_or (name_fault all at item) (names_fault all (at + item_len item) items)

-- the sets, in order
unfoldable pub links_fault : List PlacedSet → List PlacedSet → Option SetFault
links_fault all [] = None
links_fault all (placed ∷ sets) = option_or (names_fault all placed.at placed.set.items) (links_fault all sets)

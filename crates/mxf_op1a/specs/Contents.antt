-- What the items of a file are, and where they stand (SMPTE ST 377-1). docs/formats/mxf.md, "What an OP1a file is".
use Rattle.std.specs.Prelude.{ℕ, ◌+◌, Bool, true, false, if◌then◌else◌, List, [], ◌∷◌, length, take, Option, Some, None}
use Rattle.std.specs.Str.{bytes_eq}
use Rattle.klv.specs.Items.{Item, spelled}
use Rattle.mxf_names.specs.declared.keys.TheConstants.{PRIMER_KEY, INDEX_SEGMENT_KEY, RANDOM_INDEX_KEY, PICTURE_ELEMENT_KEY}
use Rattle.mxf_partitions.specs.Reads.{pack_of}
use Rattle.mxf_partitions.specs.declared.partition.Partition.{Partition}
use Rattle.mxf_metadata_reader.specs.PlacedSets.{is_set_key}
use Rattle.mxf_op1a.specs.declared.keys.TheConstants.{FILL_KEY, ELEMENT_KEY_LEN}

-- what an item is: fill, the pack of a partition, a primer pack, a metadata set, an index table segment, a random index
-- pack, an element of essence, or something else
pub data Content : Type 0 where
  Fill : Content
  Pack : Partition → Content
  Primer : Content
  Set : Content
  Segment : Content
  RandomIndex : Content
  Element : Content
  Other : Content

-- an item that is no partition pack, by its key
abbrev pub content_by_key : List ℕ → Content
content_by_key key =
    if bytes_eq key FILL_KEY then Fill
    else if bytes_eq key PRIMER_KEY then Primer
    else if is_set_key key then Set
    else if bytes_eq key INDEX_SEGMENT_KEY then Segment
    else if bytes_eq key RANDOM_INDEX_KEY then RandomIndex
    else if bytes_eq (take ELEMENT_KEY_LEN key) (take ELEMENT_KEY_LEN PICTURE_ELEMENT_KEY) then Element
    else Other

-- an item that reads as the pack of a partition, or none
abbrev pub pack_or_other : Option Partition → List ℕ → Content
pack_or_other (Some pack) key = Pack pack
pack_or_other None key = content_by_key key

-- what an item is
unfoldable pub content_of : Item → Content
content_of item = pack_or_other (pack_of item) item.key

-- an item at its place
pub record Placed : Type 0 where
  pub at : ℕ
  pub item : Item

-- the place behind it
abbrev pub end_of : Placed → ℕ
end_of p = p.at + length (spelled p.item)

-- items that stand one behind the other from a place on
unfoldable pub placed_from : ℕ → List Item → List Placed
placed_from at [] = []
placed_from at (item ∷ items) = record { at = at; item = item } ∷ placed_from (at + length (spelled item)) items

abbrev pub is_fill : Content → Bool
is_fill Fill = true
is_fill (Pack pack) = false
is_fill Primer = false
is_fill Set = false
is_fill Segment = false
is_fill RandomIndex = false
is_fill Element = false
is_fill Other = false

abbrev pub is_pack : Content → Bool
is_pack (Pack pack) = true
is_pack Fill = false
is_pack Primer = false
is_pack Set = false
is_pack Segment = false
is_pack RandomIndex = false
is_pack Element = false
is_pack Other = false

abbrev pub is_primer : Content → Bool
is_primer Primer = true
is_primer Fill = false
is_primer (Pack pack) = false
is_primer Set = false
is_primer Segment = false
is_primer RandomIndex = false
is_primer Element = false
is_primer Other = false

abbrev pub is_set : Content → Bool
is_set Set = true
is_set Fill = false
is_set (Pack pack) = false
is_set Primer = false
is_set Segment = false
is_set RandomIndex = false
is_set Element = false
is_set Other = false

abbrev pub is_segment : Content → Bool
is_segment Segment = true
is_segment Fill = false
is_segment (Pack pack) = false
is_segment Primer = false
is_segment Set = false
is_segment RandomIndex = false
is_segment Element = false
is_segment Other = false

abbrev pub is_random_index : Content → Bool
is_random_index RandomIndex = true
is_random_index Fill = false
is_random_index (Pack pack) = false
is_random_index Primer = false
is_random_index Set = false
is_random_index Segment = false
is_random_index Element = false
is_random_index Other = false

abbrev pub is_element : Content → Bool
is_element Element = true
is_element Fill = false
is_element (Pack pack) = false
is_element Primer = false
is_element Set = false
is_element Segment = false
is_element RandomIndex = false
is_element Other = false

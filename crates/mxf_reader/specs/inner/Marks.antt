-- What is kept of an item (own). Private functions alone cite this.
use Rattle.std.specs.Prelude.{ℕ, ◌+◌, Bool, List, length, take}
use Rattle.std.specs.Str.{bytes_eq}
use Rattle.mxf_names.specs.declared.keys.TheConstants.{PARTITION_KEY_START, PICTURE_ELEMENT_KEY}
use Rattle.mxf_op1a.specs.Contents.{Content, Placed, content_of}
use Rattle.mxf_op1a.specs.Contents.Content.{Fill, Pack, Primer, Set, Segment, RandomIndex, Element, Other}
use Rattle.mxf_reader.specs.declared.mark.Kind.{Kind}
use Rattle.mxf_reader.specs.declared.mark.Kind.TheVariants.{Filler, PartitionPack, PrimerPack, MetadataSet, IndexSegment, RandomIndexPack, EssenceElement, Unknown}
use Rattle.mxf_reader.specs.declared.mark.Mark.{Mark}

-- what an item is, by its name in the code
abbrev pub kind_of : Content → Kind
kind_of Fill = Filler
kind_of (Pack pack) = PartitionPack pack
kind_of Primer = PrimerPack
kind_of Set = MetadataSet
kind_of Segment = IndexSegment
kind_of RandomIndex = RandomIndexPack
kind_of Element = EssenceElement
kind_of Other = Unknown

-- what is kept of an item at its place
abbrev pub mark_of : Placed → Mark
mark_of p = record {
  at = p.at;
  kind = kind_of (content_of p.item);
  is_picture = bytes_eq p.item.key PICTURE_ELEMENT_KEY;
  value_at = p.at + (17 + p.item.form);
  value_len = length p.item.value;
}

-- a key begins as those of partition packs do
abbrev pub has_pack_start : List ℕ → Bool
has_pack_start key = bytes_eq (take 13 key) PARTITION_KEY_START

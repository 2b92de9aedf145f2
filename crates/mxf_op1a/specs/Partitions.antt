-- The partitions of a file (SMPTE ST 377-1). docs/formats/mxf.md, "What an OP1a file is".
use Rattle.std.specs.Prelude.{ℕ, ◌-◌, ◌||◌, not, Bool, if◌then◌else◌, List, [], ◌∷◌, ◌++◌, filter}
use Rattle.mxf_partitions.specs.declared.partition.Partition.{Partition}
use Rattle.mxf_op1a.specs.Contents.{Content, Placed, content_of, is_element, is_fill, is_pack, is_primer, is_segment, is_set}
use Rattle.mxf_op1a.specs.Contents.Content.{Fill, Pack, Primer, Set, Segment, RandomIndex, Element, Other}

-- a test of what an item is
abbrev pub being : (Content → Bool) → Placed → Bool
being test p = test (content_of p.item)

-- the items up to the first that keeps a test
unfoldable pub up_to : (Content → Bool) → List Placed → List Placed
up_to test [] = []
up_to test (p ∷ ps) = if being test p then [] else p ∷ up_to test ps

-- the items from the first that keeps it on
unfoldable pub from_first : (Content → Bool) → List Placed → List Placed
from_first test [] = []
from_first test (p ∷ ps) = if being test p then p ∷ ps else from_first test ps

-- the place of the first item, or of the end where there is none
abbrev pub place_of : ℕ → List Placed → ℕ
place_of end [] = end
place_of end (p ∷ ps) = p.at

-- a partition: its pack and the pack's place, the items behind it, and where the next pack stands or the file ends
pub record Part : Type 0 where
  pub at : ℕ
  pub pack : Partition
  pub items : List Placed
  pub end : ℕ

-- the partition that a pack begins before other items of a file of this length
abbrev pub part_of : ℕ → Placed → List Placed → Content → List Part
part_of len p ps (Pack pack) =
    record { at = p.at; pack = pack; items = up_to is_pack ps; end = place_of len (from_first is_pack ps) } ∷ []
part_of len p ps Fill = []
part_of len p ps Primer = []
part_of len p ps Set = []
part_of len p ps Segment = []
part_of len p ps RandomIndex = []
part_of len p ps Element = []
part_of len p ps Other = []

-- the partitions of a file of this length, in order
unfoldable pub parts : ℕ → List Placed → List Part
parts len [] = []
parts len (p ∷ ps) = part_of len p ps (content_of p.item) ++ parts len ps

-- the elements among items
abbrev pub elements : List Placed → List Placed
elements items = filter (being is_element) items

-- the bytes of a partition from its first element on: what it adds to the essence stream
abbrev pub stream_len : Part → ℕ
stream_len part = part.end - place_of part.end (elements part.items)

-- the bytes from the first item that keeps one test up to the first behind it that keeps neither another nor is fill
abbrev pub run_of : (Content → Bool) → ℕ → List Placed → ℕ
run_of goes end [] = 0
run_of goes end (p ∷ ps) = place_of end (from_first (λ content. not (goes content || is_fill content)) ps) - p.at

-- the bytes of a partition's metadata: from its primer up to what is neither a set nor fill
abbrev pub metadata_len : Part → ℕ
metadata_len part = run_of is_set part.end (from_first is_primer part.items)

-- the bytes of a partition's index tables: from its first segment up to what is neither a segment nor fill
abbrev pub index_len : Part → ℕ
index_len part = run_of is_segment part.end (from_first is_segment part.items)

-- the last of partitions, and those before it
unfoldable pub last_of : Part → List Part → Part
last_of part [] = part
last_of part (next ∷ parts) = last_of next parts

unfoldable pub all_but_last : Part → List Part → List Part
all_but_last part [] = []
all_but_last part (next ∷ parts) = part ∷ all_but_last next parts

-- the partitions of a file by what they should be: the first, the last, and those between
pub record File : Type 0 where
  pub header : List Part
  pub bodies : List Part
  pub footer : List Part

abbrev pub behind_header : Part → List Part → File
behind_header header [] = record { header = header ∷ []; bodies = []; footer = [] }
behind_header header (part ∷ parts) =
    record { header = header ∷ []; bodies = all_but_last part parts; footer = last_of part parts ∷ [] }

abbrev pub file_of : List Part → File
file_of [] = record { header = []; bodies = []; footer = [] }
file_of (part ∷ parts) = behind_header part parts

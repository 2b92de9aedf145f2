-- What holds of an OP1a file, clause by clause (SMPTE ST 377-1, ST 378). docs/formats/mxf.md, "What an OP1a file is".
use Rattle.std.specs.Prelude.{◌≡◌, ℕ, ◌+◌, ◌-◌, ◌<◌, ◌≤◌, true, List, [], ◌∷◌, ◌++◌, length, map, take, filter, sum_by, Some}
use Rattle.std.specs.List.{flat_map, AllByRecursion}
use Rattle.byteorder.specs.Endian.{big_bytes}
use Rattle.klv.specs.Items.{Item, spelled}
use Rattle.mxf_names.specs.declared.keys.TheConstants.{PICTURE_ELEMENT_KEY}
use Rattle.mxf_names.specs.declared.partition_keys.PartitionKind.TheVariants.{Header, Body, Footer}
use Rattle.mxf_names.specs.declared.partition_keys.PartitionStatus.TheVariants.{OpenIncomplete, ClosedComplete}
use Rattle.mxf_partitions.specs.Reads.{entries_of}
use Rattle.mxf_partitions.specs.declared.random_index.PackEntry.{PackEntry}
use Rattle.mxf_metadata.specs.Durations.{is_duration}
use Rattle.mxf_index.specs.Reads.{Frames, frames_of}
use Rattle.mxf_op1a.specs.Contents.{Placed, is_pack, is_primer, is_random_index, is_segment, is_set, placed_from}
use Rattle.mxf_op1a.specs.Partitions.{File, Part, being, elements, file_of, parts, place_of, stream_len, up_to}
use Rattle.mxf_op1a.specs.Metadata.{SetAt, sets_of}
use Rattle.mxf_op1a.specs.Firsts.{CountsRun, IsLast}
use Rattle.mxf_op1a.specs.KeptMetadata.{HasSoundMetadata}

-- 1. Items go on to the file's end, and the last is a random index pack.
pub record EndsWithRandomIndex (len stop : ℕ) (items : List Placed) : Type 0 where
  pub whole : len ≤ stop
  pub last : Placed
  pub is_last : IsLast items last
  pub index : being is_random_index last ≡ true

-- the entry of a partition
abbrev pub entry_of : Part → PackEntry
entry_of part = record { body_sid = part.pack.body_sid; at = part.at }

-- 2. The last item is a random index pack with the entries of the partitions, in order.
abbrev pub NamesPartitions : List Placed → List Part → Type 0
NamesPartitions items all = (p : Placed) → IsLast items p → entries_of p.item ≡ Some (map entry_of all)

-- 3. Each pack names its own place and that of the pack before, the first 0.
pub record NamesPlaces (all : List Part) : Type 0 where
  pub this : map (λ part. part.pack.this) all ≡ map (λ part. part.at) all
  pub previous : map (λ part. part.pack.previous) all ≡ take (length all) (0 ∷ map (λ part. part.at) all)

-- an open and incomplete header; a body; a closed and complete footer that names itself
pub record IsOpenHeader (part : Part) : Type 0 where
  pub kind : part.pack.kind ≡ Header
  pub status : part.pack.status ≡ OpenIncomplete

abbrev pub IsBody : Part → Type 0
IsBody part = part.pack.kind ≡ Body

pub record IsClosedFooter (part : Part) : Type 0 where
  pub kind : part.pack.kind ≡ Footer
  pub status : part.pack.status ≡ ClosedComplete
  pub named : part.pack.footer ≡ part.at

-- 4. The partitions are such a header, bodies, and such a footer.
pub record IsHeaderToFooter (all : List Part) : Type 0 where
  pub header : Part
  pub bodies : List Part
  pub footer : Part
  pub all_are : all ≡ header ∷ (bodies ++ footer ∷ [])
  pub begins : IsOpenHeader header
  pub between : AllByRecursion IsBody bodies
  pub ends : IsClosedFooter footer

-- 5. A body's offset is the sum of what the bodies before it add to the essence stream.
abbrev pub CountsStream : List Part → Type 0
CountsStream bodies =
    (before behind : List Part) (body : Part) → bodies ≡ before ++ body ∷ behind → body.pack.body_offset ≡ sum_by stream_len before

-- a partition without elements
abbrev pub HasNone : Part → Type 0
HasNone part = elements part.items ≡ []

-- a partition with elements, all with the picture element's key
pub record HasPictures (part : Part) : Type 0 where
  pub some : 0 < length (elements part.items)
  pub keys : AllByRecursion (λ p. p.item.key ≡ PICTURE_ELEMENT_KEY) (elements part.items)

-- 6. Bodies have elements, all with the picture element's key, and neither header nor footer has any, nor do the items
-- before all partitions.
pub record HoldsElements (before : List Placed) (file : File) : Type 0 where
  pub front : elements before ≡ []
  pub header : AllByRecursion HasNone file.header
  pub bodies : AllByRecursion HasPictures file.bodies
  pub footer : AllByRecursion HasNone file.footer

-- 7. Header and footer have sound metadata.
pub record HasMetadata (file : File) : Type 0 where
  pub header : AllByRecursion HasSoundMetadata file.header
  pub footer : AllByRecursion HasSoundMetadata file.footer

-- each duration of a set has these bytes
abbrev pub HasDurations : List ℕ → SetAt → Type 0
HasDurations bytes s = AllByRecursion (λ item. is_duration item.tag ≡ true → item.value ≡ bytes) s.set.items

-- 8. The durations of the footer's sets are this count of elements.
abbrev pub StatesDuration : ℕ → File → Type 0
StatesDuration count file = AllByRecursion (HasDurations (big_bytes 8 count)) (flat_map sets_of file.footer)

-- the stream offsets of a body's elements: its body offset, and the distance from its first element
abbrev pub offsets_in : Part → List ℕ
offsets_in body =
    map (λ p. body.pack.body_offset + (p.at - place_of body.end (elements body.items))) (elements body.items)

-- a segment begins with the frame behind those of the segments before
abbrev pub Join : List Frames → Type 0
Join segments =
    (before behind : List Frames) (frames : Frames) → segments ≡ before ++ frames ∷ behind
    → frames.first ≡ sum_by (λ earlier. length earlier.streams) before

-- 9. The index table segments join from 0 on, and have one entry of each element, its stream offset.
pub record IndexesElements (bodies : List Part) (segments : List Placed) : Type 0 where
  pub frames : List Frames
  pub say : map (λ p. frames_of p.item) segments ≡ map (λ said. Some said) frames
  pub join : Join frames
  pub cover : flat_map (λ said. said.streams) frames ≡ flat_map offsets_in bodies

-- 10. Header bytes are the length of a partition's metadata, index bytes that of its index tables.
pub record CountsLengths (part : Part) : Type 0 where
  pub header : CountsRun is_primer is_set part part.pack.header_bytes
  pub index : CountsRun is_segment is_segment part part.pack.index_bytes

-- each clause holds of a file of this length, whose partitions and items these are; items stand up to `stop`
pub record KeepsClauses (len stop : ℕ) (items : List Placed) (all : List Part) (file : File) : Type 0 where
  pub ends : EndsWithRandomIndex len stop items
  pub named : NamesPartitions items all
  pub places : NamesPlaces all
  pub kinds : IsHeaderToFooter all
  pub stream : CountsStream file.bodies
  pub held : HoldsElements (up_to is_pack items) file
  pub metadata : HasMetadata file
  pub lasting : StatesDuration (length (elements items)) file
  pub indexed : IndexesElements file.bodies (filter (being is_segment) items)
  pub lengths : AllByRecursion CountsLengths all

-- the same of bytes of this length that are so many items and a rest
abbrev pub Keeps : ℕ → List Item → Type 0
Keeps len items =
    let stop : ℕ = length (flat_map spelled items) in
    let placed : List Placed = placed_from 0 items in
    let all : List Part = parts len placed in
    KeepsClauses len stop placed all (file_of all)

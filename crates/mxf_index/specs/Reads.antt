-- What an index table segment says of frames, or why an item is none (SMPTE ST 377-1). docs/FORMATS.md, "Index table segments".
use Rattle.std.specs.Prelude.{◌≡◌, ◌≢◌, ◌⊎◌, ℕ, ◌+◌, ◌-◌, ◌*◌, ◌^◌, ◌<◌, ◌≤◌, ◌&&◌, nat_lt, nat_le, if◌then◌else◌, Bool, List, [], ◌∷◌}
use Rattle.std.specs.Prelude.{length, drop, map, slice_index, Option, Some, None, is_none}
use Rattle.std.specs.List.{AllByRecursion, range_with_len, find}
use Rattle.std.specs.Option.{option_or, option_map}
use Rattle.std.specs.Str.{bytes_eq}
use Rattle.byteorder.specs.Endian.{big_number}
use Rattle.klv.specs.Items.{Item}
use Rattle.klv.specs.Reads.{IsItemAt, HasItemAt}
use Rattle.mxf_names.specs.declared.keys.TheConstants.{INDEX_SEGMENT_KEY}
use Rattle.mxf_names.specs.declared.streams.TheConstants.{INDEX_STREAM, ESSENCE_STREAM}
use Rattle.mxf_index.specs.Segments.{Segment, delta_of_picture, entry_of_frame}
use Rattle.mxf_index.specs.Dues.{due_items, first_fault, end_fault}
use Rattle.mxf_index.specs.declared.tags.TheConstants.{ENTRY_SIZE}
use Rattle.mxf_index.specs.declared.segment.TheConstants.{ITEMS_LEN, MAX_ENTRIES}
use Rattle.mxf_index.specs.declared.due.TheConstants.{FIRST_AT, COUNT_AT, ENTRIES_AT, STREAM_AT}
use Rattle.mxf_index.specs.declared.reading.Segment as read
use Rattle.mxf_index.specs.declared.fault.SegmentFault.{SegmentFault}
use Rattle.mxf_index.specs.declared.fault.SegmentFault.TheVariants.{SegmentCut, SegmentField, EntryOrder, Memory}

-- what a segment says of frames: the first, and the stream offset of each
pub record Frames : Type 0 where
  pub first : ℕ
  pub streams : List ℕ

-- the segment of an identifier and a rate that says this of frames, each its own key frame and one element
abbrev pub segment_saying : List ℕ → ℕ × ℕ → Frames → Segment
segment_saying id rate frames = record {
  id = id;
  rate = rate;
  first = frames.first;
  duration = length frames.streams;
  index_sid = INDEX_STREAM;
  body_sid = ESSENCE_STREAM;
  deltas = delta_of_picture ∷ [];
  entries = map entry_of_frame frames.streams;
}

-- each offset is above the one before
abbrev pub AreRising : List ℕ → Type 0
AreRising streams = (k : ℕ) → k + 1 < length streams → slice_index streams k < slice_index streams (k + 1)

-- the numbers have room in a segment, and the offsets rise
pub record AreFrames (frames : Frames) : Type 0 where
  pub number : frames.first < 2 ^ 63
  pub few : length frames.streams ≤ MAX_ENTRIES
  pub fit : AllByRecursion (λ stream. stream < 2 ^ 64) frames.streams
  pub rise : AreRising frames.streams

-- the offset of frame k isn't above that of the frame before
abbrev pub falls : List ℕ → ℕ → Bool
falls streams k = nat_lt 0 k && nat_le (slice_index streams k) (slice_index streams (k - 1))

-- the first frame whose offset isn't
abbrev pub first_fall : List ℕ → Option ℕ
first_fall streams = find (falls streams) (range_with_len 0 (length streams))

-- the number of frames, as a segment's value states it
abbrev pub count_in : List ℕ → ℕ
count_in value = big_number 8 (drop COUNT_AT value)

-- the offset of frame k, where it stands in a segment's value
abbrev pub stream_in : List ℕ → ℕ → ℕ
stream_in value k = big_number 8 (drop (ENTRIES_AT + ENTRY_SIZE * k + STREAM_AT) value)

-- what a segment's value says of frames
abbrev pub frames_in : List ℕ → Frames
frames_in value = record { first = big_number 8 (drop FIRST_AT value); streams = map (stream_in value) (range_with_len 0 (count_in value)) }

-- the first rule that a value breaks: items in order, bytes behind them, the order of the offsets; places count from the value's first byte
unfoldable pub value_fault : List ℕ → Option SegmentFault
value_fault value =
    option_or (first_fault value 0 (due_items (count_in value)))
    (option_or (end_fault value (ITEMS_LEN + ENTRY_SIZE * count_in value)) (option_map EntryOrder (first_fall (frames_in value).streams)))

-- what an item says of frames, none where it is no segment
unfoldable pub frames_of : Item → Option Frames
frames_of item = if bytes_eq item.key INDEX_SEGMENT_KEY && is_none (value_fault item.value) then Some (frames_in item.value) else None

-- the bytes begin with a segment, and it says this
pub record IsReadSegment (bytes : List ℕ) (segment : read.Segment) : Type 0 where
  pub item : Item
  pub stands : IsItemAt bytes 0 item
  pub says : frames_of item ≡ Some (record { first = segment.first; streams = segment.streams.items })

-- the bytes begin with an item of another key
pub record HasOtherKey (bytes : List ℕ) : Type 0 where
  pub item : Item
  pub stands : IsItemAt bytes 0 item
  pub other : item.key ≢ INDEX_SEGMENT_KEY

-- the bytes begin with an item of a segment's key whose value begins at a place, and this is the first rule that the value breaks
pub record HasFault (bytes : List ℕ) (head : ℕ) (found : SegmentFault) : Type 0 where
  pub item : Item
  pub stands : IsItemAt bytes 0 item
  pub key : item.key ≡ INDEX_SEGMENT_KEY
  pub value_at : head ≡ 17 + item.form
  pub first : value_fault item.value ≡ Some found

-- why bytes don't begin with a segment: no whole item, another key, or else the first rule that the value breaks
abbrev pub Refuses : List ℕ → SegmentFault → Type 0
Refuses bytes Memory = Unit {0}
Refuses bytes (SegmentCut at tag) =
    ((at ≡ 0) × (tag ≡ 0) × ¬ HasItemAt bytes 0) ⊎ ((head place : ℕ) × (at ≡ head + place) × HasFault bytes head (SegmentCut place tag))
Refuses bytes (SegmentField at tag) =
    ((at ≡ 0) × (tag ≡ 0) × HasOtherKey bytes) ⊎ ((head place : ℕ) × (at ≡ head + place) × HasFault bytes head (SegmentField place tag))
Refuses bytes (EntryOrder entry) = (head : ℕ) × HasFault bytes head (EntryOrder entry)

-- Index table segments (SMPTE ST 377-1). docs/FORMATS.md, "Index table segments".
use Rattle.std.specs.Prelude.{◌≡◌, ℕ, List, [], ◌∷◌, ◌++◌, length, map}
use Rattle.std.specs.List.{flat_map}
use Rattle.byteorder.specs.Endian.{big_bytes}
use Rattle.klv.specs.Items as klv
use Rattle.rec_bytes.specs.Configuration.{Fields}
use Rattle.local_sets.specs.Sets.{RawItem, raw_bytes, item, items_bytes}
use Rattle.local_sets.specs.declared.set.Item.{Item}
use Rattle.local_sets.specs.declared.value.Value.TheVariants.{Byte, Word, Long, Ratio, Label}
use Rattle.mxf_names.specs.declared.ids.Ids.{Ids}
use Rattle.mxf_names.specs.EditRates.{edit_rate}
use Rattle.mxf_names.specs.declared.tags.TheConstants.{INSTANCE_ID, INDEX_SID, BODY_SID}
use Rattle.mxf_names.specs.declared.keys.TheConstants.{INDEX_SEGMENT_KEY}
use Rattle.mxf_names.specs.declared.streams.TheConstants.{INDEX_STREAM, ESSENCE_STREAM}
use Rattle.mxf_index.specs.declared.tags.TheConstants.{INDEX_EDIT_RATE, INDEX_START_POSITION, INDEX_DURATION, EDIT_UNIT_BYTE_COUNT, SLICE_COUNT}
use Rattle.mxf_index.specs.declared.tags.TheConstants.{DELTA_ENTRIES, INDEX_ENTRIES, POS_TABLE_COUNT}
use Rattle.mxf_index.specs.declared.tags.TheConstants.{RANDOM_ACCESS, DELTA_SIZE, ENTRY_SIZE}

-- where an element of an edit unit stands in it: reordering, slice, and place behind the slice's first byte
pub record DeltaEntry : Type 0 where
  pub reordering : ℕ
  pub slice : ℕ
  pub offset : ℕ

-- what a segment says of a frame: frames until it is shown, frames since its key frame, flags, and its place in the stream
pub record IndexEntry : Type 0 where
  pub temporal : ℕ
  pub key_frame : ℕ
  pub flags : ℕ
  pub stream : ℕ

-- what an index table segment says of frames that differ in length, have one slice each, and no table of positions
pub record Segment : Type 0 where
  pub id : List ℕ
  pub rate : ℕ × ℕ
  pub first : ℕ
  pub duration : ℕ
  pub index_sid : ℕ
  pub body_sid : ℕ
  pub deltas : List DeltaEntry
  pub entries : List IndexEntry

-- a delta entry as it is spelled
abbrev pub delta_bytes : DeltaEntry → List ℕ
delta_bytes delta = big_bytes 1 delta.reordering ++ big_bytes 1 delta.slice ++ big_bytes 4 delta.offset

-- an index entry as it is spelled
abbrev pub entry_bytes : IndexEntry → List ℕ
entry_bytes entry = big_bytes 1 entry.temporal ++ big_bytes 1 entry.key_frame ++ big_bytes 1 entry.flags ++ big_bytes 8 entry.stream

-- lists of bytes, one after the other
abbrev pub joined : List (List ℕ) → List ℕ
joined entries = flat_map (λ entry. entry) entries

-- an item whose value is an array: count, bytes of an entry, entries
abbrev pub array_item : ℕ → ℕ → List (List ℕ) → RawItem
array_item tag size entries = record { tag = tag; value = big_bytes 4 (length entries) ++ big_bytes 4 size ++ joined entries }

-- which frames, how fast, and of which streams
abbrev pub range_items : Segment → List Item
range_items s =
    item INDEX_EDIT_RATE (Ratio s.rate.0 s.rate.1)
    ∷ item INDEX_START_POSITION (Long s.first)
    ∷ item INDEX_DURATION (Long s.duration)
    ∷ item EDIT_UNIT_BYTE_COUNT (Word 0)
    ∷ item INDEX_SID (Word s.index_sid)
    ∷ item BODY_SID (Word s.body_sid)
    ∷ item SLICE_COUNT (Byte 0)
    ∷ []

-- the items before the arrays
abbrev pub opening_items : Segment → List Item
opening_items s = item INSTANCE_ID (Label s.id) ∷ range_items s

-- the item behind the arrays
abbrev pub closing_items : List Item
closing_items = item POS_TABLE_COUNT (Byte 0) ∷ []

-- the array of the delta entries as it is spelled
abbrev pub delta_array : List DeltaEntry → List ℕ
delta_array deltas = raw_bytes (array_item DELTA_ENTRIES DELTA_SIZE (map delta_bytes deltas))

-- the array of the index entries as it is spelled
abbrev pub entry_array : List IndexEntry → List ℕ
entry_array entries = raw_bytes (array_item INDEX_ENTRIES ENTRY_SIZE (map entry_bytes entries))

-- what a segment holds: its items one after the other
abbrev pub segment_value : Segment → List ℕ
segment_value s = items_bytes (opening_items s) ++ delta_array s.deltas ++ entry_array s.entries ++ items_bytes closing_items

-- an item is this segment, whatever the form of its length
pub record IsSegment (item : klv.Item) (s : Segment) : Type 0 where
  pub key : item.key ≡ INDEX_SEGMENT_KEY
  pub value : item.value ≡ segment_value s

-- ours: its length is 83h and three bytes
abbrev pub segment_item : Segment → klv.Item
segment_item s = klv.item_of INDEX_SEGMENT_KEY 3 (segment_value s)

-- the identifier of the segment that begins with a frame (own)
abbrev pub segment_id : Ids → ℕ → List ℕ
segment_id ids first = ids.index ++ big_bytes 8 first

-- the one delta entry of ours: no reordering, slice 0, and the element begins the edit unit
abbrev pub delta_of_picture : DeltaEntry
delta_of_picture = record { reordering = 0; slice = 0; offset = 0 }

-- the entry of a frame of ours, by its stream offset: no reordering, and its own key frame
abbrev pub entry_of_frame : ℕ → IndexEntry
entry_of_frame stream = record { temporal = 0; key_frame = 0; flags = RANDOM_ACCESS; stream = stream }

-- as it is spelled
abbrev pub frame_bytes : ℕ → List ℕ
frame_bytes stream = entry_bytes (entry_of_frame stream)

-- the segment of a take's frames from one on, by their stream offsets
abbrev pub segment_of : Fields → Ids → ℕ → List ℕ → Segment
segment_of cfg ids first streams = record {
  id = segment_id ids first;
  rate = edit_rate cfg.rate;
  first = first;
  duration = length streams;
  index_sid = INDEX_STREAM;
  body_sid = ESSENCE_STREAM;
  deltas = delta_of_picture ∷ [];
  entries = map entry_of_frame streams;
}

-- as it is spelled
unfoldable pub index_segment : Fields → Ids → ℕ → List ℕ → List ℕ
index_segment cfg ids first streams = klv.spelled (segment_item (segment_of cfg ids first streams))

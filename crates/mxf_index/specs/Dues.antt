-- The items that are due in an index table segment, and the first that isn't the one due (SMPTE ST 377-1).
-- docs/FORMATS.md, "Index table segments".
use Rattle.std.specs.Prelude.{ℕ, ◌+◌, ◌*◌, ◌^◌, ◌==◌, ◌&&◌, nat_lt, if◌then◌else◌, Bool, true, List, [], ◌∷◌, ◌++◌}
use Rattle.std.specs.Prelude.{length, take, drop, Option, Some, None}
use Rattle.std.specs.List.{range_with_len, list_all}
use Rattle.std.specs.Option.{option_or}
use Rattle.byteorder.specs.Endian.{big_number}
use Rattle.local_sets.specs.Sets.{RawItem}
use Rattle.local_sets.specs.declared.set.TheConstants.{ITEM_HEAD_LEN}
use Rattle.local_sets.specs.declared.value.TheConstants.{BATCH_HEAD_LEN}
use Rattle.mxf_names.specs.declared.streams.TheConstants.{INDEX_STREAM, ESSENCE_STREAM}
use Rattle.mxf_names.specs.declared.tags.TheConstants.{INSTANCE_ID, INDEX_SID, BODY_SID}
use Rattle.mxf_index.specs.declared.tags.TheConstants.{INDEX_EDIT_RATE, INDEX_START_POSITION, INDEX_DURATION, EDIT_UNIT_BYTE_COUNT, SLICE_COUNT}
use Rattle.mxf_index.specs.declared.tags.TheConstants.{DELTA_ENTRIES, INDEX_ENTRIES, POS_TABLE_COUNT, RANDOM_ACCESS, DELTA_SIZE, ENTRY_SIZE}
use Rattle.mxf_index.specs.declared.due.Due.{Due}
use Rattle.mxf_index.specs.declared.due.Holds.{Holds}
use Rattle.mxf_index.specs.declared.due.Holds.TheVariants.{Bytes, Position, Byte, Word, OneDelta, Entries}
use Rattle.mxf_index.specs.declared.due.TheConstants.{STREAM_AT}
use Rattle.mxf_index.specs.declared.fault.SegmentFault.{SegmentFault}
use Rattle.mxf_index.specs.declared.fault.SegmentFault.TheVariants.{SegmentCut, SegmentField}

-- the item that stands at a place of a set's value, none where the value ends inside it
unfoldable pub item_at : List ℕ → ℕ → Option RawItem
item_at value at =
    let size : ℕ = big_number 2 (drop (at + 2) value) in
    if nat_lt (length value) (at + ITEM_HEAD_LEN + size) then None
    else Some (record { tag = big_number 2 (drop at value); value = take size (drop (at + ITEM_HEAD_LEN) value) })

-- bytes of the value of an item that holds this
unfoldable pub size_of : Holds → ℕ
size_of (Bytes size) = size
size_of Position = 8
size_of (Byte number) = 1
size_of (Word number) = 4
size_of OneDelta = BATCH_HEAD_LEN + DELTA_SIZE
size_of (Entries count) = BATCH_HEAD_LEN + ENTRY_SIZE * count

-- an array is headed by this count and this size of an entry
abbrev pub is_array : ℕ → ℕ → List ℕ → Bool
is_array count size value = big_number 4 value == count && big_number 4 (drop 4 value) == size

-- entry k of an array: temporal offset 0, key frame offset 0, and the flag of random access
abbrev pub is_frame_entry : List ℕ → ℕ → Bool
is_frame_entry value k = big_number STREAM_AT (drop (BATCH_HEAD_LEN + ENTRY_SIZE * k) value) == RANDOM_ACCESS

-- whether a value of the right size may be that of an item that holds this
unfoldable pub may_be : Holds → List ℕ → Bool
may_be (Bytes size) value = true
may_be Position value = nat_lt (big_number 8 value) (2 ^ 63)
may_be (Byte number) value = big_number 1 value == number
may_be (Word number) value = big_number 4 value == number
may_be OneDelta value = is_array 1 DELTA_SIZE value && big_number DELTA_SIZE (drop BATCH_HEAD_LEN value) == 0
may_be (Entries count) value = is_array count ENTRY_SIZE value && list_all (is_frame_entry value) (range_with_len 0 count)

-- an item is the one that is due
abbrev pub is_due : Due → RawItem → Bool
is_due due item = item.tag == due.tag && (length item.value == size_of due.holds && may_be due.holds item.value)

-- an item that is due: its tag, and what it holds
abbrev pub due : ℕ → Holds → Due
due tag holds = record { tag = tag; holds = holds }

-- the items of a segment in order, up to the entries: identifier, rate, first frame, number of frames, and what is the same in all
unfoldable pub opening_dues : List Due
opening_dues =
    due INSTANCE_ID (Bytes 16)
    ∷ due INDEX_EDIT_RATE (Bytes 8)
    ∷ due INDEX_START_POSITION Position
    ∷ due INDEX_DURATION (Bytes 8)
    ∷ due EDIT_UNIT_BYTE_COUNT (Word 0)
    ∷ due INDEX_SID (Word INDEX_STREAM)
    ∷ due BODY_SID (Word ESSENCE_STREAM)
    ∷ due SLICE_COUNT (Byte 0)
    ∷ due DELTA_ENTRIES OneDelta
    ∷ []

-- all its items, where it says that there are so many frames
abbrev pub due_items : ℕ → List Due
due_items count = opening_dues ++ due INDEX_ENTRIES (Entries count) ∷ due POS_TABLE_COUNT (Byte 0) ∷ []

-- why what stands at a place isn't the item due there: the value ends inside an item, or it is another one
abbrev pub fault_of : ℕ → Due → Option RawItem → Option SegmentFault
fault_of at due None = Some (SegmentCut at due.tag)
fault_of at due (Some item) = if is_due due item then None else Some (SegmentField at due.tag)

-- the fault of the first item that isn't the one due, of items that follow one another from a place on
unfoldable pub first_fault : List ℕ → ℕ → List Due → Option SegmentFault
first_fault value at [] = None
first_fault value at (due ∷ dues) =
    option_or (fault_of at due (item_at value at)) (first_fault value (at + ITEM_HEAD_LEN + size_of due.holds) dues)

-- bytes stand behind the items, which end at a place
abbrev pub end_fault : List ℕ → ℕ → Option SegmentFault
end_fault value end = if length value == end then None else Some (SegmentField end 0)

-- What the private functions of the reader answer. Private functions alone cite these.
use Rattle.std.specs.Prelude.{◌≡◌, ◌⊎◌, ℕ, ◌+◌, ◌*◌, List, [], ◌∷◌, Option, Some, None}
use Rattle.std.specs.Option.{option_or}
use Rattle.local_sets.specs.declared.set.TheConstants.{ITEM_HEAD_LEN}
use Rattle.mxf_index.specs.Dues.{due, due_items, end_fault, fault_of, first_fault, item_at, size_of}
use Rattle.mxf_index.specs.Reads.{count_in, frames_in, value_fault}
use Rattle.mxf_index.specs.declared.tags.TheConstants.{ENTRY_SIZE, INDEX_ENTRIES, POS_TABLE_COUNT}
use Rattle.mxf_index.specs.declared.segment.TheConstants.{DELTAS_LEN, ITEMS_LEN, OPENING_LEN}
use Rattle.mxf_index.specs.declared.due.TheConstants.{ENTRIES_AT}
use Rattle.mxf_index.specs.declared.due.Holds.TheVariants.{Byte, Entries}
use Rattle.mxf_index.specs.declared.due.Due.{Due}
use Rattle.mxf_index.specs.declared.reading.Segment as read
use Rattle.mxf_index.specs.declared.fault.SegmentFault.{SegmentFault}
use Rattle.mxf_index.specs.declared.fault.SegmentFault.TheVariants.{SegmentCut, SegmentField, EntryOrder, Memory}

-- bytes of items that are due, one after the other
unfoldable pub dues_len : List Due → ℕ
dues_len [] = 0
dues_len (due ∷ dues) = ITEM_HEAD_LEN + size_of due.holds + dues_len dues

-- the fault of the item that is due at a place
abbrev pub fault_at : List ℕ → ℕ → Due → Option SegmentFault
fault_at value at due = fault_of at due (item_at value at)

-- the item of the entries
abbrev pub entries_due : ℕ → Due
entries_due count = due INDEX_ENTRIES (Entries count)

-- the item behind it
abbrev pub closing_due : Due
closing_due = due POS_TABLE_COUNT (Byte 0)

-- the first rule that a value breaks from its entries on
unfoldable pub rest_fault : List ℕ → ℕ → Option SegmentFault
rest_fault value count =
    option_or (fault_at value (OPENING_LEN + DELTAS_LEN) (entries_due count))
    (option_or (fault_at value (ENTRIES_AT + ENTRY_SIZE * count) closing_due) (end_fault value (ITEMS_LEN + ENTRY_SIZE * count)))

-- the first rule that a value breaks by its items, or by what stands behind them
unfoldable pub items_fault : List ℕ → Option SegmentFault
items_fault value = option_or (first_fault value 0 (due_items (count_in value))) (end_fault value (ITEMS_LEN + ENTRY_SIZE * count_in value))

-- a value breaks no rule, and says this of frames
pub record Says (value : List ℕ) (segment : read.Segment) : Type 0 where
  pub kept : value_fault value ≡ None
  pub frames : frames_in value ≡ record { first = segment.first; streams = segment.streams.items }

-- the first rule that a value breaks, or want of memory
abbrev pub Breaks : List ℕ → SegmentFault → Type 0
Breaks value fault = (fault ≡ Memory) ⊎ (value_fault value ≡ Some fault)

-- a fault whose place counts from the first byte of a value that begins at a place
abbrev pub moved : ℕ → SegmentFault → SegmentFault
moved head Memory = Memory
moved head (SegmentCut at tag) = SegmentCut (head + at) tag
moved head (SegmentField at tag) = SegmentField (head + at) tag
moved head (EntryOrder entry) = EntryOrder entry

-- the place that a fault names, 0 where it names none
abbrev pub place_of : SegmentFault → ℕ
place_of Memory = 0
place_of (SegmentCut at tag) = at
place_of (SegmentField at tag) = at
place_of (EntryOrder entry) = 0

-- A slice on its way to a worker, and back (own).
use Rattle.std.specs.Prelude.{◌≡◌, ◌≤◌, ℕ, ◌+◌, ◌*◌, ◌%◌, ◌^◌, List, Option, length, take, get_or}
use Rattle.rec_bytes.specs.Configuration.{Fields}
use Rattle.picture_plane.specs.Blocks.{AreCut}
use Rattle.picture_plane.specs.Pictures.{Planes}
use Rattle.picture_plane.specs.Sizes.{size_of}
use Rattle.picture_plane.specs.Slices.{row_widths, slices_per_picture, slice_total, IsFrameSlice}
use Rattle.picture_plane.specs.declared.slice_names.SliceName.{SliceName}
use Rattle.frame_syntax.specs.declared.front.TheConstants.{SLICE_ROOM, MACROBLOCK_ROOM}
use Rattle.frame_codec.specs.Coded.{IsCodedCut}
use Rattle.slot_pool.specs.Slots.{BlockName, SlotSeen}
use Rattle.slice_desk.specs.Told.{IsTold}

-- slices of a frame
abbrev pub slices_of : Fields → ℕ
slices_of config = slice_total (size_of config) config.log2

-- the widths of the slices of a row of macroblocks
abbrev pub widths_of : Fields → List ℕ
widths_of config = row_widths (size_of config) config.log2

-- slices of a coded picture
abbrev pub slices_in_picture : Fields → ℕ
slices_in_picture config = slices_per_picture (size_of config) config.log2

-- the most bytes of the n-th slice of a coded picture
abbrev pub slice_room : Fields → ℕ → ℕ
slice_room config n = SLICE_ROOM + MACROBLOCK_ROOM * get_or (widths_of config) (n % length (widths_of config)) 0

-- the slots of a block have room for a slice each, and there are enough for four frames
pub record IsRoomFor (config : Fields) (block : BlockName) : Type 0 where
  pub slots : block.slots ≡ 4 * slices_of config
  pub size : block.size ≡ MACROBLOCK_ROOM * 2 ^ config.log2 + SLICE_ROOM

-- the samples are those of a slice of the frame's picture
abbrev pub HasSamples : Option (List ℕ) → Fields → ℕ → ℕ → List (List ℕ) → Type 0
HasSamples told config frame index samples = (picture : Planes) (name : SliceName) → IsTold told config frame picture
    → IsFrameSlice (size_of config) config.log2 index name → AreCut picture name samples

-- the bytes are a slice of the frame's picture, coded
abbrev pub IsCodedFor : Option (List ℕ) → Fields → ℕ → ℕ → List ℕ → Type 0
IsCodedFor told config frame index bytes = (picture : Planes) (name : SliceName) → IsTold told config frame picture
    → IsFrameSlice (size_of config) config.log2 index name → IsCodedCut config picture name bytes

-- a coded slice: which one, how many bytes it has, and the slot that begins with them
pub record DoneSeen : Type 0 where
  pub frame : ℕ
  pub index : ℕ
  pub len : ℕ
  pub slot : SlotSeen

-- the first bytes of the slot are the slice of this frame and index
pub record IsDone (told : Option (List ℕ)) (config : Fields) (frame index len : ℕ) (slot : SlotSeen) : Type 0 where
  pub within : len ≤ length slot.bytes
  pub short : len ≤ slice_room config (index % slices_in_picture config)
  pub coded : IsCodedFor told config frame index (take len slot.bytes)

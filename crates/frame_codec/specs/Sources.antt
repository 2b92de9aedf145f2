-- The slices of a coded picture that a source writes one by one (own). docs/formats/frames.md, "Coded frames".
use Rattle.std.specs.Prelude.{ℕ, ◌+◌, ◌*◌, ◌%◌, List, length, get_or}
use Rattle.rec_bytes.specs.Configuration.{Fields}
use Rattle.picture_plane.specs.Pictures.{Planes}
use Rattle.picture_plane.specs.Sizes.{size_of}
use Rattle.picture_plane.specs.Slices.{row_widths, slices_per_picture, IsSlice}
use Rattle.picture_plane.specs.declared.slice_names.SliceName.{SliceName}
use Rattle.frame_syntax.specs.declared.front.TheConstants.{SLICE_ROOM, MACROBLOCK_ROOM}
use Rattle.frame_codec.specs.Coded.{IsCodedCut}

-- the widths of the slices of a row of macroblocks
abbrev pub widths_of : Fields → List ℕ
widths_of fields = row_widths (size_of fields) fields.log2

-- slices of a coded picture
abbrev pub slices_of : Fields → ℕ
slices_of fields = slices_per_picture (size_of fields) fields.log2

-- macroblocks of the n-th slice of a coded picture
abbrev pub width_at : Fields → ℕ → ℕ
width_at fields n = get_or (widths_of fields) (n % length (widths_of fields)) 0

-- the most bytes of the n-th slice of a coded picture
abbrev pub slice_room : Fields → ℕ → ℕ
slice_room fields n = SLICE_ROOM + MACROBLOCK_ROOM * width_at fields n

-- the n-th slice of a coded picture is so named
abbrev pub IsNamed : Fields → ℕ → ℕ → SliceName → Type 0
IsNamed fields number n name = IsSlice (size_of fields) fields.log2 number n name

-- the bytes are the n-th slice of a coded picture
abbrev pub IsNth : Fields → Planes → ℕ → ℕ → List ℕ → Type 0
IsNth fields picture number n bytes = (name : SliceName) → IsNamed fields number n name → IsCodedCut fields picture name bytes

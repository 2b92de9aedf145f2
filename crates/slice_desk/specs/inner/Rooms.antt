-- The room of the slices of a coded picture. Private functions alone cite these.
use Rattle.std.specs.Prelude.{ℕ, ◌+◌, ◌*◌, ◌/◌, ◌%◌, length, take, sum}
use Rattle.rec_bytes.specs.Configuration.{Fields}
use Rattle.picture_plane.specs.Sizes.{size_of}
use Rattle.picture_plane.specs.Slices.{macroblocks}
use Rattle.frame_syntax.specs.Written.{picture_room}
use Rattle.frame_syntax.specs.declared.front.TheConstants.{SLICE_ROOM, MACROBLOCK_ROOM}
use Rattle.slice_desk.specs.Slices.{widths_of}

-- macroblocks of the slices before the n-th one of a coded picture
abbrev pub width_before : Fields → ℕ → ℕ
width_before config n =
    n / length (widths_of config) * macroblocks config.width + sum (take (n % length (widths_of config)) (widths_of config))

-- the most bytes of these slices
abbrev pub slices_room : Fields → ℕ → ℕ
slices_room config n = SLICE_ROOM * n + MACROBLOCK_ROOM * width_before config n

-- the most bytes of a coded picture
abbrev pub room_of : Fields → ℕ
room_of config = picture_room (size_of config) config.log2

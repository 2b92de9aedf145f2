-- A frame's size as numbers.
use Rattle.picture_plane.specs.Slices.{Size}
use Rattle.picture_plane.specs.declared.frame_size.FrameSize.{FrameSize}

-- the numbers of a size
abbrev pub as_size : FrameSize → Size
as_size size = record { width = size.width; height = size.height; interlace = size.interlace }

-- In what a frame isn't as configured (own). docs/formats/frames.md, "Refusals of frames".
use Rattle.std.specs.Prelude.{ℕ, ◌==◌, Option, Some, None, if◌then◌else◌}
use Rattle.rec_bytes.specs.Configuration.{Fields}
use Rattle.frame_syntax.specs.declared.frame_head.FrameHead.{FrameHead}
use Rattle.frame_syntax.specs.declared.frame_head.TheConstants.{WIDTH_AT, HEIGHT_AT, FORMAT_AT}

-- the byte of the first of width, height and interlace mode that isn't the configured one
abbrev pub first_difference : FrameHead → Fields → Option ℕ
first_difference head config =
    if head.width == config.width then
    (if head.height == config.height then (if head.interlace == config.interlace then None else Some FORMAT_AT) else Some HEIGHT_AT)
    else Some WIDTH_AT

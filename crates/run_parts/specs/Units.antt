-- The units of a feed as frames (own). docs/FORMATS.md, "Feeds".
use Rattle.std.specs.Prelude.{◌≡◌, ℕ, List, Some, None}
use Rattle.rec_bytes.specs.Configuration.{Fields}
use Rattle.frame_syntax.specs.Differences.{first_difference}
use Rattle.frame_syntax.specs.Frames.{IsFrame, Refuses}
use Rattle.frame_syntax.specs.declared.frame.FrameParts.{FrameParts}
use Rattle.run_parts.specs.declared.unit.UnitFault.{UnitFault}
use Rattle.run_parts.specs.declared.unit.UnitFault.TheVariants.{Frame, Differs}

-- a unit is a frame of the configured size and interlace mode
abbrev pub IsRead : Fields → List ℕ → Type 0
IsRead config unit = (parts : FrameParts) × IsFrame unit parts × (first_difference parts.head config ≡ None)

-- why a unit is refused: it is no frame, or one that isn't as configured
abbrev pub RefusesUnit : Fields → List ℕ → UnitFault → Type 0
RefusesUnit config unit (Frame fault) = Refuses unit fault
RefusesUnit config unit (Differs at) = (parts : FrameParts) × IsFrame unit parts × (first_difference parts.head config ≡ Some at)

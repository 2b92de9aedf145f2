-- The frame that a desk writes (own).
use Rattle.std.specs.Prelude.{ℕ, List, Option}
use Rattle.rec_bytes.specs.Configuration.{Fields}
use Rattle.picture_plane.specs.Pictures.{Planes}
use Rattle.frame_codec.specs.Coded.{IsCodedFrame}
use Rattle.slice_desk.specs.Told.{IsTold}

-- the bytes are the frame of the feed's picture of this number
abbrev pub IsFrameFor : Option (List ℕ) → Fields → ℕ → List ℕ → Type 0
IsFrameFor told config frame bytes = (picture : Planes) → IsTold told config frame picture → IsCodedFrame config picture bytes

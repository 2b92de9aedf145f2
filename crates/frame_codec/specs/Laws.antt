-- What holds of all frames: laws, proved as clauses of functions that do nothing (own).
use Rattle.std.specs.Prelude.{◌≡◌, ◌≢◌, ◌<◌, ◌≤◌, ◌^◌, ℕ, List, length, slice_index}
use Rattle.rec_bytes.specs.Configuration.{Fields}
use Rattle.rec_bytes.specs.Ranges.{IsInRange}
use Rattle.picture_plane.specs.Pictures.{Planes, IsPicture}
use Rattle.picture_plane.specs.Sizes.{size_of}
use Rattle.frame_codec.specs.Coded.{IsCodedFrame, IsRebuilt}
use Rattle.frame_codec.specs.Frames.{MeansFrame}
use Rattle.frame_codec.specs.Faults.{Refuses}
use Rattle.frame_codec.specs.declared.fault.DecodeFault.{DecodeFault}
use Rattle.frame_codec.specs.declared.fault.DecodeFault.TheVariants.{Memory}

-- a picture that a configuration takes
pub record IsSource (fields : Fields) (picture : Planes) : Type 0 where
  pub ranges : IsInRange fields
  pub size : picture.size ≡ size_of fields
  pub whole : IsPicture picture

-- bytes mean one picture
abbrev pub FramesMeanOne : Type 0
FramesMeanOne = (bytes : List ℕ) (one two : Planes) → MeansFrame bytes one → MeansFrame bytes two → one ≡ two

-- bytes that a fault refuses mean no picture, want of memory aside
abbrev pub RefusedMeansNothing : Type 0
RefusedMeansNothing = (bytes : List ℕ) (fault : DecodeFault) (picture : Planes) → fault ≢ Memory
    → Refuses bytes fault → MeansFrame bytes picture → ⊥

-- and are refused by one fault
abbrev pub RefusalsAreOne : Type 0
RefusalsAreOne = (bytes : List ℕ) (a b : DecodeFault) → a ≢ Memory → b ≢ Memory → Refuses bytes a → Refuses bytes b → a ≡ b

-- the frame of a picture means the picture that it gives back
abbrev pub CodedFramesMean : Type 0
CodedFramesMean = (fields : Fields) (source rebuilt : Planes) (bytes : List ℕ) → IsSource fields source
    → IsCodedFrame fields source bytes → IsRebuilt fields source rebuilt → MeansFrame bytes rebuilt

-- and there is such a picture
abbrev pub CodedFramesGiveBack : Type 0
CodedFramesGiveBack = (fields : Fields) (source : Planes) (bytes : List ℕ) → IsSource fields source
    → IsCodedFrame fields source bytes → (rebuilt : Planes) × IsRebuilt fields source rebuilt

-- a picture has one frame
abbrev pub CodedFramesAreOne : Type 0
CodedFramesAreOne = (fields : Fields) (source : Planes) (one two : List ℕ) → IsSource fields source
    → ((k : ℕ) → slice_index one k < 256) → ((k : ℕ) → slice_index two k < 256)
    → IsCodedFrame fields source one → IsCodedFrame fields source two → one ≡ two

-- the frame of a picture is no empty one, and fits in a unit
abbrev pub CodedFramesAreShort : Type 0
CodedFramesAreShort = (fields : Fields) (source : Planes) (bytes : List ℕ) → IsSource fields source
    → IsCodedFrame fields source bytes → (1 ≤ length bytes) × (length bytes ≤ 2 ^ 28)

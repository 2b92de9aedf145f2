-- Why a frame isn't decoded: the first rule that it breaks (RDD 36, order our own). docs/formats/frames.md, "Coded frames".
use Rattle.std.specs.Prelude.{◌≡◌, ◌≢◌, ◌<◌, ℕ, List}
use Rattle.picture_plane.specs.declared.slice_names.SliceName.{SliceName}
use Rattle.slice_codec.specs.Faults.{Refuses as RefusesSlice}
use Rattle.slice_codec.specs.declared.fault.SliceFault.{SliceFault}
use Rattle.frame_syntax.specs.Frames.{IsFrame, Refuses as RefusesFrame}
use Rattle.frame_syntax.specs.declared.frame.FrameParts.{FrameParts}
use Rattle.frame_syntax.specs.declared.frame_head.TheConstants.{LOADS_AT}
use Rattle.frame_codec.specs.Frames.{setup_of, number_of, slice_at, IsNamed, HasMeaning}
use Rattle.frame_codec.specs.declared.fault.DecodeFault.{DecodeFault}
use Rattle.frame_codec.specs.declared.fault.DecodeFault.TheVariants.{Memory, Frame, OneMatrix, Slice}

-- a frame loads one matrix alone
pub record LoadsOne (bytes : List ℕ) : Type 0 where
  pub parts : FrameParts
  pub frame : IsFrame bytes parts
  pub one : parts.head.load_luma ≢ parts.head.load_chroma

-- the slice of this number is the first that means no samples, and breaks this rule
pub record IsFirstRefused (bytes : List ℕ) (index : ℕ) (fault : SliceFault) : Type 0 where
  pub parts : FrameParts
  pub frame : IsFrame bytes parts
  pub matrices : parts.head.load_luma ≡ parts.head.load_chroma
  pub picture : ℕ
  pub n : ℕ
  pub name : SliceName
  pub named : IsNamed parts picture n name
  pub numbered : index ≡ number_of parts picture n
  pub refused : RefusesSlice (setup_of parts.head) name.count (slice_at bytes parts index) fault
  pub before : (p m : ℕ) (other : SliceName) → IsNamed parts p m other → number_of parts p m < index → HasMeaning bytes parts p m other

-- the fault names the first rule that is broken, in the order of these cases; want of memory may come at any bytes
abbrev pub Refuses : List ℕ → DecodeFault → Type 0
Refuses bytes Memory = Unit {0}
Refuses bytes (Frame fault) = RefusesFrame bytes fault
Refuses bytes (OneMatrix at) = (at ≡ LOADS_AT) × LoadsOne bytes
Refuses bytes (Slice index fault) = IsFirstRefused bytes index fault

-- What holds of all bytes that are read as slices: laws, proved as clauses of functions that do nothing (own).
use Rattle.std.specs.Prelude.{◌≡◌, ◌<◌, ◌≤◌, ℕ, List, length}
use Rattle.rec_bytes.specs.Configuration.{Fields}
use Rattle.slice_levels.specs.Coefficients.{AreSamples}
use Rattle.picture_plane.specs.declared.planes.Plane.{Plane}
use Rattle.picture_plane.specs.Blocks.{blocks_in, blocks_of, sample_of}
use Rattle.slice_codec.specs.Setups.{Setup, IsSetup}
use Rattle.slice_codec.specs.Slices.{MeansSlice}
use Rattle.slice_codec.specs.Coded.{IsCodedSlice, IsRebuiltSlice}
use Rattle.slice_codec.specs.Faults.{Refuses}
use Rattle.slice_codec.specs.declared.fault.SliceFault.{SliceFault}

-- bytes that mean two lists of samples mean the same sample at each place
abbrev pub SlicesMeanOne : Type 0
SlicesMeanOne = (setup : Setup) (count : ℕ) (bytes : List ℕ) (one two : List (List ℕ))
    → MeansSlice setup count bytes one → MeansSlice setup count bytes two
    → (plane : Plane) (block place : ℕ) → block < blocks_of plane count → place < 64
    → sample_of one plane block place ≡ sample_of two plane block place

-- bytes that a fault refuses mean no samples
abbrev pub RefusedMeansNothing : Type 0
RefusedMeansNothing = (setup : Setup) (count : ℕ) (bytes : List ℕ) (fault : SliceFault) (samples : List (List ℕ))
    → Refuses setup count bytes fault → MeansSlice setup count bytes samples → ⊥

-- as many blocks as are due, of samples of ten bits
pub record AreSliceSamples (count : ℕ) (samples : List (List ℕ)) : Type 0 where
  pub counted : (plane : Plane) → length (blocks_in samples plane count) ≡ blocks_of plane count
  pub small : (plane : Plane) → AreSamples (blocks_in samples plane count)

-- the slice of samples by a configuration means the samples that it gives back
abbrev pub CodedSlicesMean : Type 0
CodedSlicesMean = (fields : Fields) (setup : Setup) (count : ℕ) (source samples : List (List ℕ)) (bytes : List ℕ)
    → IsSetup fields setup → 1 ≤ fields.qmin → fields.qmax ≤ 224 → AreSliceSamples count source
    → IsCodedSlice fields count source bytes → IsRebuiltSlice fields count source samples
    → MeansSlice setup count bytes samples

-- bytes that are no slice are refused by one fault
abbrev pub RefusalsAreOne : Type 0
RefusalsAreOne = (setup : Setup) (count : ℕ) (bytes : List ℕ) (a b : SliceFault)
    → Refuses setup count bytes a → Refuses setup count bytes b → a ≡ b

-- The slice that stands for samples, and the samples that it gives back (own). docs/formats/frames.md, "Slices".
use Rattle.std.specs.Prelude.{◌≡◌, ◌<◌, ◌≤◌, ◌*◌, ◌⊎◌, ℕ, ℤ, List, length}
use Rattle.rec_bytes.specs.Configuration.{Fields}
use Rattle.prores_scan.specs.WeightsAndScales.{scale_of}
use Rattle.slice_parts.specs.Component.{IsSpelled}
use Rattle.slice_levels.specs.Coefficients.{AreLevelsOf}
use Rattle.slice_levels.specs.Rebuilt.{AreRebuilt}
use Rattle.picture_plane.specs.declared.planes.Plane.{Plane}
use Rattle.picture_plane.specs.declared.planes.Plane.TheVariants.{Y, Cb, Cr}
use Rattle.picture_plane.specs.Blocks.{blocks_in}
use Rattle.slice_codec.specs.Setups.{Setup, IsSetup, weights_of}
use Rattle.slice_codec.specs.Slices.{IsSliceOf}

-- the bits spell the levels of blocks at an index
pub record IsSpelledPart (setup : Setup) (index : ℕ) (plane : Plane) (blocks : List (List ℕ)) (bits : List ℕ) : Type 0 where
  pub levels : List ℤ
  pub quantised : AreLevelsOf setup.scan (weights_of setup plane) (scale_of index) blocks levels
  pub spelled : IsSpelled (length blocks) levels bits

-- the bytes are the slice of samples at an index
pub record IsSliceAt (setup : Setup) (count : ℕ) (samples : List (List ℕ)) (index : ℕ) (bytes : List ℕ) : Type 0 where
  pub y : List ℕ
  pub cb : List ℕ
  pub cr : List ℕ
  pub y_spelled : IsSpelledPart setup index Y (blocks_in samples Y count) y
  pub cb_spelled : IsSpelledPart setup index Cb (blocks_in samples Cb count) cb
  pub cr_spelled : IsSpelledPart setup index Cr (blocks_in samples Cr count) cr
  pub joined : IsSliceOf index y cb cr bytes

-- the whole slice at an index, header included, has at most so many bytes
abbrev pub Fits : Setup → ℕ → List (List ℕ) → ℕ → ℕ → Type 0
Fits setup count samples room index = (bytes : List ℕ) × IsSliceAt setup count samples index bytes × (length bytes ≤ room)

-- the least index from first to last that fits, or last where none does
pub record IsChosen (fits : ℕ → Type 0) (first last index : ℕ) : Type 0 where
  pub from : first ≤ index
  pub to : index ≤ last
  pub found : fits index ⊎ (index ≡ last)
  pub least : (i : ℕ) → first ≤ i → i < index → ¬ fits i

-- the index by the rate rule: the budget is for each macroblock
abbrev pub IsChosenIndex : Fields → Setup → ℕ → List (List ℕ) → ℕ → Type 0
IsChosenIndex fields setup count samples index =
    IsChosen (Fits setup count samples (fields.budget * count)) fields.qmin fields.qmax index

-- the bytes are the slice of samples by a configuration
pub record IsCodedSlice (fields : Fields) (count : ℕ) (samples : List (List ℕ)) (bytes : List ℕ) : Type 0 where
  pub setup : Setup
  pub of_configuration : IsSetup fields setup
  pub index : ℕ
  pub chosen : IsChosenIndex fields setup count samples index
  pub coded : IsSliceAt setup count samples index bytes

-- the blocks of a plane are given back from their levels at an index
pub record IsRebuiltPart (setup : Setup) (index : ℕ) (plane : Plane) (blocks rebuilt : List (List ℕ)) : Type 0 where
  pub same : length rebuilt ≡ length blocks
  pub levels : List ℤ
  pub quantised : AreLevelsOf setup.scan (weights_of setup plane) (scale_of index) blocks levels
  pub inverse : AreRebuilt setup.scan (weights_of setup plane) (scale_of index) levels rebuilt

-- the samples that the slice of samples gives back: no bits but those by which the index is chosen
pub record IsRebuiltSlice (fields : Fields) (count : ℕ) (samples rebuilt : List (List ℕ)) : Type 0 where
  pub setup : Setup
  pub of_configuration : IsSetup fields setup
  pub index : ℕ
  pub chosen : IsChosenIndex fields setup count samples index
  pub parts : (plane : Plane) → IsRebuiltPart setup index plane (blocks_in samples plane count) (blocks_in rebuilt plane count)

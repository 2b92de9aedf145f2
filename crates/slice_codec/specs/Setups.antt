-- What a frame says of all its slices. docs/formats/frames.md, "Slices".
use Rattle.std.specs.Prelude.{◌≡◌, ℕ, ◌==◌, if◌then◌else◌, List, length, false, true}
use Rattle.rec_bytes.specs.Configuration.{Fields}
use Rattle.prores_scan.specs.declared.scans.Scan.{Scan}
use Rattle.prores_scan.specs.declared.scans.Scan.TheVariants.{Progressive, Field}
use Rattle.prores_scan.specs.WeightsAndScales.{AreWeights}
use Rattle.picture_plane.specs.declared.planes.Plane.{Plane}
use Rattle.picture_plane.specs.declared.planes.Plane.TheVariants.{Y, Cb, Cr}

-- the scan, and the weights of luma and of chroma in raster order
pub record Setup : Type 0 where
  pub scan : Scan
  pub luma : List ℕ
  pub chroma : List ℕ

-- the scan of a frame: fields have one of their own (RDD 36)
abbrev pub scan_of : ℕ → Scan
scan_of interlace = if interlace == 0 then Progressive else Field

-- the weights of a plane
abbrev pub weights_of : Setup → Plane → List ℕ
weights_of setup Y = setup.luma
weights_of setup Cb = setup.chroma
weights_of setup Cr = setup.chroma

-- what a configuration says of the slices of its frames
pub record IsSetup (fields : Fields) (setup : Setup) : Type 0 where
  pub scan : setup.scan ≡ scan_of fields.interlace
  pub luma_long : length setup.luma ≡ 64
  pub luma : AreWeights fields.weights false setup.luma
  pub chroma_long : length setup.chroma ≡ 64
  pub chroma : AreWeights fields.weights true setup.chroma

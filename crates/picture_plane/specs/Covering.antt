-- Each sample of a frame stands in one slice (RDD 36). docs/formats/frames.md, "Slices".
use Rattle.std.specs.Prelude.{◌≡◌, ◌<◌, ◌≤◌, ℕ, ◌+◌, List, [], get_or, slice_index}
use Rattle.picture_plane.specs.declared.planes.Plane.{Plane}
use Rattle.picture_plane.specs.declared.slice_names.SliceName.{SliceName}
use Rattle.picture_plane.specs.Blocks.{IsInside, IsPlaced, Shows, StandsAt}
use Rattle.picture_plane.specs.Pictures.{columns, IsPicture, Planes}
use Rattle.picture_plane.specs.Sizes.{IsSize}
use Rattle.picture_plane.specs.Slices.{Size, picture_count, FitsSize, IsSlice}

-- the slice has the macroblock of this row and column of its coded picture
pub record HasMacroblock (name : SliceName) (of column : ℕ) : Type 0 where
  pub row : name.row ≡ of
  pub from : name.first ≤ column
  pub to : column < name.first + name.count

-- two slices of a frame have no macroblock in common
abbrev pub AreApart : SliceName → SliceName → Type 0
AreApart a b = (row column : ℕ) → a.field ≡ b.field → HasMacroblock a row column → HasMacroblock b row column → ⊥

-- a slice, a block and a place of a frame whose coded pictures are cut by these log2
pub record Spot : Type 0 where
  pub picture : ℕ
  pub n : ℕ
  pub name : SliceName
  pub block : ℕ
  pub place : ℕ

-- the sample of a plane at a row and a column stands there
pub record IsSpot (size : Size) (log2 : ℕ → ℕ) (plane : Plane) (row column : ℕ) (spot : Spot) : Type 0 where
  pub picture : spot.picture < picture_count size
  pub named : IsSlice size (log2 spot.picture) spot.picture spot.n spot.name
  pub inside : IsInside size spot.name plane spot.block spot.place
  pub stands : StandsAt spot.name plane spot.block spot.place row column

-- the pictures show the same samples in each slice
abbrev pub ShowAlike : (ℕ → ℕ) → Planes → Planes → Type 0
ShowAlike log2 a b = (picture n : ℕ) (name : SliceName) → picture < picture_count a.size → IsSlice a.size (log2 picture) picture n name
    → (samples : List (List ℕ)) × Shows a name samples × Shows b name samples

-- each sample of a frame stands in a slice, and in one alone, at one place
abbrev pub SamplesAreCovered : Type 0
SamplesAreCovered = (size : Size) (log2 : ℕ → ℕ) (plane : Plane) (row column : ℕ) → IsSize size → row < size.height → column < columns size plane
    → (spot : Spot) × IsSpot size log2 plane row column spot

abbrev pub SpotsAreOne : Type 0
SpotsAreOne = (size : Size) (log2 : ℕ → ℕ) (plane : Plane) (row column : ℕ) (a b : Spot)
    → IsSpot size log2 plane row column a → IsSpot size log2 plane row column b → a ≡ b

-- a slice that is put into a picture leaves what the picture shows of any slice apart from it
abbrev pub OthersStay : Type 0
OthersStay = (old new : Planes) (a b : SliceName) (samples shown : List (List ℕ)) → FitsSize old.size a → FitsSize old.size b → AreApart a b
    → IsPlaced old new a samples → Shows old b shown → Shows new b shown

-- two slices of a frame are apart where they are not the same one of the same coded picture
abbrev pub SlicesAreApart : Type 0
SlicesAreApart = (size : Size) (log2 : ℕ → ℕ) (p q m n : ℕ) (a b : SliceName) → p < picture_count size → q < picture_count size
    → IsSlice size (log2 p) p m a → IsSlice size (log2 q) q n b → ((p ≡ q) × (m ≡ n) → ⊥) → AreApart a b

-- pictures of one size that show the same samples in each slice are one
abbrev pub PicturesAreOne : Type 0
PicturesAreOne = (log2 : ℕ → ℕ) (a b : Planes) → a.size ≡ b.size → IsPicture a → IsPicture b → ShowAlike log2 a b → a ≡ b

-- a picture of this size that shows these samples in each slice
pub record IsShownOf (of : Size) (log2 : ℕ → ℕ) (samples : ℕ → ℕ → List (List ℕ)) : Type 0 where
  pub planes : Planes
  pub is_size : planes.size ≡ of
  pub is_picture : IsPicture planes
  pub shown : (picture n : ℕ) (name : SliceName) → picture < picture_count of → IsSlice of (log2 picture) picture n name → Shows planes name (samples picture n)

-- each slice has samples of some kind
abbrev pub SlicesHave : Size → (ℕ → ℕ) → (ℕ → ℕ → SliceName → List (List ℕ) → Type 0) → Type 0
SlicesHave size log2 R = (picture n : ℕ) (name : SliceName) → picture < picture_count size → IsSlice size (log2 picture) picture n name
    → (samples : List (List ℕ)) × R picture n name samples × ((b k : ℕ) → slice_index (get_or samples b []) k < 1024)

-- a picture of this size that shows samples of some kind in each slice
pub record ShownSlices (of : Size) (log2 : ℕ → ℕ) (R : ℕ → ℕ → SliceName → List (List ℕ) → Type 0) : Type 0 where
  pub planes : Planes
  pub is_size : planes.size ≡ of
  pub is_picture : IsPicture planes
  pub shown : (picture n : ℕ) (name : SliceName) → picture < picture_count of → IsSlice of (log2 picture) picture n name
      → (samples : List (List ℕ)) × R picture n name samples × Shows planes name samples

-- whatever samples the slices have, a picture shows them
abbrev pub AnySamplesAreShown : Type 0
AnySamplesAreShown = (size : Size) (log2 : ℕ → ℕ) (samples : ℕ → ℕ → List (List ℕ)) → IsSize size
    → ((picture n : ℕ) (name : SliceName) → picture < picture_count size → IsSlice size (log2 picture) picture n name
    → (b k : ℕ) → slice_index (get_or (samples picture n) b []) k < 1024)
    → IsShownOf size log2 samples

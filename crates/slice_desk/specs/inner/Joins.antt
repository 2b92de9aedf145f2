-- The slices of a frame, joined in the order of the file. Private functions alone cite these.
use Rattle.std.specs.Prelude.{◌≡◌, ◌<◌, ◌≤◌, ℕ, ◌+◌, ◌*◌, List, [], ◌++◌, length, take, get_or, Option, Some, None}
use Rattle.rec_bytes.specs.Configuration.{Fields}
use Rattle.picture_plane.specs.Sizes.{size_of}
use Rattle.frame_syntax.specs.Written.{joined, lengths, picture_bytes, pictures_bytes}
use Rattle.slice_desk.specs.Desks.{place_of}
use Rattle.slice_desk.specs.Slices.{slices_of, slices_in_picture, IsCodedFor}

-- the slices of the frame from an index on lie at their places
abbrev pub AreThereFrom : List (Option (ℕ × ℕ)) → ℕ → ℕ → ℕ → Type 0
AreThereFrom kept frame from slices = (index : ℕ) → from ≤ index → index < slices → get_or kept (place_of frame index) None ≡ Some (frame, index)

-- all of them, among the places of four frames
pub record AreThere (kept : List (Option (ℕ × ℕ))) (frame slices : ℕ) : Type 0 where
  pub long : length kept ≡ 4 * slices
  pub there : AreThereFrom kept frame 0 slices

-- so many slices of the frame's picture from an index on, coded
pub record AreCodedFrom (told : Option (List ℕ)) (config : Fields) (frame from count : ℕ) (slices : List (List ℕ)) : Type 0 where
  pub counted : length slices ≡ count
  pub each : (n : ℕ) → n < count → IsCodedFor told config frame (from + n) (get_or slices n [])

-- they stand from a place to another, and these are their sizes
pub record AreSlicesPut (told : Option (List ℕ)) (config : Fields) (frame from count start end : ℕ) (sizes old new : List ℕ) : Type 0 where
  pub slices : List (List ℕ)
  pub coded : AreCodedFrom told config frame from count slices
  pub listed : take count sizes ≡ lengths slices
  pub put : take end new ≡ take start old ++ joined slices

-- the coded picture of this number stands from a place to another
pub record IsPicturePut (told : Option (List ℕ)) (config : Fields) (frame number start end : ℕ) (old new : List ℕ) : Type 0 where
  pub slices : List (List ℕ)
  pub coded : AreCodedFrom told config frame (number * slices_in_picture config) (slices_in_picture config) slices
  pub put : take end new ≡ take start old ++ picture_bytes config.log2 slices

-- the coded pictures of the frame stand from a place to another
pub record ArePicturesPut (told : Option (List ℕ)) (config : Fields) (frame start end : ℕ) (old new : List ℕ) : Type 0 where
  pub slices : List (List ℕ)
  pub coded : AreCodedFrom told config frame 0 (slices_of config) slices
  pub put : take end new ≡ take start old ++ pictures_bytes (size_of config) config.log2 slices

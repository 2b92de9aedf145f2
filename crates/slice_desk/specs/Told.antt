-- The pictures of a feed by their numbers (own).
use Rattle.std.specs.Prelude.{◌≡◌, ◌<◌, ℕ, List, length, get_or, Option, Some, None}
use Rattle.rec_bytes.specs.Configuration.{Fields}
use Rattle.picture_plane.specs.Pictures.{Planes, zeros}
use Rattle.picture_plane.specs.Sizes.{size_of}
use Rattle.raw_feed.specs.Items.{Ending}
use Rattle.raw_feed.specs.Pictures.{IsPictureFeed}

-- the bytes are a feed of pictures of the configuration, of which this is the one of the number, counted from 0
pub record IsPictureOf (bytes : List ℕ) (config : Fields) (number : ℕ) (picture : Planes) : Type 0 where
  pub pictures : List Planes
  pub ending : Ending
  pub feed : IsPictureFeed bytes config pictures ending
  pub within : number < length pictures
  pub is : get_or pictures number (zeros (size_of config)) ≡ picture

-- the feed tells its bytes, and the picture is the one of the number
abbrev pub IsTold : Option (List ℕ) → Fields → ℕ → Planes → Type 0
IsTold None config number picture = ⊥
IsTold (Some bytes) config number picture = IsPictureOf bytes config number picture

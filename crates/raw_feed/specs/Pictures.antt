-- The pictures of a feed: their samples, and the bytes that spell them (own). docs/formats/feed.md, "Feeds".
use Rattle.std.specs.Prelude.{◌≡◌, List, ℕ, Option, All, map}
use Rattle.std.specs.List.{flat_map}
use Rattle.byteorder.specs.Endian.{big_bytes}
use Rattle.rec_bytes.specs.Configuration.{Fields}
use Rattle.picture_plane.specs.Pictures.{Planes, IsPicture}
use Rattle.picture_plane.specs.Sizes.{size_of}
use Rattle.raw_feed.specs.declared.kind.TheConstants.{SAMPLE_LEN}
use Rattle.raw_feed.specs.declared.kind.Kind.TheVariants.{Pictures}
use Rattle.raw_feed.specs.declared.stage.Stage.{Stage}
use Rattle.raw_feed.specs.Told.{Told}
use Rattle.raw_feed.specs.Items.{Ending}
use Rattle.raw_feed.specs.Feeds.{IsFeedOf}
use Rattle.raw_feed.specs.Reading.{Reading, GivesUnit}

-- the bytes of samples, each in two bytes, the highest first
abbrev pub spelled : List ℕ → List ℕ
spelled samples = flat_map (big_bytes SAMPLE_LEN) samples

-- the bytes of a picture's samples: Y, then Cb, then Cr, each row by row
abbrev pub picture_bytes : Planes → List ℕ
picture_bytes picture = spelled picture.samples

-- a picture of the size that a configuration gives
pub record IsPictureFor (config : Fields) (picture : Planes) : Type 0 where
  pub size : picture.size ≡ size_of config
  pub whole : IsPicture picture

-- a picture more was read
abbrev pub GivesPicture : Stage → Reading → Reading → Option Told → Option Told → Planes → Type 0
GivesPicture stage old new told now picture = IsPictureFor old.config picture × GivesUnit stage old new told now (picture_bytes picture)

-- the feed has this configuration and these pictures, at most max_frames of them, and then ends so
pub record IsPictureFeed (bytes : List ℕ) (config : Fields) (pictures : List Planes) (ending : Ending) : Type 0 where
  pub sized : All (IsPictureFor config) pictures
  pub feed : IsFeedOf Pictures bytes config (map picture_bytes pictures) ending

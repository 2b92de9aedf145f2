-- How soon a run writes and how far it reads (own). docs/ARCHITECTURE.md, "The run".
use Rattle.std.specs.Prelude.{◌≡◌, ◌≢◌, ℕ, List, [], ◌∷◌, ◌++◌, length}
use Rattle.std.specs.List.{AllZip}
use Rattle.rec_bytes.specs.Configuration.{Fields}
use Rattle.picture_plane.specs.Pictures.{Planes}
use Rattle.raw_feed.specs.declared.head.TheConstants.{FEED_HEAD_LEN}
use Rattle.raw_feed.specs.declared.kind.Kind.{Kind}
use Rattle.raw_feed.specs.Items.{Ending, Clean}
use Rattle.raw_feed.specs.Breaks.{Reaches}
use Rattle.raw_feed.specs.Feeds.{IsFeedOf, EndsInHead}
use Rattle.raw_feed.specs.HasRead.{behind_units}
use Rattle.raw_feed.specs.Pictures.{IsPictureFor, picture_bytes}
use Rattle.frame_codec.specs.Coded.{IsCodedFrame}
use Rattle.run_parts.specs.Units.{IsRead}

-- a unit of a feed stands in the file of `wrap` as it is, where it is read
abbrev pub IsPassedOn : Fields → List ℕ → List ℕ → Type 0
IsPassedOn config unit frame = (frame ≡ unit) × IsRead config unit

-- the bytes of a picture's samples stand in the file of `encode` as the picture's frame
pub record IsEncoded (config : Fields) (bytes frame : List ℕ) : Type 0 where
  pub picture : Planes
  pub sized : IsPictureFor config picture
  pub spelled : bytes ≡ picture_bytes picture
  pub coded : IsCodedFrame config picture frame

-- what was written begins with the growing file of the frames that these units become
pub record BeginsFile (Becomes : Fields → List ℕ → List ℕ → Type 0) (growing : Fields → List (List ℕ) → List ℕ)
    (config : Fields) (units : List (List ℕ)) (written : List ℕ) : Type 0 where
  pub frames : List (List ℕ)
  pub become : AllZip (Becomes config) units frames
  pub rest : List ℕ
  pub file : written ≡ growing config frames ++ rest

-- The pace of a command, by the kind of its feed, by what becomes of a unit of it and by the growing files of its layout: no
-- byte is read behind the last one that judges how those read end, but for pictures behind a wrong sample (`Reaches`), once
-- a unit was read all units before it have been written, and once a byte behind it was read it has been, too.
pub record KeepsPace (kind : Kind) (Becomes : Fields → List ℕ → List ℕ → Type 0) (growing : Fields → List (List ℕ) → List ℕ)
    (given written : List ℕ) : Type 0 where
  pub head_judged : (ending : Ending) → EndsInHead kind given ending → Reaches kind (length given) FEED_HEAD_LEN ending
  pub judged : (config : Fields) (units : List (List ℕ)) (ending : Ending) → IsFeedOf kind given config units ending
      → Reaches kind (length given) (behind_units kind units) ending
  pub prompt : (config : Fields) (units : List (List ℕ)) (unit : List ℕ) (ending : Ending)
      → IsFeedOf kind given config (units ++ unit ∷ []) ending → BeginsFile Becomes growing config units written
  pub ahead : (config : Fields) (units : List (List ℕ)) (ending : Ending)
      → IsFeedOf kind given config units ending → ending ≢ Clean → BeginsFile Becomes growing config units written

-- What a reader has read of a feed, and how the feed ends for it (own). docs/formats/feed.md, "Feeds".
use Rattle.std.specs.Prelude.{◌≡◌, ◌≤◌, ◌+◌, ◌++◌, ℕ, List, length, All, Option}
use Rattle.std.specs.List.{flat_map}
use Rattle.rec_bytes.specs.Configuration.{Fields}
use Rattle.raw_feed.specs.declared.head.TheConstants.{FEED_HEAD_LEN}
use Rattle.raw_feed.specs.declared.limits.TheConstants.{MAX_FEED}
use Rattle.raw_feed.specs.declared.kind.Kind.{Kind}
use Rattle.raw_feed.specs.declared.stage.Stage.{Stage}
use Rattle.raw_feed.specs.declared.stage.Stage.TheVariants.{Open, Marked}
use Rattle.raw_feed.specs.Told.{Told}
use Rattle.raw_feed.specs.Items.{Ending, item, IsSized}
use Rattle.raw_feed.specs.Feeds.{IsHead, IsFeedOf}
use Rattle.raw_feed.specs.Breaks.{Gave, EndsBy}
use Rattle.raw_feed.specs.Reading.{Reading, begun}

-- a reader may read the next item
abbrev pub MayReadOn : Stage → Type 0
MayReadOn Open = Unit {0}
MayReadOn Marked = Unit {0}
MayReadOn stage = ⊥

-- A source gave its reader a head, the items of these units, and the next marker where that was read. The reader stands
-- behind the items, and may read on.
pub record HasRead (reading : Reading) (units : List (List ℕ)) (before : Told) (now : Option Told) : Type 0 where
  pub head : List ℕ
  pub configured : IsHead reading.kind head reading.config
  pub gave : Gave ((head ++ flat_map (item reading.kind) units) ++ begun reading.kind reading.stage) before now
  pub counted : reading.count ≡ length units
  pub placed : reading.at ≡ length (head ++ flat_map (item reading.kind) units)
  pub sized : All (IsSized reading.kind reading.config) units
  pub few : length units ≤ reading.config.max_frames
  pub within : reading.at + length (begun reading.kind reading.stage) ≤ MAX_FEED
  pub may : MayReadOn reading.stage

-- the place behind a head and these units
abbrev pub behind_units : Kind → List (List ℕ) → ℕ
behind_units kind units = FEED_HEAD_LEN + length (flat_map (item kind) units)

-- the feed has these units, and ends so for its reader
abbrev pub EndsFeed : Kind → Fields → List (List ℕ) → Ending → Told → Option Told → Type 0
EndsFeed kind config units answer before now =
    EndsBy kind (λ bytes ending. IsFeedOf kind bytes config units ending) 0 (behind_units kind units) answer before now

-- A feed as a whole (own). docs/formats/feed.md, "Feeds".
use Rattle.std.specs.Prelude.{◌≡◌, ◌≢◌, ◌≤◌, ◌<◌, ◌+◌, ◌==◌, ℕ, List, [], ◌++◌, length, take, drop, All, Some}
use Rattle.std.specs.Prelude.{◌⊎◌, slice_index}
use Rattle.std.specs.List.{flat_map}
use Rattle.rec_bytes.specs.Configuration.{Fields, Spells, first_fault}
use Rattle.raw_feed.specs.declared.kind.TheConstants.{UNITS_MAGIC, PICTURES_MAGIC, MAGIC_LEN}
use Rattle.raw_feed.specs.declared.head.TheConstants.{FEED_HEAD_LEN}
use Rattle.raw_feed.specs.declared.limits.TheConstants.{MAX_FEED}
use Rattle.raw_feed.specs.declared.kind.Kind.{Kind}
use Rattle.raw_feed.specs.declared.kind.Kind.TheVariants.{Units, Pictures}
use Rattle.raw_feed.specs.declared.fault.FeedFault.TheVariants.{FeedHead, FeedCut}
use Rattle.raw_feed.specs.Items.{Ending, Broken, EndsAt, IsSized, item}

-- the first bytes of a feed
abbrev pub magic : Kind → List ℕ
magic Units = UNITS_MAGIC
magic Pictures = PICTURES_MAGIC

-- the bytes are the magic and a configuration
pub record IsHead (kind : Kind) (head : List ℕ) (config : Fields) : Type 0 where
  pub spelling : List ℕ
  pub split : head ≡ magic kind ++ spelling
  pub spelled : Spells spelling config

-- the feed has this configuration and these units (of a feed of pictures: the bytes of their samples), at most max_frames of them, and then ends so
pub record IsFeedOf (kind : Kind) (bytes : List ℕ) (config : Fields) (units : List (List ℕ)) (ending : Ending) : Type 0 where
  pub head : List ℕ
  pub rest : List ℕ
  pub configured : IsHead kind head config
  pub split : bytes ≡ (head ++ flat_map (item kind) units) ++ rest
  pub sized : All (IsSized kind config) units
  pub few : length units ≤ config.max_frames
  pub within : length (head ++ flat_map (item kind) units) ≤ MAX_FEED
  pub ends : EndsAt kind config (length units == config.max_frames) (length (head ++ flat_map (item kind) units)) rest ending

-- a byte of the head's magic differs, and none before it
pub record DiffersAt (kind : Kind) (head : List ℕ) (at : ℕ) : Type 0 where
  pub inside : at < MAGIC_LEN
  pub same : take at head ≡ take at (magic kind)
  pub other : slice_index head at ≢ slice_index (magic kind) at

-- the head's magic is right, and the configuration behind it is broken at a byte
pub record BreaksConfigAt (kind : Kind) (head : List ℕ) (at : ℕ) : Type 0 where
  pub field : ℕ
  pub magic_is : take MAGIC_LEN head ≡ magic kind
  pub broken : first_fault (drop MAGIC_LEN head) ≡ Some field
  pub place : at ≡ MAGIC_LEN + field

-- the feed ends so in its head, whose bytes are judged when they are all there
abbrev pub EndsInHead : Kind → List ℕ → Ending → Type 0
EndsInHead kind bytes (Broken (FeedCut place)) = (place ≡ length bytes) × (length bytes < FEED_HEAD_LEN)
EndsInHead kind bytes (Broken (FeedHead place)) =
    (FEED_HEAD_LEN ≤ length bytes)
    × (DiffersAt kind (take FEED_HEAD_LEN bytes) place ⊎ BreaksConfigAt kind (take FEED_HEAD_LEN bytes) place)
EndsInHead kind bytes ending = ⊥

-- the feed has these units before its end or its first break, and ends so
abbrev pub IsFeed : Kind → List ℕ → List (List ℕ) → Ending → Type 0
IsFeed kind bytes units ending =
    ((config : Fields) × IsFeedOf kind bytes config units ending) ⊎ ((units ≡ []) × EndsInHead kind bytes ending)

-- The items of a feed, by what they are, and how it ends behind them (own). docs/formats/feed.md, "Feeds".
use Rattle.std.specs.Prelude.{◌≡◌, ◌≤◌, ◌<◌, ◌+◌, ◌-◌, ◌*◌, ℕ, List, [], ◌++◌, Bool, true, false}
use Rattle.std.specs.Prelude.{length, take, drop, ◌⊎◌}
use Rattle.byteorder.specs.Endian.{big_number, big_bytes}
use Rattle.rec_bytes.specs.Configuration.{Fields}
use Rattle.picture_plane.specs.Pictures.{sample_count}
use Rattle.picture_plane.specs.Sizes.{size_of}
use Rattle.raw_feed.specs.declared.kind.TheConstants.{UNIT_MARKER, PICTURE_MARKER, MARKER_LEN, UNIT_HEAD_LEN, SAMPLE_LEN}
use Rattle.raw_feed.specs.declared.limits.TheConstants.{MAX_UNIT, MAX_SAMPLE, MAX_FEED}
use Rattle.raw_feed.specs.declared.kind.Kind.{Kind}
use Rattle.raw_feed.specs.declared.kind.Kind.TheVariants.{Units, Pictures}
use Rattle.raw_feed.specs.declared.fault.FeedFault.{FeedFault}
use Rattle.raw_feed.specs.declared.fault.FeedFault.TheVariants.{Memory, FeedHead, Marker, FeedCut}
use Rattle.raw_feed.specs.declared.fault.FeedFault.TheVariants.{SourceFault, TooLong, Sample, UnitLong}

-- how a feed ends: after a whole item, with another marker behind max_frames items, or by a break
pub data Ending : Type 0 where
  Clean : Ending
  Full : Ending
  Broken : FeedFault → Ending

-- the first bytes of an item
abbrev pub marker : Kind → List ℕ
marker Units = UNIT_MARKER
marker Pictures = PICTURE_MARKER

-- what stands behind an item's marker: a unit's length in four bytes, then the unit; the bytes of a picture's samples
abbrev pub body : Kind → List ℕ → List ℕ
body Units unit = big_bytes 4 (length unit) ++ unit
body Pictures bytes = bytes

-- an item
abbrev pub item : Kind → List ℕ → List ℕ
item kind unit = marker kind ++ body kind unit

-- samples of a picture
unfoldable pub picture_samples : Fields → ℕ
picture_samples config = sample_count (size_of config)

-- bytes of a picture's samples
abbrev pub picture_len : Fields → ℕ
picture_len config = SAMPLE_LEN * picture_samples config

-- the k-th sample that stands in bytes
abbrev pub sample_in : List ℕ → ℕ → ℕ
sample_in bytes k = big_number SAMPLE_LEN (drop (SAMPLE_LEN * k) bytes)

-- no sample whose bytes are there is too great
abbrev pub AreSamples : List ℕ → Type 0
AreSamples bytes = (k : ℕ) → SAMPLE_LEN * k + SAMPLE_LEN ≤ length bytes → sample_in bytes k ≤ MAX_SAMPLE

-- what the bytes of a unit, or of a picture's samples, may be
abbrev pub IsSized : Kind → Fields → List ℕ → Type 0
IsSized Units config unit = length unit ≤ MAX_UNIT
IsSized Pictures config bytes = (length bytes ≡ picture_len config) × AreSamples bytes

-- the bytes begin with a marker
abbrev pub IsMarked : Kind → List ℕ → Type 0
IsMarked kind rest = take MARKER_LEN rest ≡ marker kind

-- the length of a unit behind its marker
abbrev pub unit_len : List ℕ → ℕ
unit_len rest = big_number 4 (drop MARKER_LEN rest)

-- bytes that begin with a marker end inside the item, and break nothing
abbrev pub IsBegun : Kind → Fields → List ℕ → Type 0
IsBegun Units config rest = (length rest < UNIT_HEAD_LEN) ⊎ ((unit_len rest ≤ MAX_UNIT) × (length rest < UNIT_HEAD_LEN + unit_len rest))
IsBegun Pictures config rest = (length rest < MARKER_LEN + picture_len config) × AreSamples (drop MARKER_LEN rest)

-- bytes that begin with a marker spell too large a length behind it
abbrev pub IsLong : Kind → List ℕ → Type 0
IsLong Units rest = (UNIT_HEAD_LEN ≤ length rest) × (MAX_UNIT < unit_len rest)
IsLong Pictures rest = ⊥

-- of so many samples the k-th that stands in bytes is too great, and none before it
pub record IsWrongSample (count : ℕ) (bytes : List ℕ) (k : ℕ) : Type 0 where
  pub inside : k < count
  pub there : SAMPLE_LEN * k + SAMPLE_LEN ≤ length bytes
  pub above : MAX_SAMPLE < sample_in bytes k
  pub first : (j : ℕ) → j < k → sample_in bytes j ≤ MAX_SAMPLE

-- bytes that begin with a marker have their first wrong sample so many bytes behind it
abbrev pub HasWrongSample : Kind → Fields → List ℕ → ℕ → Type 0
HasWrongSample Units config rest behind = ⊥
HasWrongSample Pictures config rest behind = (k : ℕ) × (behind ≡ SAMPLE_LEN * k) × IsWrongSample (picture_samples config) (drop MARKER_LEN rest) k

-- the bytes end before or inside an item, and break nothing; full says that no item may follow
abbrev pub IsShort : Kind → Fields → Bool → List ℕ → Type 0
IsShort kind config full rest = (length rest < MARKER_LEN) ⊎ (IsMarked kind rest × (full ≡ false) × IsBegun kind config rest)

-- of the bytes from a place on, those up to a feed's limit
abbrev pub limited : ℕ → List ℕ → List ℕ
limited at rest = take (MAX_FEED - at) rest

-- how the feed ends at a place behind whole items, with these bytes from there on
abbrev pub EndsAt : Kind → Fields → Bool → ℕ → List ℕ → Ending → Type 0
EndsAt kind config full at rest Clean = rest ≡ []
EndsAt kind config full at rest Full = (full ≡ true) × IsMarked kind (limited at rest)
EndsAt kind config full at rest (Broken (Marker place)) =
    (place ≡ at) × (MARKER_LEN ≤ length (limited at rest)) × (IsMarked kind (limited at rest) → ⊥)
EndsAt kind config full at rest (Broken (UnitLong place)) =
    (place ≡ at + MARKER_LEN) × (full ≡ false) × IsMarked kind (limited at rest) × IsLong kind (limited at rest)
EndsAt kind config full at rest (Broken (Sample place)) =
    (at + MARKER_LEN ≤ place) × (full ≡ false) × IsMarked kind (limited at rest)
    × HasWrongSample kind config (limited at rest) (place - (at + MARKER_LEN))
EndsAt kind config full at rest (Broken (FeedCut place)) =
    (place ≡ at + length rest) × (place ≤ MAX_FEED) × (0 < length rest) × IsShort kind config full rest
EndsAt kind config full at rest (Broken (TooLong place)) =
    (place ≡ MAX_FEED) × (MAX_FEED < at + length rest) × IsShort kind config full (limited at rest)
EndsAt kind config full at rest (Broken (FeedHead place)) = ⊥
EndsAt kind config full at rest (Broken (SourceFault count)) = ⊥
EndsAt kind config full at rest (Broken Memory) = ⊥

-- Which refusals a call of a reader has, whatever its source tells (own). docs/formats/program.md, "Refusals".
use Rattle.std.specs.Prelude.{◌≡◌, ◌≤◌, ◌<◌, ◌+◌, ℕ}
use Rattle.raw_feed.specs.declared.kind.TheConstants.{MARKER_LEN, UNIT_HEAD_LEN, SAMPLE_LEN}
use Rattle.raw_feed.specs.declared.head.TheConstants.{FEED_HEAD_LEN}
use Rattle.raw_feed.specs.declared.limits.TheConstants.{MAX_FEED}
use Rattle.raw_feed.specs.declared.fault.FeedFault.{FeedFault}
use Rattle.raw_feed.specs.declared.fault.FeedFault.TheVariants.{Memory, FeedHead, Marker, FeedCut, SourceFault, TooLong, Sample, UnitLong}

-- of a head
abbrev pub IsHeadFault : FeedFault → Type 0
IsHeadFault (FeedHead place) = place < FEED_HEAD_LEN
IsHeadFault (FeedCut place) = place < FEED_HEAD_LEN
IsHeadFault (SourceFault count) = Unit {0}
IsHeadFault fault = ⊥

-- of the marker at a place, for which no memory is taken
abbrev pub IsMarkerFault : ℕ → FeedFault → Type 0
IsMarkerFault at (Marker place) = (place ≡ at) × (at + MARKER_LEN ≤ MAX_FEED)
IsMarkerFault at (FeedCut place) = (at < place) × (place < at + MARKER_LEN) × (place ≤ MAX_FEED)
IsMarkerFault at (SourceFault count) = Unit {0}
IsMarkerFault at (TooLong place) = (place ≡ MAX_FEED) × (MAX_FEED < at + MARKER_LEN)
IsMarkerFault at fault = ⊥

-- of the item at a place
abbrev pub IsItemFault : ℕ → FeedFault → Type 0
IsItemFault at Memory = Unit {0}
IsItemFault at (UnitLong place) = (place ≡ at + MARKER_LEN) × (at + UNIT_HEAD_LEN ≤ MAX_FEED)
IsItemFault at (Sample place) = (at + MARKER_LEN ≤ place) × (place + SAMPLE_LEN ≤ MAX_FEED)
IsItemFault at (FeedCut place) = (at < place) × (place ≤ MAX_FEED)
IsItemFault at (TooLong place) = place ≡ MAX_FEED
IsItemFault at fault = IsMarkerFault at fault

-- of a feed, whichever call has it
abbrev pub IsFeedFault : FeedFault → Type 0
IsFeedFault (FeedHead place) = place < FEED_HEAD_LEN
IsFeedFault (Marker place) = (FEED_HEAD_LEN ≤ place) × (place + MARKER_LEN ≤ MAX_FEED)
IsFeedFault (FeedCut place) = place ≤ MAX_FEED
IsFeedFault (TooLong place) = place ≡ MAX_FEED
IsFeedFault (Sample place) = (FEED_HEAD_LEN + MARKER_LEN ≤ place) × (place + SAMPLE_LEN ≤ MAX_FEED)
IsFeedFault (UnitLong place) = (FEED_HEAD_LEN + MARKER_LEN ≤ place) × (place < MAX_FEED)
IsFeedFault (SourceFault count) = Unit {0}
IsFeedFault Memory = Unit {0}

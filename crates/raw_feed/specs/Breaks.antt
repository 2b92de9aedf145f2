-- How a feed comes to its end for its reader, and by whose fault (own). docs/formats/feed.md, "Feeds".
use Rattle.std.specs.Prelude.{◌≡◌, ◌≤◌, ◌+◌, ℕ, List, ◌++◌, Bool, length, take, Option, Some, Result, Ok, Err}
use Rattle.raw_feed.specs.declared.kind.TheConstants.{MARKER_LEN, UNIT_HEAD_LEN, SAMPLE_LEN}
use Rattle.raw_feed.specs.declared.head.TheConstants.{FEED_HEAD_LEN}
use Rattle.raw_feed.specs.declared.kind.Kind.{Kind}
use Rattle.raw_feed.specs.declared.kind.Kind.TheVariants.{Units, Pictures}
use Rattle.rec_bytes.specs.Configuration.{Fields}
use Rattle.raw_feed.specs.declared.fault.FeedFault.{FeedFault}
use Rattle.raw_feed.specs.declared.fault.FeedFault.TheVariants.{Memory, FeedHead, Marker, FeedCut, SourceFault, TooLong, Sample, UnitLong}
use Rattle.rec_bytes.specs.Faults.{Rose}
use Rattle.raw_feed.specs.Told.{Told, after}
use Rattle.raw_feed.specs.Items.{Ending, Clean, Full, Broken, EndsAt}
use Rattle.raw_feed.specs.Feeds.{EndsInHead}

-- the count of a source's faults rises exactly where a fault of the source is answered
abbrev pub HasFeedCause : {T : Type 0} → ℕ → ℕ → Result T FeedFault → Type 0
HasFeedCause before now (Ok value) = now ≡ before
HasFeedCause before now (Err (SourceFault count)) = (count ≡ now) × Rose before now
HasFeedCause before now (Err other) = now ≡ before

-- a fault that the bytes of a feed show
abbrev pub IsBreak : FeedFault → Type 0
IsBreak Memory = ⊥
IsBreak (SourceFault count) = ⊥
IsBreak other = Unit {0}

-- an ending that the bytes of a feed show
abbrev pub IsShown : Ending → Type 0
IsShown Clean = Unit {0}
IsShown Full = Unit {0}
IsShown (Broken fault) = IsBreak fault

-- an ending of bytes behind which the feed may go on: before an item, or inside a part of it
abbrev pub MayGoOn : Ending → Type 0
MayGoOn Clean = Unit {0}
MayGoOn (Broken (FeedCut place)) = Unit {0}
MayGoOn ending = ⊥

-- the place behind the last byte that judges an ending, of a feed whose whole items end at the place `at`
abbrev pub judged_to : ℕ → Ending → ℕ
judged_to at Clean = at
judged_to at Full = at + MARKER_LEN
judged_to at (Broken (FeedHead place)) = FEED_HEAD_LEN
judged_to at (Broken (Marker place)) = at + MARKER_LEN
judged_to at (Broken (UnitLong place)) = at + UNIT_HEAD_LEN
judged_to at (Broken (Sample place)) = place + SAMPLE_LEN
judged_to at (Broken (FeedCut place)) = place
judged_to at (Broken (TooLong place)) = place + 1
judged_to at (Broken (SourceFault count)) = at
judged_to at (Broken Memory) = at

-- a source fails: the feed may go on, or in the samples that it gave last one is too great
abbrev pub MayFail : Kind → Ending → Type 0
MayFail Units ending = MayGoOn ending
MayFail Pictures (Broken (Sample place)) = Unit {0}
MayFail Pictures ending = MayGoOn ending

-- the answer for bytes that end so: this ending, or one that no bytes show, for which the feed may go on
abbrev pub Answers : Kind → Ending → Ending → Type 0
Answers kind (Broken Memory) ending = MayGoOn ending
Answers kind (Broken (SourceFault count)) ending = MayFail kind ending
Answers kind answer ending = ending ≡ answer

-- these bytes, the first that were left, were given
abbrev pub Gave : List ℕ → Told → Option Told → Type 0
Gave given before now = (take (length given) before.left ≡ given) × (now ≡ Some (after (length given) before))

-- how many bytes were read for an ending: those that judge it, and of pictures maybe more behind a wrong sample, since
-- samples are read in pieces
abbrev pub Reaches : Kind → ℕ → ℕ → Ending → Type 0
Reaches Units read at ending = read ≡ judged_to at ending
Reaches Pictures read at (Broken (Sample place)) = judged_to at (Broken (Sample place)) ≤ read
Reaches Pictures read at ending = read ≡ judged_to at ending

-- What a source gave from a place on was answered so, by a grammar that says how bytes end there. The bytes that it gave
-- end by themselves, and reach the last byte that judges their ending; where bytes show the answer, all that it had end so
-- too.
pub record EndsBy (kind : Kind) (Grammar : List ℕ → Ending → Type 0) (from at : ℕ) (answer : Ending) (before : Told) (now : Option Told) : Type 0 where
  pub given : List ℕ
  pub gave : Gave given before now
  pub ending : Ending
  pub read : Grammar given ending
  pub reach : Reaches kind (from + length given) at ending
  pub answered : Answers kind answer ending
  pub shown : IsShown answer → Grammar before.left answer

-- the item at a place, of which these bytes were read before, isn't whole
abbrev pub Breaks : Kind → Fields → Bool → ℕ → List ℕ → Told → Option Told → FeedFault → Type 0
Breaks kind config full at front before now fault =
    EndsBy kind (λ rest ending. EndsAt kind config full at (front ++ rest) ending) (at + length front) at (Broken fault) before now

-- the feed ends in its head
abbrev pub BreaksHead : Kind → Told → Option Told → FeedFault → Type 0
BreaksHead kind before now fault = EndsBy kind (EndsInHead kind) 0 FEED_HEAD_LEN (Broken fault) before now

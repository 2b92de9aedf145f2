-- Where a reader of a feed stands, and what its calls do (own).
use Rattle.std.specs.Prelude.{◌≡◌, ◌≤◌, ◌+◌, ◌++◌, ℕ, List, [], Bool, false, length, Option, Some, None, Result}
use Rattle.rec_bytes.specs.Configuration.{Fields}
use Rattle.raw_feed.specs.declared.kind.TheConstants.{MARKER_LEN}
use Rattle.raw_feed.specs.declared.head.TheConstants.{FEED_HEAD_LEN}
use Rattle.raw_feed.specs.declared.limits.TheConstants.{MAX_FEED}
use Rattle.raw_feed.specs.declared.kind.Kind.{Kind}
use Rattle.raw_feed.specs.declared.fault.FeedFault.{FeedFault}
use Rattle.raw_feed.specs.declared.stage.Stage.{Stage}
use Rattle.raw_feed.specs.declared.stage.Stage.TheVariants.{Open, Marked, Ended, Refused}
use Rattle.raw_feed.specs.Told.{Told}
use Rattle.raw_feed.specs.Items.{marker, item, IsSized}
use Rattle.raw_feed.specs.Breaks.{Breaks, Gave, HasFeedCause}
use Rattle.raw_feed.specs.Refusals.{IsMarkerFault, IsItemFault}
use Rattle.raw_feed.specs.Feeds.{IsHead}

-- a reader: what the items are, the feed's configuration, the units read, the place of the next item, and how far the
-- reader is with it
pub record Reading : Type 0 where
  pub kind : Kind
  pub config : Fields
  pub count : ℕ
  pub at : ℕ
  pub stage : Stage

-- the reader with the next item at another stage
abbrev pub staged : Reading → Stage → Reading
staged reading stage = record reading { stage = stage }

-- the reader one unit further
abbrev pub counted : Reading → List ℕ → Reading
counted reading unit = record reading { count = reading.count + 1; at = reading.at + length (item reading.kind unit); stage = Open }

-- what is told goes on being told, and then this holds of what was told before
abbrev pub IfTold : Option Told → Option Told → (Told → Type 0) → Type 0
IfTold None now P = now ≡ None
IfTold (Some before) now P = P before

-- the head was read: the configuration stands there, and the first item comes next
abbrev pub ReadsHead : Kind → Reading → Option Told → Option Told → Type 0
ReadsHead kind new told now =
    (new ≡ record { kind = kind; config = new.config; count = 0; at = FEED_HEAD_LEN; stage = Open })
    × IfTold told now (λ before. (head : List ℕ) × IsHead kind head new.config × Gave head before now)

-- the bytes of the next item that were read before
abbrev pub begun : Kind → Stage → List ℕ
begun kind Open = []
begun kind Marked = marker kind
begun kind Ended = []
begun kind (Refused fault) = []

-- a unit more was read: the source gave the rest of its item
abbrev pub GivesUnit : Stage → Reading → Reading → Option Told → Option Told → List ℕ → Type 0
GivesUnit Ended old new told now unit = ⊥
GivesUnit (Refused fault) old new told now unit = ⊥
GivesUnit stage old new told now unit =
    IsSized old.kind old.config unit × (old.at + length (item old.kind unit) ≤ MAX_FEED) × (new ≡ counted old unit)
    × IfTold told now (λ before. (rest : List ℕ) × (begun old.kind stage ++ rest ≡ item old.kind unit) × Gave rest before now)

-- the feed has ended after a whole item, and was known to before or is so now
abbrev pub EndsClean : Stage → Reading → Reading → Option Told → Option Told → Type 0
EndsClean Open old new told now = (new ≡ staged old Ended) × IfTold told now (λ before. (before.left ≡ []) × (now ≡ Some before))
EndsClean Ended old new told now = (new ≡ old) × (now ≡ told)
EndsClean stage old new told now = ⊥

-- the feed can't be read on, which was known before or is so now
abbrev pub RefusesItem : Stage → Reading → Reading → Option Told → Option Told → FeedFault → Type 0
RefusesItem Ended old new told now fault = ⊥
RefusesItem (Refused known) old new told now fault = (fault ≡ known) × (new ≡ old) × (now ≡ told)
RefusesItem stage old new told now fault =
    IsItemFault old.at fault × (new ≡ staged old (Refused fault))
    × IfTold told now (λ before. Breaks old.kind old.config false old.at (begun old.kind stage) before now fault)

-- the marker of the next item was read, before or now
abbrev pub GivesMarker : Stage → Reading → Reading → Option Told → Option Told → Type 0
GivesMarker Open old new told now =
    (new ≡ staged old Marked) × (old.at + MARKER_LEN ≤ MAX_FEED) × IfTold told now (λ before. Gave (marker old.kind) before now)
GivesMarker Marked old new told now = (new ≡ old) × (now ≡ told)
GivesMarker stage old new told now = ⊥

-- the marker of the next item can't be read, whether an item may follow or not
abbrev pub RefusesMarker : Stage → Reading → Reading → Option Told → Option Told → FeedFault → Type 0
RefusesMarker Open old new told now fault =
    IsMarkerFault old.at fault × (new ≡ staged old (Refused fault))
    × IfTold told now (λ before. (full : Bool) → Breaks old.kind old.config full old.at [] before now fault)
RefusesMarker (Refused known) old new told now fault = (fault ≡ known) × (new ≡ old) × (now ≡ told)
RefusesMarker stage old new told now fault = ⊥

-- the count of a source's faults, which a reader that refused before doesn't ask
abbrev pub HasReaderCause : {T : Type 0} → Stage → ℕ → ℕ → Result T FeedFault → Type 0
HasReaderCause (Refused known) before now result = now ≡ before
HasReaderCause stage before now result = HasFeedCause before now result

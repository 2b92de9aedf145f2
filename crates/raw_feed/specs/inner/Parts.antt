-- What the parts of an item take from its source (own). Private functions alone cite these.
use Rattle.std.specs.Prelude.{◌≡◌, ◌≤◌, ◌<◌, ◌+◌, ◌-◌, ◌*◌, ℕ, List, [], ◌++◌, Bool, true, false}
use Rattle.std.specs.Prelude.{length, take, min, Option, Some, None, Result, Ok, Err}
use Rattle.byteorder.specs.Endian.{big_bytes}
use Rattle.raw_feed.specs.declared.kind.TheConstants.{UNIT_MARKER, SAMPLE_LEN}
use Rattle.raw_feed.specs.declared.limits.TheConstants.{MAX_FEED}
use Rattle.raw_feed.specs.declared.kind.Kind.{Kind}
use Rattle.raw_feed.specs.declared.kind.Kind.TheVariants.{Units}
use Rattle.raw_feed.specs.declared.fault.FeedFault.{FeedFault}
use Rattle.raw_feed.specs.declared.fault.FeedFault.TheVariants.{SourceFault, TooLong, FeedCut, Sample}
use Rattle.rec_bytes.specs.Configuration.{Fields}
use Rattle.raw_feed.specs.Told.{Told, after}
use Rattle.raw_feed.specs.Items.{marker, body, AreSamples, IsWrongSample}
use Rattle.raw_feed.specs.Pictures.{spelled}
use Rattle.raw_feed.specs.Breaks.{Breaks, Gave}

-- the refusals of a part of so many bytes at a place
abbrev pub IsPartFault : ℕ → ℕ → FeedFault → Type 0
IsPartFault at wanted (SourceFault count) = Unit {0}
IsPartFault at wanted (TooLong place) = (place ≡ MAX_FEED) × (MAX_FEED < at + wanted)
IsPartFault at wanted fault = ⊥

-- of samples from a place on
abbrev pub IsSamplesFault : ℕ → FeedFault → Type 0
IsSamplesFault at (SourceFault count) = Unit {0}
IsSamplesFault at (TooLong place) = place ≡ MAX_FEED
IsSamplesFault at (FeedCut place) = (at ≤ place) × (place ≤ MAX_FEED)
IsSamplesFault at (Sample place) = (at ≤ place) × (place + SAMPLE_LEN ≤ MAX_FEED)
IsSamplesFault at fault = ⊥

-- n bytes came, and fewer than were wanted only where the source has no more
pub record Fills (n : ℕ) (old : Told) (new : Option Told) (out : List ℕ) : Type 0 where
  pub most : n ≤ length out
  pub there : n ≤ length old.left
  pub moved : new ≡ Some (after n old)
  pub bytes : take n out ≡ take n old.left
  pub ended : n < length out → length old.left ≡ n

-- fewer bytes than were wanted came before the source failed
pub record FillsPart (wanted : ℕ) (old : Told) (new : Option Told) : Type 0 where
  pub count : ℕ
  pub fewer : count < wanted
  pub there : count ≤ length old.left
  pub moved : new ≡ Some (after count old)

-- a buffer was filled as far as the source has bytes
abbrev pub FillsFrom : {E : Type 0} → Option Told → Option Told → Result ℕ E → List ℕ → Type 0
FillsFrom None new result out = new ≡ None
FillsFrom (Some old) new (Ok n) out = Fills n old new out
FillsFrom (Some old) new (Err e) out = FillsPart (length out) old new

-- one more byte was read, or none is left
abbrev pub GoesOn : Option Told → Option Told → Result Bool FeedFault → Type 0
GoesOn None new result = new ≡ None
GoesOn (Some old) new (Ok true) = (0 < length old.left) × (new ≡ Some (after 1 old))
GoesOn (Some old) new (Ok false) = (length old.left ≡ 0) × (new ≡ Some old)
GoesOn (Some old) new (Err (SourceFault count)) = new ≡ Some old
GoesOn (Some old) new (Err other) = ⊥

-- the feed goes on behind its limit, and one byte from there was read
pub record PassesLimit (at wanted : ℕ) (old : Told) (new : Option Told) : Type 0 where
  pub wants : MAX_FEED < at + wanted
  pub there : MAX_FEED < at + length old.left
  pub moved : new ≡ Some (after (MAX_FEED - at + 1) old)

-- the same from a place of a feed, whose limit no byte that came passes
abbrev pub TakesPart : ℕ → Option Told → Option Told → Result ℕ FeedFault → List ℕ → Type 0
TakesPart at None new result out = new ≡ None
TakesPart at (Some old) new (Ok n) out = (at + n ≤ MAX_FEED) × Fills n old new out
TakesPart at (Some old) new (Err (SourceFault count)) out = FillsPart (min (length out) (MAX_FEED - at + 1)) old new
TakesPart at (Some old) new (Err (TooLong place)) out = (place ≡ MAX_FEED) × PassesLimit at (length out) old new
TakesPart at (Some old) new (Err other) out = ⊥

-- fewer bytes came than so many samples have, and no sample in them is too great
pub record EndsInSamples (at count place : ℕ) (old : Told) (new : Option Told) : Type 0 where
  pub fewer : length old.left < SAMPLE_LEN * count
  pub placed : place ≡ at + length old.left
  pub within : place ≤ MAX_FEED
  pub moved : new ≡ Some (after (length old.left) old)
  pub right : AreSamples old.left

-- bytes of so many samples came, and one of them is too great
pub record BreaksInSamples (at count place : ℕ) (old : Told) (new : Option Told) : Type 0 where
  pub n : ℕ
  pub k : ℕ
  pub most : n ≤ SAMPLE_LEN * count
  pub there : n ≤ length old.left
  pub within : at + n ≤ MAX_FEED
  pub moved : new ≡ Some (after n old)
  pub placed : place ≡ at + SAMPLE_LEN * k
  pub read : SAMPLE_LEN * k + SAMPLE_LEN ≤ n
  pub wrong : IsWrongSample count old.left k

-- so many samples were wanted from a place on, of which all or one lie before the feed's limit
abbrev pub SamplesRead : ℕ → ℕ → Option Told → Option Told → Result (Unit {0}) FeedFault → List ℕ → Type 0
SamplesRead at count None new result samples = new ≡ None
SamplesRead at count (Some old) new (Ok done) samples = Gave (spelled samples) old new
SamplesRead at count (Some old) new (Err (SourceFault n)) samples = FillsPart (min (SAMPLE_LEN * count) (MAX_FEED - at + 1)) old new
SamplesRead at count (Some old) new (Err (TooLong place)) samples = (place ≡ MAX_FEED) × (count ≤ 1) × PassesLimit at (SAMPLE_LEN * count) old new
SamplesRead at count (Some old) new (Err (FeedCut place)) samples = EndsInSamples at count place old new
SamplesRead at count (Some old) new (Err (Sample place)) samples = BreaksInSamples at count place old new
SamplesRead at count (Some old) new (Err other) samples = ⊥

-- the marker at a place was read, or the feed ends there
abbrev pub MarkerRead : Kind → ℕ → Option Told → Option Told → Result Bool FeedFault → Type 0
MarkerRead kind at None new result = new ≡ None
MarkerRead kind at (Some old) new (Ok true) = Gave (marker kind) old new
MarkerRead kind at (Some old) new (Ok false) = (old.left ≡ []) × (new ≡ Some old)
MarkerRead kind at (Some old) new (Err fault) = (config : Fields) (full : Bool) → Breaks kind config full at [] old new fault

-- the length of a unit was read, behind its marker
abbrev pub LenRead : ℕ → Option Told → Option Told → Result ℕ FeedFault → Type 0
LenRead at None new result = new ≡ None
LenRead at (Some old) new (Ok len) = Gave (big_bytes 4 len) old new
LenRead at (Some old) new (Err fault) = (config : Fields) → Breaks Units config false at UNIT_MARKER old new fault

-- the bytes of a unit were read, behind its marker and its length
abbrev pub BytesRead : ℕ → ℕ → Option Told → Option Told → Result (List ℕ) FeedFault → Type 0
BytesRead at len None new result = new ≡ None
BytesRead at len (Some old) new (Ok unit) = (length unit ≡ len) × Gave unit old new
BytesRead at len (Some old) new (Err fault) = (config : Fields) → Breaks Units config false at (UNIT_MARKER ++ big_bytes 4 len) old new fault

-- the rest of an item was read, behind its marker
abbrev pub ItemRead : Kind → Fields → ℕ → Option Told → Option Told → Result (List ℕ) FeedFault → Type 0
ItemRead kind config at None new result = new ≡ None
ItemRead kind config at (Some old) new (Ok unit) = Gave (body kind unit) old new
ItemRead kind config at (Some old) new (Err fault) = Breaks kind config false at (marker kind) old new fault

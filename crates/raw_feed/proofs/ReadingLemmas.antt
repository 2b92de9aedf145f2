-- What the calls of a reader add up to.
use Rattle.std.proofs.Common.{arith, ◌≡◌, ℕ, ◌+◌, ◌≤◌, List, [], ◌++◌, length, take, Bool, true, false, Option, Some, None, Ok, Err, refl, sym, ap, ◌∙◌, subst}
use Rattle.std.specs.Bool.{OnTrue, OnFalse}
use Rattle.rec_bytes.specs.Configuration.{Fields}
use Rattle.raw_feed.specs.declared.kind.TheConstants.{MARKER_LEN}
use Rattle.raw_feed.specs.declared.limits.TheConstants.{MAX_FEED}
use Rattle.raw_feed.specs.declared.kind.Kind.{Kind}
use Rattle.raw_feed.specs.declared.fault.FeedFault.{FeedFault}
use Rattle.raw_feed.specs.declared.fault.FeedFault.TheVariants.{Memory, FeedHead, Marker, FeedCut, SourceFault, TooLong, Sample, UnitLong}
use Rattle.raw_feed.specs.declared.stage.Stage.{Stage}
use Rattle.raw_feed.specs.declared.stage.Stage.TheVariants.{Open, Marked, Ended, Refused}
use Rattle.raw_feed.specs.Told.{Told, after}
use Rattle.raw_feed.specs.Items.{IsSized, marker, body, item}
use Rattle.raw_feed.specs.declared.head.TheConstants.{FEED_HEAD_LEN}
use Rattle.raw_feed.specs.Refusals.{IsHeadFault, IsMarkerFault, IsItemFault, IsFeedFault}
use Rattle.raw_feed.specs.inner.Parts.{ItemRead}
use Rattle.raw_feed.specs.Breaks.{Breaks, Gave}
use Rattle.raw_feed.specs.Reading.{Reading, staged, counted, IfTold, GivesUnit, GivesMarker, RefusesItem, RefusesMarker}
use Rattle.raw_feed.proofs.KindLemmas.{marker_long}
use Rattle.raw_feed.proofs.PartLemmas.{Gave-more}
use Rattle.raw_feed.proofs.BreakLemmas.{Breaks-shift}

-- the marker that was given, in four bytes
pub marker_given : (kind : Kind) (before : Told) (now : Option Told) → Gave (marker kind) before now
    → (take MARKER_LEN before.left ≡ marker kind) × (now ≡ Some (after MARKER_LEN before))
marker_given kind before now (taken, moved) =
    let four = marker_long kind in
    (ap (λ (n : ℕ). take n before.left) (sym four) ∙ taken, moved ∙ ap (λ (n : ℕ). Some (after n before)) four)

-- the reader, as the fields that it has behind a unit
further : (reading : Reading) (unit : List ℕ) (kind : Kind) (config : Fields) (count at len : ℕ) (stage : Stage)
    → record { kind = kind; config = config; count = count; at = at; stage = stage } ≡ reading → len ≡ length (item kind unit)
    → record { kind = kind; config = config; count = count + 1; at = at + len; stage = Open } ≡ counted reading unit
further reading unit kind config count at len stage is long =
    ap (λ (n : ℕ). record { kind = kind; config = config; count = count + 1; at = at + n; stage = Open }) long
    ∙ ap (λ (r : Reading). counted r unit) is

-- what a reader reads is of its kind, and of the feed's configuration
pub kind_kept : (s : Stage) (old mid : Reading) (told via : Option Told) (kind : Kind) → GivesMarker s old mid told via → old.kind ≡ kind → kind ≡ mid.kind
kind_kept Open old mid told via kind marked of = sym of ∙ sym (ap (λ (r : Reading). r.kind) marked.0)
kind_kept Marked old mid told via kind marked of = sym of ∙ sym (ap (λ (r : Reading). r.kind) marked.0)
kind_kept Ended old mid told via kind marked of = absurd marked
kind_kept (Refused f) old mid told via kind marked of = absurd marked

-- an item whose marker was read before or now
pub GivesUnit-read : (s : Stage) (old mid : Reading) (kind : Kind) (config : Fields) (count at len : ℕ) (stage : Stage) (told via now : Option Told)
    (unit : List ℕ)
    → record { kind = kind; config = config; count = count; at = at; stage = stage } ≡ mid → GivesMarker s old mid told via
    → IsSized kind config unit → at + length (item kind unit) ≤ MAX_FEED → len ≡ length (item kind unit) → ItemRead kind config at via now (Ok unit)
    → GivesUnit s old (record { kind = kind; config = config; count = count + 1; at = at + len; stage = Open }) told now unit
GivesUnit-read Open old mid kind config count at len stage told via now unit is marked most room long read =
    let same : record { kind = kind; config = config; count = count; at = at; stage = stage } ≡ staged old Marked = is ∙ marked.0 in
    let kind_is : kind ≡ old.kind = ap (λ (r : Reading). r.kind) same in
    let at_is : at ≡ old.at = ap (λ (r : Reading). r.at) same in (
      subst (λ (r : Reading). IsSized r.kind r.config unit) same most,
      subst (λ (p : ℕ). p + length (item old.kind unit) ≤ MAX_FEED) at_is (subst (λ (k : Kind). at + length (item k unit) ≤ MAX_FEED) kind_is room),
      further (staged old Marked) unit kind config count at len stage same long,
      came told marked.2 (subst (λ (r : Reading). ItemRead r.kind r.config at via now (Ok unit)) same read),
    )
  where
    came : (t : Option Told) → IfTold t via (λ before. Gave (marker old.kind) before via) → ItemRead old.kind old.config at via now (Ok unit)
        → IfTold t now (λ before. (rest : List ℕ) × (rest ≡ item old.kind unit) × Gave rest before now)
    came None none r = subst (λ (v : Option Told). ItemRead old.kind old.config at v now (Ok unit)) none r
    came (Some before) gave r =
        let g = marker_given old.kind before via gave in
        let rest : Gave (body old.kind unit) (after MARKER_LEN before) now = subst (λ (v : Option Told). ItemRead old.kind old.config at v now (Ok unit)) g.1 r in
        (item old.kind unit, refl, Gave-more MARKER_LEN (marker old.kind) (body old.kind unit) before now (marker_long old.kind) g.0 rest)
GivesUnit-read Marked old mid kind config count at len stage told via now unit is marked most room long read =
    let same : record { kind = kind; config = config; count = count; at = at; stage = stage } ≡ old = is ∙ marked.0 in
    let kind_is : kind ≡ old.kind = ap (λ (r : Reading). r.kind) same in
    let at_is : at ≡ old.at = ap (λ (r : Reading). r.at) same in (
      subst (λ (r : Reading). IsSized r.kind r.config unit) same most,
      subst (λ (p : ℕ). p + length (item old.kind unit) ≤ MAX_FEED) at_is (subst (λ (k : Kind). at + length (item k unit) ≤ MAX_FEED) kind_is room),
      further old unit kind config count at len stage same long,
      came told (subst (λ (v : Option Told). ItemRead old.kind old.config at v now (Ok unit)) marked.1
          (subst (λ (r : Reading). ItemRead r.kind r.config at via now (Ok unit)) same read)),
    )
  where
    came : (t : Option Told) → ItemRead old.kind old.config at t now (Ok unit)
        → IfTold t now (λ before. (rest : List ℕ) × (marker old.kind ++ rest ≡ item old.kind unit) × Gave rest before now)
    came None none = none
    came (Some before) rest = (body old.kind unit, refl, rest)
GivesUnit-read Ended old mid kind config count at len stage told via now unit is marked most room long read = absurd marked
GivesUnit-read (Refused f) old mid kind config count at len stage told via now unit is marked most room long read = absurd marked

-- an item that breaks behind its marker
pub RefusesItem-read : (s : Stage) (old mid : Reading) (kind : Kind) (config : Fields) (count at : ℕ) (stage : Stage) (told via now : Option Told)
    (fault : FeedFault)
    → record { kind = kind; config = config; count = count; at = at; stage = stage } ≡ mid → GivesMarker s old mid told via
    → IsItemFault at fault → ItemRead kind config at via now (Err fault)
    → RefusesItem s old (record { kind = kind; config = config; count = count; at = at; stage = Refused fault }) told now fault
RefusesItem-read Open old mid kind config count at stage told via now fault is marked named read =
    let same : record { kind = kind; config = config; count = count; at = at; stage = stage } ≡ staged old Marked = is ∙ marked.0 in
    let kind_is : kind ≡ old.kind = ap (λ (r : Reading). r.kind) same in
    let at_is : at ≡ old.at = ap (λ (r : Reading). r.at) same in
    let there : ItemRead old.kind old.config old.at via now (Err fault) =
    subst (λ (r : Reading). ItemRead r.kind r.config r.at via now (Err fault)) same read in
    (subst (λ (p : ℕ). IsItemFault p fault) at_is named, ap (λ (r : Reading). staged r (Refused fault)) same, broken told marked.2 there)
  where
    broken : (t : Option Told) → IfTold t via (λ before. Gave (marker old.kind) before via) → ItemRead old.kind old.config old.at via now (Err fault)
        → IfTold t now (λ before. Breaks old.kind old.config false old.at [] before now fault)
    broken None none r = subst (λ (v : Option Told). ItemRead old.kind old.config old.at v now (Err fault)) none r
    broken (Some before) gave r =
        let g = marker_given old.kind before via gave in
        let rest : Breaks old.kind old.config false old.at (marker old.kind) (after MARKER_LEN before) now fault =
        subst (λ (v : Option Told). ItemRead old.kind old.config old.at v now (Err fault)) g.1 r in
        Breaks-shift old.kind old.config false old.at [] MARKER_LEN (marker old.kind) before now fault (marker_long old.kind) g.0 rest
RefusesItem-read Marked old mid kind config count at stage told via now fault is marked named read =
    let same : record { kind = kind; config = config; count = count; at = at; stage = stage } ≡ old = is ∙ marked.0 in
    let kind_is : kind ≡ old.kind = ap (λ (r : Reading). r.kind) same in
    let at_is : at ≡ old.at = ap (λ (r : Reading). r.at) same in
    let there : ItemRead old.kind old.config old.at via now (Err fault) =
    subst (λ (r : Reading). ItemRead r.kind r.config r.at via now (Err fault)) same read in (
      subst (λ (p : ℕ). IsItemFault p fault) at_is named,
      ap (λ (r : Reading). staged r (Refused fault)) same,
      broken told (subst (λ (v : Option Told). ItemRead old.kind old.config old.at v now (Err fault)) marked.1 there),
    )
  where
    broken : (t : Option Told) → ItemRead old.kind old.config old.at t now (Err fault)
        → IfTold t now (λ before. Breaks old.kind old.config false old.at (marker old.kind) before now fault)
    broken None none = none
    broken (Some before) rest = rest
RefusesItem-read Ended old mid kind config count at stage told via now fault is marked named read = absurd marked
RefusesItem-read (Refused f) old mid kind config count at stage told via now fault is marked named read = absurd marked

-- the kind of a reader's items, where it is known
kind_there : (s : Stage) (old mid : Reading) (kind known : Kind) (config : Fields) (count at : ℕ) (stage : Stage) (told via : Option Told)
    → record { kind = kind; config = config; count = count; at = at; stage = stage } ≡ mid → GivesMarker s old mid told via
    → old.kind ≡ known → known ≡ kind
kind_there s old mid kind known config count at stage told via is marked of =
    kind_kept s old mid told via known marked of ∙ sym (ap (λ (r : Reading). r.kind) is)

-- the configuration of the feed, once the marker was read
pub config_there : (s : Stage) (old mid : Reading) (kind : Kind) (config : Fields) (count at : ℕ) (stage : Stage) (told via : Option Told)
    → record { kind = kind; config = config; count = count; at = at; stage = stage } ≡ mid → GivesMarker s old mid told via → old.config ≡ config
config_there Open old mid kind config count at stage told via is marked = sym (ap (λ (r : Reading). r.config) (is ∙ marked.0))
config_there Marked old mid kind config count at stage told via is marked = sym (ap (λ (r : Reading). r.config) (is ∙ marked.0))
config_there Ended old mid kind config count at stage told via is marked = absurd marked
config_there (Refused f) old mid kind config count at stage told via is marked = absurd marked

-- an item of a known kind was read, or breaks
pub GivesUnit-of : (known : Kind) (s : Stage) (old mid : Reading) (kind : Kind) (config : Fields) (count at len : ℕ) (stage : Stage)
    (told via now : Option Told) (unit : List ℕ)
    → record { kind = kind; config = config; count = count; at = at; stage = stage } ≡ mid → GivesMarker s old mid told via → old.kind ≡ known
    → IsSized known config unit → at + length (item known unit) ≤ MAX_FEED → len ≡ length (item known unit)
    → ItemRead known config at via now (Ok unit)
    → GivesUnit s old (record { kind = kind; config = config; count = count + 1; at = at + len; stage = Open }) told now unit
GivesUnit-of known s old mid kind config count at len stage told via now unit is marked of sized room long read =
    let kind_is : known ≡ kind = kind_there s old mid kind known config count at stage told via is marked of in
    GivesUnit-read s old mid kind config count at len stage told via now unit is marked
    (subst (λ (k : Kind). IsSized k config unit) kind_is sized)
    (subst (λ (k : Kind). at + length (item k unit) ≤ MAX_FEED) kind_is room)
    (subst (λ (k : Kind). len ≡ length (item k unit)) kind_is long)
    (subst (λ (k : Kind). ItemRead k config at via now (Ok unit)) kind_is read)

pub RefusesItem-of : (known : Kind) (s : Stage) (old mid : Reading) (kind : Kind) (config : Fields) (count at : ℕ) (stage : Stage)
    (told via now : Option Told) (fault : FeedFault)
    → record { kind = kind; config = config; count = count; at = at; stage = stage } ≡ mid → GivesMarker s old mid told via → old.kind ≡ known
    → IsItemFault at fault → ItemRead known config at via now (Err fault)
    → RefusesItem s old (record { kind = kind; config = config; count = count; at = at; stage = Refused fault }) told now fault
RefusesItem-of known s old mid kind config count at stage told via now fault is marked of named read =
    RefusesItem-read s old mid kind config count at stage told via now fault is marked named
    (subst (λ (k : Kind). ItemRead k config at via now (Err fault)) (kind_there s old mid kind known config count at stage told via is marked of) read)

-- what holds of a marker that is there
pub OnTrue-there : (b : Bool) {P : Type 0} → b ≡ true → OnTrue b P → P
OnTrue-there true e h = h
OnTrue-there false e h = absurd (cc)

pub OnFalse-there : (b : Bool) {P : Type 0} → b ≡ false → OnFalse b P → P
OnFalse-there false e h = h
OnFalse-there true e h = absurd (cc)

-- a refusal of a marker is one of its item
pub IsItemFault-marker : (at : ℕ) (fault : FeedFault) → IsMarkerFault at fault → IsItemFault at fault
IsItemFault-marker at Memory h = tt
IsItemFault-marker at (FeedHead place) h = h
IsItemFault-marker at (Marker place) h = h
IsItemFault-marker at (FeedCut place) h = (h.0, h.2)
IsItemFault-marker at (SourceFault count) h = h
IsItemFault-marker at (TooLong place) h = h.0
IsItemFault-marker at (Sample place) h = absurd h
IsItemFault-marker at (UnitLong place) h = absurd h

-- an item is refused where its marker is
pub RefusesItem-marker : (s : Stage) (old new : Reading) (told now : Option Told) (fault : FeedFault)
    → RefusesMarker s old new told now fault → RefusesItem s old new told now fault
RefusesItem-marker Open old new told now fault (named, is, broken) = (IsItemFault-marker old.at fault named, is, for_one told broken)
  where
    for_one : (t : Option Told) → IfTold t now (λ before. (full : Bool) → Breaks old.kind old.config full old.at [] before now fault)
        → IfTold t now (λ before. Breaks old.kind old.config false old.at [] before now fault)
    for_one None h = h
    for_one (Some before) h = h false
RefusesItem-marker Marked old new told now fault h = absurd h
RefusesItem-marker Ended old new told now fault h = absurd h
RefusesItem-marker (Refused known) old new told now fault h = h

-- the places of the faults of a feed, by the call that has them
pub fault_of_head : (fault : FeedFault) → IsHeadFault fault → IsFeedFault fault
fault_of_head Memory h = tt
fault_of_head (FeedHead place) h = h
fault_of_head (Marker place) h = absurd h
fault_of_head (FeedCut place) h = omega arith
fault_of_head (SourceFault count) h = tt
fault_of_head (TooLong place) h = absurd h
fault_of_head (Sample place) h = absurd h
fault_of_head (UnitLong place) h = absurd h

pub fault_of_item : (at : ℕ) (fault : FeedFault) → FEED_HEAD_LEN ≤ at → IsItemFault at fault → IsFeedFault fault
fault_of_item at Memory behind h = tt
fault_of_item at (FeedHead place) behind h = absurd h
fault_of_item at (Marker place) behind (is, room) = (omega arith, omega arith)
fault_of_item at (FeedCut place) behind h = h.1
fault_of_item at (SourceFault count) behind h = tt
fault_of_item at (TooLong place) behind h = h
fault_of_item at (Sample place) behind (from, room) = (omega arith, room)
fault_of_item at (UnitLong place) behind (is, room) = (omega arith, omega arith)

pub fault_of_marker : (at : ℕ) (fault : FeedFault) → FEED_HEAD_LEN ≤ at → IsMarkerFault at fault → IsFeedFault fault
fault_of_marker at fault behind h = fault_of_item at fault behind (IsItemFault-marker at fault h)

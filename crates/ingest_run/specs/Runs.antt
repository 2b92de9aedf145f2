-- What a run over a feed writes and answers for the feed's bytes (own). docs/ARCHITECTURE.md, "The run".
use Rattle.std.specs.Prelude.{◌≡◌, ◌≢◌, ◌⊎◌, ℕ, List, [], ◌∷◌, ◌++◌, length, take, All, Option, Some}
use Rattle.std.specs.List.{AllZip}
use Rattle.rec_bytes.specs.Configuration.{Fields}
use Rattle.rec_bytes.specs.declared.status.Status.{Status}
use Rattle.picture_plane.specs.Pictures.{Planes}
use Rattle.raw_feed.specs.declared.kind.Kind.{Kind}
use Rattle.raw_feed.specs.declared.kind.Kind.TheVariants.{Units, Pictures}
use Rattle.raw_feed.specs.Told.{Told, after}
use Rattle.raw_feed.specs.Items.{Ending, Clean}
use Rattle.raw_feed.specs.Feeds.{IsFeedOf, EndsInHead}
use Rattle.raw_feed.specs.Pictures.{IsPictureFeed}
use Rattle.raw_feed.specs.Reading.{IfTold}
use Rattle.frame_codec.specs.Coded.{IsCodedFrame}
use Rattle.run_parts.specs.Causes.{Counts}
use Rattle.run_parts.specs.Gains.{Gains, Lacks}
use Rattle.run_parts.specs.Statuses.{ending_answer, unit_answer}
use Rattle.run_parts.specs.Units.{IsRead, RefusesUnit}
use Rattle.run_parts.specs.declared.unit.UnitFault.{UnitFault}

-- the feed begins with this configuration and these units, whatever follows them
pub record BeginsWith (bytes : List ℕ) (config : Fields) (units : List (List ℕ)) : Type 0 where
  pub front : List ℕ
  pub rest : List ℕ
  pub split : bytes ≡ front ++ rest
  pub feed : IsFeedOf Units front config units Clean

-- each unit is read: the closed file of those before the feed's end or first break is written, and the answer is as it ends
pub record WrapsUnits (closed : Fields → List (List ℕ) → List ℕ) (bytes written : List ℕ) (status : Status) : Type 0 where
  pub config : Fields
  pub units : List (List ℕ)
  pub ending : Ending
  pub feed : IsFeedOf Units bytes config units ending
  pub read : All (IsRead config) units
  pub file : written ≡ closed config units
  pub answered : status ≡ ending_answer (length units) ending

-- a unit is refused: the closed file of those before it is written, and the answer is its refusal's
pub record RefusesAUnit (closed : Fields → List (List ℕ) → List ℕ) (bytes written : List ℕ) (status : Status) : Type 0 where
  pub config : Fields
  pub units : List (List ℕ)
  pub unit : List ℕ
  pub fault : UnitFault
  pub feed : BeginsWith bytes config (units ++ unit ∷ [])
  pub read : All (IsRead config) units
  pub refused : RefusesUnit config unit fault
  pub file : written ≡ closed config units
  pub answered : status ≡ unit_answer (length units) fault

-- the feed ends in its head: nothing is written, and the answer is its refusal's
pub record RefusesHead (kind : Kind) (bytes written : List ℕ) (status : Status) : Type 0 where
  pub ending : Ending
  pub feed : EndsInHead kind bytes ending
  pub nothing : written ≡ []
  pub answered : status ≡ ending_answer 0 ending

-- what `wrap` writes and answers, by the closed files of its layout
abbrev pub Wraps : (Fields → List (List ℕ) → List ℕ) → List ℕ → List ℕ → Status → Type 0
Wraps closed bytes written status =
    (WrapsUnits closed bytes written status ⊎ RefusesAUnit closed bytes written status) ⊎ RefusesHead Units bytes written status

-- the closed file of the frames of the pictures before the feed's end or first break is written, and the answer is as it ends
pub record EncodesPictures (closed : Fields → List (List ℕ) → List ℕ) (bytes written : List ℕ) (status : Status) : Type 0 where
  pub config : Fields
  pub pictures : List Planes
  pub frames : List (List ℕ)
  pub ending : Ending
  pub feed : IsPictureFeed bytes config pictures ending
  pub coded : AllZip (IsCodedFrame config) pictures frames
  pub file : written ≡ closed config frames
  pub answered : status ≡ ending_answer (length pictures) ending

-- what `encode` writes and answers, by the closed files of its layout
abbrev pub Encodes : (Fields → List (List ℕ) → List ℕ) → List ℕ → List ℕ → Status → Type 0
Encodes closed bytes written status = EncodesPictures closed bytes written status ⊎ RefusesHead Pictures bytes written status

-- the answer says that memory was wanted, the source failed or the sink failed
abbrev pub IsCutShort : Status → Type 0
IsCutShort status = (status.code ≡ 1) ⊎ ((status.code ≡ 5) ⊎ (status.code ≡ 7))

-- an answer for bytes behind which a source may fail: they end after a whole item, or they are cut, or the samples that
-- were given last have a wrong one, since those of a picture are judged in pieces
abbrev pub IsOpenEnd : Status → Type 0
IsOpenEnd status = (status.code ≡ 0) ⊎ ((status.number ≡ 112) ⊎ (status.number ≡ 115))

-- what the devices of a run over a feed show: what its source tells, what was written, and how often each has failed
pub record Outside : Type 0 where
  pub told : Option Told
  pub written : Option (List ℕ)
  pub counts : Counts

-- the devices by what each of them shows
abbrev pub outside : Option Told → ℕ → Option (List ℕ) → ℕ → Outside
outside told source_faults written sink_faults =
    record { told = told; written = written; counts = record { source = source_faults; sink = sink_faults } }

-- A run over a source that tells its bytes. It says what its command says for all bytes that the source had, and for
-- those that it gave, unless it is cut short. What it wrote is a front of what is said for the bytes that were given, and
-- the whole of that unless memory was wanted or the sink failed, which then lacks a part of it; the source's fault is
-- answered only where those don't show how the feed ends.
pub record RunsOver (Said : List ℕ → List ℕ → Status → Type 0) (Paced : List ℕ → List ℕ → Type 0) (told : Told)
    (before now : Outside) (status : Status) : Type 0 where
  pub count : ℕ
  pub gave : now.told ≡ Some (after count told)
  pub written : List ℕ
  pub gains : Gains before.written now.written written
  pub whole : List ℕ
  pub answered : Status
  pub given : Said (take count told.left) whole answered
  pub missing : List ℕ
  pub front : whole ≡ written ++ missing
  pub all : status.code ≢ 1 → status.code ≢ 7 → missing ≡ []
  pub cut : status.code ≡ 7 → Lacks before.written missing
  pub says : (IsCutShort status → ⊥) → Said told.left written status × (answered ≡ status)
  pub behind : status.code ≡ 5 → IsOpenEnd answered
  pub paced : Paced (take count told.left) written

-- a run, of which this holds where its source tells its bytes
abbrev pub Runs : (List ℕ → List ℕ → Status → Type 0) → (List ℕ → List ℕ → Type 0) → Outside → Outside → Status → Type 0
Runs Said Paced before now status = IfTold before.told now.told (λ told. RunsOver Said Paced told before now status)

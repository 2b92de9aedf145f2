-- When each answer may come (own). docs/FORMATS.md, "Statuses".
use Rattle.std.specs.Prelude.{◌≡◌, ◌≢◌, ◌⊎◌, ◌≤◌, ◌<◌, ℕ, List, Option, Result, Ok, Err, length}
use Rattle.rec_bytes.specs.Faults.{Rose}
use Rattle.rec_bytes.specs.Configuration.{Fields}
use Rattle.rec_bytes.specs.Ranges.{IsInRange, IsWithin}
use Rattle.rec_bytes.specs.declared.config_fields.TheConstants.{MAX_FRAMES}
use Rattle.rec_bytes.specs.declared.status.Status.{Status}
use Rattle.raw_feed.specs.declared.limits.TheConstants.{MAX_UNIT}
use Rattle.raw_feed.specs.Items.{Ending, Clean, Full, Broken}
use Rattle.raw_feed.specs.Written.{Writes}
use Rattle.raw_feed.specs.Refusals.{IsFeedFault}
use Rattle.run_parts.specs.declared.end.PutFault.{PutFault}
use Rattle.run_parts.specs.declared.end.PutFault.TheVariants.{Memory, Sink}
use Rattle.run_parts.specs.Statuses.{answer, ending_answer, unit_answer, sink_answer}
use Rattle.run_parts.specs.Units.{RefusesUnit}
use Rattle.run_parts.specs.declared.unit.UnitFault.{UnitFault}

-- how often each device of a run over a feed has failed
pub record Counts : Type 0 where
  pub source : ℕ
  pub sink : ℕ

-- the counts of a source and of a sink
abbrev pub counts : ℕ → ℕ → Counts
counts source sink = record { source = source; sink = sink }

-- a feed may end so behind so many items: the count is one that a configuration allows, and a fault stands where it can
abbrev pub IsEnding : ℕ → Ending → Type 0
IsEnding items Clean = Unit {0}
IsEnding items Full = IsWithin 1 items MAX_FRAMES
IsEnding items (Broken fault) = IsFeedFault fault

-- the answer is the one for an ending of a feed behind so many items, a fault of the source or want of memory among them
abbrev pub IsFeedAnswer : Status → Type 0
IsFeedAnswer status = (items : ℕ) × (ending : Ending) × IsEnding items ending × (status ≡ ending_answer items ending)

-- the answer is the one for a unit that is refused: one of those that a configuration allows, which breaks the rule that the fault names
pub record IsUnitAnswer (status : Status) : Type 0 where
  pub config : Fields
  pub bytes : List ℕ
  pub unit : ℕ
  pub fault : UnitFault
  pub ranges : IsInRange config
  pub few : unit < config.max_frames
  pub size : length bytes ≤ MAX_UNIT
  pub refused : RefusesUnit config bytes fault
  pub answered : status ≡ unit_answer unit fault

-- the answer is one for how a feed ends, or for a unit of it
abbrev pub IsReadAnswer : Status → Type 0
IsReadAnswer status = IsFeedAnswer status ⊎ IsUnitAnswer status

-- A count of the source's faults stays, unless the answer says that it rose: by 5, or by 7 where the sink failed in the
-- tail that is written behind a fault of the source.
abbrev pub SourceStays : ℕ → ℕ → Status → Type 0
SourceStays before now status = status.code ≢ 5 → (now ≡ before) ⊎ ((status.code ≡ 7) × Rose before now)

-- the counts show the cause of an answer 5 and of an answer 7, and rise for no other
pub record HasDeviceCauses (before now : Counts) (status : Status) : Type 0 where
  pub source : status.code ≡ 5 → (status ≡ answer 5 113 now.source 0) × Rose before.source now.source
  pub source_kept : SourceStays before.source now.source status
  pub sink : status.code ≡ 7 → (status ≡ sink_answer now.sink) × Rose before.sink now.sink
  pub sink_kept : status.code ≢ 7 → now.sink ≡ before.sink

-- the same of a command that reads a feed, whose answer is one for an ending of a feed, for a unit of it or for its sink
pub record HasFeedCauses (before now : Counts) (status : Status) : Type 0 where
  pub answered : IsReadAnswer status ⊎ (status ≡ sink_answer now.sink)
  pub devices : HasDeviceCauses before now status

-- a piece was written, or a front of it where the sink failed; nothing where memory was wanted before it
abbrev pub Puts : Option (List ℕ) → Option (List ℕ) → Result (Unit {0}) PutFault → List ℕ → Type 0
Puts old now (Err Memory) piece = now ≡ old
Puts old now result piece = Writes old now result piece

-- a piece was written, or memory was wanted before it, and the sink's count stays; or the sink failed
abbrev pub HasPutCause : {T : Type 0} → ℕ → ℕ → Result T PutFault → Type 0
HasPutCause before now (Ok done) = now ≡ before
HasPutCause before now (Err Memory) = now ≡ before
HasPutCause before now (Err Sink) = Rose before now

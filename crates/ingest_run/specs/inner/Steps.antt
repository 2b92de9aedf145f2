-- The steps of the commands that read a feed (own). Private functions alone cite these.
use Rattle.std.specs.Prelude.{◌≡◌, ◌≢◌, ◌+◌, ◌<◌, ◌≤◌, ℕ, List, [], ◌∷◌, ◌++◌, Option, None, Result, Ok, Err}
use Rattle.rec_bytes.specs.Faults.{Rose}
use Rattle.rec_bytes.specs.Ranges.{IsInRange}
use Rattle.rec_bytes.specs.declared.status.Status.{Status}
use Rattle.rec_bytes.specs.declared.status.Memory.{Memory}
use Rattle.raw_feed.specs.declared.fault.FeedFault.TheVariants.{Memory as NoMemory}
use Rattle.raw_feed.specs.declared.stage.Stage.TheVariants.{Open}
use Rattle.raw_feed.specs.Told.{Told}
use Rattle.raw_feed.specs.Items.{Ending, Clean, Full, Broken}
use Rattle.raw_feed.specs.HasRead.{HasRead, EndsFeed}
use Rattle.raw_feed.specs.Reading.{Reading}
use Rattle.run_parts.specs.declared.end.FeedEnd.{FeedEnd}
use Rattle.run_parts.specs.declared.end.FeedEnd.TheVariants.{Clean as EndClean, Full as EndFull, Broken as EndBroken}
use Rattle.run_parts.specs.Causes.{IsFeedAnswer}
use Rattle.run_parts.specs.Statuses.{answer, ending_answer, feed_end_answer, memory_answer}
use Rattle.ingest_run.specs.declared.next.Next.{Next}
use Rattle.ingest_run.specs.declared.next.Next.TheVariants.{Item, End}

-- the ending that a feed's end is
abbrev pub ending_of : FeedEnd → Ending
ending_of EndClean = Clean
ending_of (EndFull items) = Full
ending_of (EndBroken fault) = Broken fault

-- this holds where there is a next unit
abbrev pub OnItem : Result Next Memory → Type 0 → Type 0
OnItem (Ok Item) P = P
OnItem (Ok (End end)) P = Unit {0}
OnItem (Err memory) P = Unit {0}

-- this holds of the feed's end and of its answer, where there is no next unit
abbrev pub IfEnd : Result Next Memory → (Status → Ending → Type 0) → Type 0
IfEnd (Ok Item) P = Unit {0}
IfEnd (Ok (End end)) P = P (feed_end_answer end) (ending_of end)
IfEnd (Err memory) P = P memory_answer (Broken NoMemory)

-- what isn't told goes on not being told
abbrev pub StaysSilent : Option Told → Option Told → Type 0
StaysSilent told now = told ≡ None → now ≡ None

-- one unit more was read, which there was room for
pub record ReadsUnit (old new : Reading) (told now : Option Told) (unit : List ℕ) : Type 0 where
  pub ranges : IsInRange old.config
  pub room : old.count < old.config.max_frames
  pub stage : new.stage ≡ Open
  pub kind : new.kind ≡ old.kind
  pub config : new.config ≡ old.config
  pub count : new.count ≡ old.count + 1
  pub further : old.at ≤ new.at
  pub grows : (units : List (List ℕ)) (before : Told) → HasRead old units before told → HasRead new (units ++ unit ∷ []) before now

-- the feed ends where the reader stands, and the answer is the one for its ending
pub record EndsReading (old : Reading) (told now : Option Told) (status : Status) (ending : Ending) : Type 0 where
  pub answered : status ≡ ending_answer old.count ending
  pub ends : (units : List (List ℕ)) (before : Told) → HasRead old units before told → EndsFeed old.kind old.config units ending before now

-- the answer where a feed ends, and the source's count shows its cause
pub record HasEndCause (before now : ℕ) (status : Status) : Type 0 where
  pub answered : IsFeedAnswer status
  pub source : status.code ≡ 5 → (status ≡ answer 5 113 now 0) × Rose before now
  pub source_kept : status.code ≢ 5 → now ≡ before
  pub no_sink : status.code ≢ 7

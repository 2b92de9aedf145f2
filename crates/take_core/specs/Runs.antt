-- Runs of a take: events one by one, each with its answer (own). docs/ARCHITECTURE.md, "The events of a take".
use Rattle.std.specs.Prelude.{◌≡◌, ℕ, List, [], ◌∷◌, Contains}
use Rattle.rec_bytes.specs.Configuration.{Fields}
use Rattle.take_core.specs.States.{CoreState, fresh}
use Rattle.take_core.specs.Steps.{Steps}
use Rattle.take_core.specs.declared.event.Answer.{Answer}
use Rattle.take_core.specs.declared.event.Answer.TheVariants.{Done, Seen}
use Rattle.take_core.specs.declared.event.Event.{Event}
use Rattle.take_core.specs.declared.event.Event.TheVariants.{SliceIn, Look}
use Rattle.take_core.specs.declared.snapshot.Snapshot.{Snapshot}

-- an event with its answer
pub record Turn : Type 0 where
  pub event : Event
  pub answer : Answer

-- these turns, one by one, lead from the first state to the last
abbrev pub Runs : CoreState → List Turn → CoreState → Type 0
Runs first [] last = last ≡ first
Runs first (turn ∷ turns) last = (next : CoreState) × Steps first turn.event turn.answer next × Runs next turns last

-- these turns are a run of a take of the configuration, which ends in the state
abbrev pub IsRun : Fields → List Turn → CoreState → Type 0
IsRun cfg turns last = Runs (fresh cfg) turns last

-- among these turns, the slice was taken
abbrev pub WasTaken : List Turn → ℕ → ℕ → Type 0
WasTaken turns frame index = Contains turns (record { event = SliceIn frame index; answer = Done })

-- the turn in which a reader looks, and sees this
abbrev pub look : ℕ → Snapshot → Turn
look reader seen = record { event = Look reader; answer = Seen seen }

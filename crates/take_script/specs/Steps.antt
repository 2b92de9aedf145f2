-- What the steps of a commit do to a take (own). docs/ARCHITECTURE.md, "The phases of a commit".
use Rattle.std.specs.Prelude.{◌≡◌, ℕ, true, false, Some, None, Result, IfErr, OnOk}
use Rattle.take_core.specs.declared.commit_phase.CommitPhase.TheVariants as phase
use Rattle.take_core.specs.declared.event.Event.TheVariants as event
use Rattle.take_core.specs.declared.mark.Mark.{Mark}
use Rattle.take_core.specs.declared.snapshot.Phase.TheVariants.{Growing}
use Rattle.take_disk.specs.Tickets.{IsNamed}
use Rattle.take_disk.specs.declared.ticket.Ticket.{Ticket}
use Rattle.commit_phases.specs.Phases.{IsOut, settled}
use Rattle.take_state.specs.Causes.{IsFault}
use Rattle.take_state.specs.Events.{IsEvent, IsNoEvent}
use Rattle.take_state.specs.Seen.{TakeSeen, published, acked, phase_of}
use Rattle.take_script.specs.declared.step.Step.{Step}
use Rattle.take_script.specs.declared.step.Step.TheVariants.{Nothing, MarkOut, TicketOut, Unnamed, Settled, NoteOut, GateOut, Acked, TailOut, Closed}
use Rattle.take_script.specs.declared.step.StepFault.{StepFault}
use Rattle.take_script.specs.declared.step.StepFault.TheVariants.{Disk, Barrier}

-- the event of the take that a step was, or none
abbrev pub IsStep : {D : Type 0} → TakeSeen D → TakeSeen D → Step → Type 0
IsStep old new Nothing = new ≡ old
IsStep old new (MarkOut mark) = IsEvent event.BeginCommit old new × (new.commit ≡ phase.MarkOut mark)
IsStep old new (TicketOut ticket) = IsOut old.commit × (old.out ≡ None) × IsNoEvent old new × (new.commit ≡ old.commit) × (new.out ≡ Some ticket)
IsStep old new Unnamed = (new ≡ old) × (ticket : Ticket) × (old.out ≡ Some ticket) × ¬ IsNamed ticket
IsStep old new (Settled commit) = IsOut old.commit × IsNoEvent old new × (commit ≡ settled old.commit) × (new.commit ≡ commit) × (new.out ≡ None)
IsStep old new NoteOut = IsEvent event.NoteRecord old new × (mark : Mark) × (new.commit ≡ phase.NoteOut mark) × (new.out ≡ None)
IsStep old new GateOut = IsEvent event.OpenGate old new × (mark : Mark) × (new.commit ≡ phase.GateOut mark) × (new.out ≡ None)
IsStep old new (Acked count) = IsEvent event.Acknowledge old new × (count ≡ acked new)
IsStep old new (TailOut mark) = IsEvent event.WriteTail old new × (new.commit ≡ phase.MarkOut mark)
IsStep old new Closed = IsEvent event.Finish old new

-- the count of faults with which a step stops the take
abbrev pub faults_of : StepFault → ℕ
faults_of (Disk faults) = faults
faults_of (Barrier faults) = faults

-- the step failed, which is the event that stops the take
abbrev pub IsStopped : {D : Type 0} → TakeSeen D → TakeSeen D → StepFault → Type 0
IsStopped old new fault = IsEvent (event.Stop (faults_of fault)) old new

-- a take that goes on has no commit on its way, and all its frames are durable
abbrev pub IsCommitted : {D : Type 0} → TakeSeen D → Type 0
IsCommitted seen = phase_of seen ≡ Growing → (seen.commit ≡ phase.Idle) × (acked seen ≡ published seen)

-- a take that goes on is so, and its tail is written
abbrev pub IsOver : {D : Type 0} → TakeSeen D → Type 0
IsOver seen = IsCommitted seen × (phase_of seen ≡ Growing → seen.tail ≡ true)

-- the tail of a take may be written
pub record MayEnd {D : Type 0} (seen : TakeSeen D) : Type 0 where
  pub growing : phase_of seen ≡ Growing
  pub idle : seen.commit ≡ phase.Idle
  pub level : acked seen ≡ published seen
  pub no_tail : seen.tail ≡ false

-- a fault is the count of the disk or of the barrier, which rose; the other count stays
abbrev pub IsStepCause : ℕ → ℕ → ℕ → ℕ → StepFault → Type 0
IsStepCause disk disk_now barrier barrier_now (Disk faults) = IsFault disk disk_now faults × (barrier_now ≡ barrier)
IsStepCause disk disk_now barrier barrier_now (Barrier faults) = IsFault barrier barrier_now faults × (disk_now ≡ disk)

-- a fault has its cause, and a success leaves both counts
pub record HasStepCause {T : Type 0} (disk disk_now barrier barrier_now : ℕ) (result : Result T StepFault) : Type 0 where
  pub failed : IfErr result (IsStepCause disk disk_now barrier barrier_now)
  pub kept : OnOk result ((disk_now ≡ disk) × (barrier_now ≡ barrier))

-- The phase of a commit as the events of a take see it (own). docs/ARCHITECTURE.md, "The events of a take".
use Rattle.take_core.specs.declared.commit_phase.CommitPhase.{CommitPhase}
use Rattle.take_core.specs.declared.commit_phase.CommitPhase.TheVariants as commit
use Rattle.take_core.specs.declared.commit_phase.CorePhase.{CorePhase}
use Rattle.take_core.specs.declared.commit_phase.CorePhase.TheVariants as known
use Rattle.take_core.specs.Marks.{core_mark}

-- what is on its way stands for what it will be
abbrev pub core_phase : CommitPhase → CorePhase
core_phase commit.Idle = known.Idle
core_phase (commit.MarkOut mark) = known.Marked (core_mark mark)
core_phase (commit.Marked mark) = known.Marked (core_mark mark)
core_phase (commit.NoteOut mark) = known.Noted (core_mark mark)
core_phase (commit.Noted mark) = known.Noted (core_mark mark)
core_phase (commit.GateOut mark) = known.Opened (core_mark mark)
core_phase (commit.Opened mark) = known.Opened (core_mark mark)

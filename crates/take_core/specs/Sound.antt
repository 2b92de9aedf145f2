-- What every state of a run keeps (own). docs/ARCHITECTURE.md, "The events of a take".
use Rattle.std.specs.Prelude.{◌≡◌, ◌≤◌, ◌<◌, true, false, Option, Some, None}
use Rattle.take_core.specs.History.{IsLegal}
use Rattle.take_core.specs.States.{CoreState, published, acked}
use Rattle.take_core.specs.declared.commit_phase.CorePhase.{CorePhase}
use Rattle.take_core.specs.declared.commit_phase.CorePhase.TheVariants.{Idle, Marked, Noted, Opened}
use Rattle.take_core.specs.declared.mark.CoreMark.{CoreMark}

-- the mark of the commit that is on its way
abbrev pub mark_in : CorePhase → Option CoreMark
mark_in Idle = None
mark_in (Marked mark) = Some mark
mark_in (Noted mark) = Some mark
mark_in (Opened mark) = Some mark

-- the history is legal; an open mark is of published frames, of which not all are durable; a closed one stands behind the
-- tail; and the tail behind all frames, once they are durable
pub record IsSound (s : CoreState) : Type 0 where
  pub legal : IsLegal s.lag s.max_frames s.history
  pub open_mark : (mark : CoreMark) → mark_in s.commit ≡ Some mark → mark.closed ≡ false
      → (acked s < mark.count) × (mark.count ≤ published s)
  pub closed_mark : (mark : CoreMark) → mark_in s.commit ≡ Some mark → mark.closed ≡ true → s.tail ≡ true
  pub level : s.tail ≡ true → acked s ≡ published s

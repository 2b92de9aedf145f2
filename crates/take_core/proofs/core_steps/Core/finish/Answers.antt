use Rattle.std.proofs.Common.{◌≡◌, refl, sym, ap, ◌∙◌}
use Rattle.take_core.specs.Kept.{Kept}
use Rattle.take_core.specs.declared.commit_phase.CorePhase.TheVariants.{Idle}
use Rattle.take_core.specs.declared.entry.Entry.TheVariants as entry
use Rattle.take_core.specs.declared.event.Event.TheVariants.{Finish}
use Rattle.take_core.specs.declared.snapshot.Phase.TheVariants as phase
use Rattle.take_core.specs.declared.snapshot.Snapshot.{Snapshot}
use Rattle.take_core.proofs.HistoryLemmas.{latest-parts}
use Rattle.take_core.proofs.KeepingLemmas.{room-left, keep-entry}
use Rattle.take_core.proofs.core_steps.Core.finish.Goals as goal

pub add-requires : goal.add-requires
add-requires c =
    let inside = c.self.inside in
    let kept : Kept = record {
      max_frames = inside.max_frames;
      lag = inside.lag;
      flags = inside.flags;
      commit = inside.commit;
      tail = inside.tail;
      history = inside.history.entries;
      room = inside.history.room;
    } in
    let grows : c.latest-phase.result.phase ≡ phase.Growing = c.is_growing.ensures.0 c.if-is_growing.true in
    let same = ap (λ (seen : Snapshot). seen.phase) (c.latest-phase.ensures ∙ latest-parts inside.history.entries) in
    room-left kept c.self.invariant (sym same ∙ grows)

pub invariant_of-self : goal.invariant_of-self
invariant_of-self c =
    let inside = c.self.inside in
    let kept : Kept = record {
      max_frames = inside.max_frames;
      lag = inside.lag;
      flags = inside.flags;
      commit = inside.commit;
      tail = inside.tail;
      history = inside.history.entries;
      room = inside.history.room;
    } in
    let grows : c.latest-phase.result.phase ≡ phase.Growing = c.is_growing.ensures.0 c.if-is_growing.true in
    let same = ap (λ (seen : Snapshot). seen.phase) (c.latest-phase.ensures ∙ latest-parts inside.history.entries) in
    keep-entry kept Idle entry.Closed Finish c.add.new.self c.self.invariant refl (record {
      mark = c.in-Opened.mark;
      growing = sym same ∙ grows;
      opened = c.in-Opened.is;
      closed = c.if-mark.true;
      effect = refl;
    }) c.add.ensures

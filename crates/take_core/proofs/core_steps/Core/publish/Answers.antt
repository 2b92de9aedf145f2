use Rattle.std.proofs.Common.{◌≡◌, ℕ, inl, refl, sym, ap, ◌∙◌, subst, arith, rules}
use Rattle.take_core.specs.Kept.{Kept, state_of}
use Rattle.take_core.specs.Steps.{Steps}
use Rattle.take_core.specs.declared.event.Answer.TheVariants.{Done}
use Rattle.take_core.specs.declared.event.Event.TheVariants.{Publish}
use Rattle.take_core.specs.declared.snapshot.Phase.TheVariants as phase
use Rattle.take_core.specs.declared.snapshot.Snapshot.{Snapshot}
use Rattle.take_core.specs.inner.Flags.{Cleared}
use Rattle.take_core.proofs.HistoryLemmas.{latest-parts}
use Rattle.take_core.proofs.KeepingLemmas.{room-left}
use Rattle.take_core.proofs.RowLemmas.{MayPublish, may-publish, publishes, keep-publish}
use Rattle.take_core.proofs.core_steps.Core.publish.Goals as goal

pub add-requires : goal.add-requires
add-requires c =
    let inside = c.self.inside in
    let kept : Kept = record {
      max_frames = inside.max_frames;
      lag = inside.lag;
      flags = inside.flags;
      commit = inside.commit;
      tail = inside.tail;
      history = inside.history.entries;
      room = inside.history.room;
    } in
    let grows : c.latest-seen.result.phase ≡ phase.Growing = search rules in
    let same = ap (λ (seen : Snapshot). seen.phase) (c.latest-seen.ensures ∙ latest-parts inside.history.entries) in
    room-left kept c.self.invariant (sym same ∙ grows)

pub invariant_of-self : goal.invariant_of-self
invariant_of-self c =
    let inside = c.self.inside in
    let kept : Kept = record {
      max_frames = inside.max_frames;
      lag = inside.lag;
      flags = inside.flags;
      commit = inside.commit;
      tail = inside.tail;
      history = inside.history.entries;
      room = inside.history.room;
    } in
    let seen = c.latest-seen.ensures ∙ latest-parts inside.history.entries in
    let may : MayPublish kept c.args.len = may-publish kept c.args.len c.latest-seen.result c.from.result c.from-2.result seen
    (search rules) c.if-self.false c.if-seen-from.false c.from.ensures c.if-seen-from-2.false c.from-2.ensures
    (c.is_whole.ensures.0 (search rules)) (omega (arith, c.if-len-eq0.false)) c.if-len-gt-MAX_UNIT.false in
    let cleared = subst (λ (n : ℕ). Cleared n inside.flags.slices inside.flags.marks c.forget.new.self.marks)
    (ap (λ (s : Snapshot). s.published) seen) c.forget.ensures.cleared in
    keep-publish kept c.args.len c.forget.new.self c.add.new.self c.self.invariant may c.forget.ensures.slices cleared c.add.ensures

pub returns : goal.returns
returns c =
    let inside = c.self.inside in
    let kept : Kept = record {
      max_frames = inside.max_frames;
      lag = inside.lag;
      flags = inside.flags;
      commit = inside.commit;
      tail = inside.tail;
      history = inside.history.entries;
      room = inside.history.room;
    } in
    let seen = c.latest-seen.ensures ∙ latest-parts inside.history.entries in
    let may : MayPublish kept c.args.len = may-publish kept c.args.len c.latest-seen.result c.from.result c.from-2.result seen
    (search rules) c.if-self.false c.if-seen-from.false c.from.ensures c.if-seen-from-2.false c.from-2.ensures
    (c.is_whole.ensures.0 (search rules)) (omega (arith, c.if-len-eq0.false)) c.if-len-gt-MAX_UNIT.false in
    let cleared = subst (λ (n : ℕ). Cleared n inside.flags.slices inside.flags.marks c.forget.new.self.marks)
    (ap (λ (s : Snapshot). s.published) seen) c.forget.ensures.cleared in
    let does = publishes kept c.args.len c.forget.new.self c.add.new.self may c.forget.ensures.slices cleared c.add.ensures in
    subst (λ (k : Kept). Steps (state_of k) (Publish c.args.len) Done
    (state_of (record kept { flags = c.forget.new.self; history = c.add.new.self.entries; room = c.add.new.self.room }))) c.self.view_is
    (inl (record { does = does; told = refl }))

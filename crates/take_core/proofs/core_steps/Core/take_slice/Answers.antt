use Rattle.std.proofs.Common.{inl, refl, sym, ap, ◌∙◌, subst, arith}
use Rattle.take_core.specs.History.{published_in}
use Rattle.take_core.specs.Kept.{Kept, state_of}
use Rattle.take_core.specs.Steps.{Steps}
use Rattle.take_core.specs.declared.event.Answer.TheVariants.{Done}
use Rattle.take_core.specs.declared.event.Event.TheVariants.{SliceIn}
use Rattle.take_core.specs.declared.snapshot.Snapshot.{Snapshot}
use Rattle.take_core.proofs.FlagLemmas.{names-yes}
use Rattle.take_core.proofs.HistoryLemmas.{latest-parts}
use Rattle.take_core.proofs.RowLemmas.{takes-slice}
use Rattle.take_core.proofs.core_steps.Core.take_slice.Goals as goal

pub returns : goal.returns
returns c =
    let inside = c.self.inside in
    let kept : Kept = record {
      max_frames = inside.max_frames;
      lag = inside.lag;
      flags = inside.flags;
      commit = inside.commit;
      tail = inside.tail;
      history = inside.history.entries;
      room = inside.history.room;
    } in
    let lowest = ap (λ (seen : Snapshot). seen.published) (c.latest-lowest.ensures ∙ latest-parts inside.history.entries) in
    let above = c.if-frame-lowest.false in
    let near = c.if-frame-lowest-ge-FLIGHT.false in
    let few = c.if-index-slices.false in
    let slices = c.slices.ensures in
    let named = names-yes (published_in inside.history.entries) inside.flags.slices c.args.frame c.args.index
    (omega arith) (omega arith) (omega arith) in
    let does = takes-slice kept c.args.frame c.args.index c.set.new.self named (sym c.has.ensures ∙ c.if-has.false) c.set.ensures.fits c.set.ensures.set in
    subst (λ (k : Kept). Steps (state_of k) (SliceIn c.args.frame c.args.index) Done (state_of (record kept { flags = c.set.new.self }))) c.self.view_is
    (inl (record { does = does; told = refl }))

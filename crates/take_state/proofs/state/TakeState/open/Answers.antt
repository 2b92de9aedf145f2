use Rattle.std.proofs.Common.{◌≡◌, ◌*◌, ◌+◌, ◌++◌, ◌≤◌, ℕ, List, [], length, take, drop, false, None, refl, sym, ap, subst, ◌∙◌, arith, length-append}
use Rattle.std.proofs.lemmas.List.{length-take, length-drop}
use Rattle.rec_bytes.specs.Configuration.{Fields}
use Rattle.rec_bytes.specs.Views.{view}
use Rattle.take_core.specs.Recorded.{Recorded}
use Rattle.take_layout.specs.Growing.{Growing}
use Rattle.commit_phases.specs.laws.Told.{on_ok}
use Rattle.take_state.specs.inner.Keeping.{HasRoom, KeepsTake}
use Rattle.take_state.proofs.StartLemmas.{kept_fresh}
use Rattle.take_state.proofs.state.TakeState.open.Goals as goal

pub invariant_of-result : goal.invariant_of-result
invariant_of-result g c =
    let e = c.in-Ok.ensures in
    let buffer = c.in-Ok.memory.buffer in
    let b = c.begin_areas.new.buffer in
    let long : length (take buffer.len (b ++ drop (length b) buffer.items)) ≡ length buffer.items =
    omega (
      arith,
      length-take buffer.len (b ++ drop (length b) buffer.items),
      length-append b (drop (length b) buffer.items),
      length-drop (length b) buffer.items,
      c.begin_areas.auto.buffer,
      c.as_mut_slice.ensures.len,
      ap (length {A = ℕ}) c.as_mut_slice.ensures.value,
    ) in
    kept_fresh g.L.TakeLayout g.D.TakeDisk g.U.TakeUnits.units (view c.args.cfg.now)
    (record {
      lays_out = c.lays_out.ensures;
      all_are = c.requires.units;
      counted = c.units_lie.ensures.counted;
      numbered = c.units_lie.ensures.numbered;
      stays = c.states_stay_sound.ensures.kept;
      fits = c.histories_fit.ensures;
    })
    c.ranges-2.ensures (g.met.L.TakeLayout.no_places (view c.args.cfg.now)) (c.states_stay_sound.ensures.begun (view c.args.cfg.now))
    c.begin_areas.new.disk c.in-Ok.memory.file c.in-Ok.memory.history _ e.file.0 e.file.1 e.places e.history
    (subst (λ (n : ℕ). HasRoom g.L.TakeLayout (view c.args.cfg.now) n) (sym long) e.buffer)
    (on_ok c.begin_areas.result _ c.begin_areas.ensures.begun (sym c.is_err.ensures.value ∙ c.if-is_err.false))

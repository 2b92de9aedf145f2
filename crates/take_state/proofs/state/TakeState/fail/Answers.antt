use Rattle.std.proofs.Common.{◌≡◌, Some, [], ◌∷◌, ◌++◌, sym, ap, subst, arith, refl}
use Rattle.take_core.specs.History.{published_in}
use Rattle.take_core.specs.Recorded.{Recorded}
use Rattle.take_core.specs.declared.entry.Entry.TheVariants as entry
use Rattle.take_core.specs.declared.snapshot.Phase.TheVariants as phase
use Rattle.take_state.specs.Seen.{TakeSeen, phase_of}
use Rattle.take_state.specs.inner.Keeping.{seen_of}
use Rattle.take_state.proofs.CrashLemmas.{silent}
use Rattle.take_state.proofs.HistoryLemmas.{published-push}
use Rattle.take_state.proofs.TakeLemmas.{few_entries, parts_of, stops}
use Rattle.take_state.proofs.state.TakeState.fail.Goals as goal

pub add-requires : goal.add-requires
add-requires g c =
    let p = parts_of c.self.inside in
    let k = c.self.invariant in
    let grows = subst (λ (v : TakeSeen g.row.D.Denot). phase_of v ≡ phase.Growing) (sym c.self.view_is) c.requires.growing in
    let few = few_entries g.L.TakeLayout k.laws (seen_of p) k.stands.sound grows in
    omega (arith, few, k.rooms.entries)

pub invariant_of-self : goal.invariant_of-self
invariant_of-self g c =
    let p = parts_of c.self.inside in
    let k = c.self.invariant in
    let grows = subst (λ (v : TakeSeen g.row.D.Denot). phase_of v ≡ phase.Growing) (sym c.self.view_is) c.requires.growing in
    stops g.L.TakeLayout g.D.TakeDisk g.U.TakeUnits.units p p.disk c.add.new.self (Some c.args.faults) c.args.faults k grows c.requires.some c.add.ensures refl
    k.stands.reaches k.stands.begins k.stands.safe

pub returns-clause-crash : goal.returns-clause-crash
returns-clause-crash g c =
    let p = parts_of c.self.inside in
    let k = c.self.invariant in
    let same = published-push p.history.entries (entry.Stopped c.args.faults) in
    let new : TakeSeen g.row.D.Denot = record (seen_of p) { history = c.add.new.self.entries } in
    silent g.L.TakeLayout g.D.TakeDisk g.U.TakeUnits.units g.met.D.TakeDisk.crash (seen_of p) c.args.self.now new k.units c.self.view_is k.stands
    (omega (arith, same, ap (λ (h : Recorded). published_in h.entries) c.add.ensures)) refl

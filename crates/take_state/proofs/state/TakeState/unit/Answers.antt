use Rattle.std.proofs.Common.{◌≡◌, ◌<◌, ◌≤◌, ◌++◌, ℕ, List, length, map, slice_get, Some, refl, sym, ap, subst, ◌∙◌, arith, []}
use Rattle.std.proofs.lemmas.Option.{same_Some}
use Rattle.take_disk.specs.Calls.{IfTold}
use Rattle.take_layout.specs.declared.place.Place.{Place}
use Rattle.commit_phases.specs.laws.Told.{on_ok, same_told, unchanged}
use Rattle.take_state.specs.Seen.{TakeSeen, acked, lengths_in, published}
use Rattle.take_state.specs.inner.Keeping.{seen_of}
use Rattle.take_state.proofs.CrashLemmas.{crashes, passes_safe, shown}
use Rattle.take_state.proofs.ReadLemmas.{is_read, length_told, lies, reads_on}
use Rattle.take_state.proofs.TakeLemmas.{parts_of}
use Rattle.take_state.proofs.state.TakeState.unit.Goals as goal

pub bounds-places-i : goal.bounds-places-i
bounds-places-i g c =
    let k = c.self.invariant in
    let before = subst (λ (s : TakeSeen g.row.D.Denot). c.args.i < published s) (sym c.self.view_is) c.requires.published in
    omega (
      arith,
      before,
      k.stands.counted,
      c.units_lie.ensures.counted c.self.inside.file.config k.units,
      ap (length {A = Place}) k.lie,
      ap (length {A = Place}) c.places.ensures.places,
    )

pub read-requires : goal.read-requires
read-requires g c =
    let k = c.self.invariant in
    let before = subst (λ (s : TakeSeen g.row.D.Denot). c.args.i < published s) (sym c.self.view_is) c.requires.published in
    let l : c.args.i < length k.units = omega (arith, before, k.stands.counted) in
    let at = lies g.L.TakeLayout c.units_lie.ensures.counted c.units_lie.ensures.numbered c.self.inside.file.config k.units c.places.result.now c.args.i
    (c.places.ensures.places ∙ k.lie) l in
    let told = subst (λ (s : TakeSeen g.row.D.Denot). lengths_in s.history ≡ map (length {A = ℕ}) k.units) c.self.view_is k.stands.lengths in
    let long = same_Some _ _ (c.requires.len ∙ length_told k.units _ c.args.i told l) in
    record { inside = omega (arith, at.inside, at.long, long, k.stands.reaches) }

pub invariant_of-self : goal.invariant_of-self
invariant_of-self g c =
    reads_on g.L.TakeLayout g.D.TakeDisk g.U.TakeUnits.units (parts_of c.self.inside) c.read.new.self c.self.invariant c.read.ensures.unchanged c.read.ensures.time.tickets

pub returns-then-is_err-clause-crash : goal.returns-then-is_err-clause-crash
returns-then-is_err-clause-crash g c =
    let k = c.self.invariant in
    let s = seen_of (parts_of c.self.inside) in
    let stays = c.read.ensures.unchanged in
    let safe = same_told (g.D.TakeDisk.told s.disk) (g.D.TakeDisk.told c.read.new.self) _ stays.same k.stands.safe in
    shown g.L.TakeLayout g.D.TakeDisk g.U.TakeUnits.units s c.args.self.now (record s { disk = c.read.new.self }) c.self.view_is
    (crashes g.L.TakeLayout g.D.TakeDisk g.met.D.TakeDisk.crash (g.U.TakeUnits.units s.config) s (record s { disk = c.read.new.self }) k.units k.stands
    (omega arith)
    (passes_safe g.L.TakeLayout g.D.TakeDisk g.met.D.TakeDisk.crash s.config k.units (acked s) _ s.disk c.read.new.self
    (unchanged (g.D.TakeDisk.told s.disk) (g.D.TakeDisk.told c.read.new.self) stays.same) c.read.ensures.time safe))

pub invariant_of-self-2 : goal.invariant_of-self-2
invariant_of-self-2 g c =
    reads_on g.L.TakeLayout g.D.TakeDisk g.U.TakeUnits.units (parts_of c.self.inside) c.read.new.self c.self.invariant c.read.ensures.unchanged c.read.ensures.time.tickets

pub returns-clause-read : goal.returns-clause-read
returns-clause-read g c =
    let k = c.self.invariant in
    let s = seen_of (parts_of c.self.inside) in
    let before = subst (λ (v : TakeSeen g.row.D.Denot). c.args.i < published v) (sym c.self.view_is) c.requires.published in
    let l : c.args.i < length k.units = omega (arith, before, k.stands.counted) in
    let at = lies g.L.TakeLayout c.units_lie.ensures.counted c.units_lie.ensures.numbered c.self.inside.file.config k.units c.places.result.now c.args.i
    (c.places.ensures.places ∙ k.lie) l in
    let told = subst (λ (v : TakeSeen g.row.D.Denot). lengths_in v.history ≡ map (length {A = ℕ}) k.units) c.self.view_is k.stands.lengths in
    let long : length c.args.out.now ≡ _ = same_Some _ _ (c.requires.len ∙ length_told k.units _ c.args.i told l) in
    let read = on_ok c.read.result _ c.read.ensures.read (sym c.is_err.ensures.value ∙ c.if-is_err.false) in
    subst (λ (v : TakeSeen g.row.D.Denot). IfTold (g.U.TakeUnits.units v.config) (λ all. IfTold (g.D.TakeDisk.told v.disk) (λ disk.
    slice_get all c.args.i ≡ Some c.read.new.out))) c.self.view_is
    (is_read (g.U.TakeUnits.units s.config) (g.D.TakeDisk.told s.disk) s.config g.L.TakeLayout k.units c.args.i (length c.args.out.now)
    c.read.new.out _ at (long ∙ sym at.long) l k.stands.first k.stands.begins read)

pub returns-clause-crash : goal.returns-clause-crash
returns-clause-crash g c =
    let k = c.self.invariant in
    let s = seen_of (parts_of c.self.inside) in
    let stays = c.read.ensures.unchanged in
    let safe = same_told (g.D.TakeDisk.told s.disk) (g.D.TakeDisk.told c.read.new.self) _ stays.same k.stands.safe in
    shown g.L.TakeLayout g.D.TakeDisk g.U.TakeUnits.units s c.args.self.now (record s { disk = c.read.new.self }) c.self.view_is
    (crashes g.L.TakeLayout g.D.TakeDisk g.met.D.TakeDisk.crash (g.U.TakeUnits.units s.config) s (record s { disk = c.read.new.self }) k.units k.stands
    (omega arith)
    (passes_safe g.L.TakeLayout g.D.TakeDisk g.met.D.TakeDisk.crash s.config k.units (acked s) _ s.disk c.read.new.self
    (unchanged (g.D.TakeDisk.told s.disk) (g.D.TakeDisk.told c.read.new.self) stays.same) c.read.ensures.time safe))

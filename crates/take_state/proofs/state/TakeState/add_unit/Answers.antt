use Rattle.std.proofs.Common.{◌≡◌, ◌∙◌, ◌+◌, ◌<◌, ◌∷◌, ◌++◌, [], ℕ, Bool, List, None, Ok, true, false, length, refl, sym, ap, subst, arith, rules}
use Rattle.std.proofs.lemmas.Bool.{true≢false}
use Rattle.take_core.specs.History.{published_in}
use Rattle.take_core.specs.Recorded.{Recorded}
use Rattle.take_core.specs.declared.entry.Entry.TheVariants as entry
use Rattle.take_core.specs.declared.snapshot.Phase.TheVariants as phase
use Rattle.take_disk.specs.declared.area.Area.TheVariants.{Essence}
use Rattle.take_layout.specs.declared.place.Place.{Place}
use Rattle.take_state.specs.Events.{PublishesFrame, Stops}
use Rattle.take_state.specs.Refusals.{publish_refusal}
use Rattle.take_state.specs.Seen.{TakeSeen, acked, phase_of, published}
use Rattle.take_state.specs.Stands.{IsNumbered}
use Rattle.take_state.specs.inner.Keeping.{KeepsTake, seen_of}
use Rattle.take_state.proofs.CommitLemmas.{behind_safe, behind_stop}
use Rattle.take_state.proofs.CrashLemmas.{called, writes_safe}
use Rattle.take_state.proofs.EventLemmas.{publishes_shown, stops_shown}
use Rattle.take_state.proofs.HistoryLemmas.{published-push}
use Rattle.take_state.proofs.PublishLemmas.{MayPublish, may_publish, publishes}
use Rattle.take_state.proofs.TakeLemmas.{parts_of, refilled, room_left, same_buffer}
use Rattle.take_state.proofs.WriteLemmas.{some_faults, wrote_ok}
use Rattle.take_state.proofs.state.TakeState.add_unit.Goals as goal

pub write_unit-requires-clause-few : goal.write_unit-requires-clause-few
write_unit-requires-clause-few g c =
    let p = parts_of c.self.inside in
    let k = c.self.invariant in
    let may = may_publish (seen_of p) (λ e. (k.ended e).tail)
    (subst (λ (v : TakeSeen g.row.D.Denot). publish_refusal v (published v) ≡ None) (sym c.self.view_is) c.requires.due) in
    let few : length p.file.places ≡ length k.units = ap (length {A = Place}) k.lie ∙ k.laws.counted p.file.config k.units in
    omega (arith, few, k.stands.counted, may.room)

pub write_unit-requires-clause-small : goal.write_unit-requires-clause-small
write_unit-requires-clause-small g c =
    let p = parts_of c.self.inside in
    let k = c.self.invariant in
    let may = may_publish (seen_of p) (λ e. (k.ended e).tail)
    (subst (λ (v : TakeSeen g.row.D.Denot). publish_refusal v (published v) ≡ None) (sym c.self.view_is) c.requires.due) in
    let few : length p.file.places ≡ length k.units = ap (length {A = Place}) k.lie ∙ k.laws.counted p.file.config k.units in
    omega (arith, c.len-at.ensures.small, few, k.stands.counted, may.room, k.rooms.ranged.max_frames.most)

pub note_stop-requires : goal.note_stop-requires
note_stop-requires g c =
    let p = parts_of c.self.inside in
    let k = c.self.invariant in
    let may = may_publish (seen_of p) (λ e. (k.ended e).tail)
    (subst (λ (v : TakeSeen g.row.D.Denot). publish_refusal v (published v) ≡ None) (sym c.self.view_is) c.requires.due) in
    record { room = room_left g.L.TakeLayout g.D.TakeDisk g.U.TakeUnits.units p k may.growing }

pub invariant_of-self : goal.invariant_of-self
invariant_of-self g c =
    let p = parts_of c.self.inside in
    let k = c.self.invariant in
    let may = may_publish (seen_of p) (λ e. (k.ended e).tail)
    (subst (λ (v : TakeSeen g.row.D.Denot). publish_refusal v (published v) ≡ None) (sym c.self.view_is) c.requires.due) in
    let place = c.len-at.ensures.ends k.units k.lie in
    let wrote = c.write_unit.ensures.wrote k.units k.lie in
    let failed = some_faults _ _ c.write_unit.result c.write_unit.ensures.cause.failed (sym c.is_err.ensures.value ∙ c.if-is_err.true) in
    let done = behind_stop g.L.TakeLayout g.D.TakeDisk g.U.TakeUnits.units p c.write_unit.new.disk c.len-at.result
    (length (g.L.TakeLayout.lead p.file.config k.units (length c.args.unit.now) ++ c.args.unit.now))
    c.note_stop.new.history c.note_stop.new.stop c.faults-faults.result k may.growing (omega (arith, failed, c.faults-faults.ensures)) c.note_stop.ensures.told
    c.note_stop.ensures.stop wrote.lengths.least may.no_tail place wrote.inside in
    same_buffer g.L.TakeLayout g.D.TakeDisk g.U.TakeUnits.units _ _
    (refilled c.self.inside.buffer.len c.self.inside.buffer.items c.write_unit.new.buffer (search rules)) done

pub returns-then-is_err-clause-stopped : goal.returns-then-is_err-clause-stopped
returns-then-is_err-clause-stopped g c =
    let p = parts_of c.self.inside in
    let k = c.self.invariant in
    let may = may_publish (seen_of p) (λ e. (k.ended e).tail)
    (subst (λ (v : TakeSeen g.row.D.Denot). publish_refusal v (published v) ≡ None) (sym c.self.view_is) c.requires.due) in
    let failed = some_faults _ _ c.write_unit.result c.write_unit.ensures.cause.failed (sym c.is_err.ensures.value ∙ c.if-is_err.true) in
    stops_shown (seen_of p) c.args.self.now c.write_unit.new.disk c.note_stop.new.history.entries c.faults-faults.result c.note_stop.result c.self.view_is may.growing
    (omega (arith, failed, c.faults-faults.ensures)) c.note_stop.ensures.fault (ap (λ (h : Recorded). h.entries) c.note_stop.ensures.told)

pub returns-then-is_err-clause-crash : goal.returns-then-is_err-clause-crash
returns-then-is_err-clause-crash g c =
    let p = parts_of c.self.inside in
    let k = c.self.invariant in
    let may = may_publish (seen_of p) (λ e. (k.ended e).tail)
    (subst (λ (v : TakeSeen g.row.D.Denot). publish_refusal v (published v) ≡ None) (sym c.self.view_is) c.requires.due) in
    let count : ℕ = length (g.L.TakeLayout.lead p.file.config k.units (length c.args.unit.now) ++ c.args.unit.now) in
    let same = published-push p.history.entries (entry.Stopped c.faults-faults.result) in
    let more : published_in c.note_stop.new.history.entries ≡ published_in (p.history.entries ++ entry.Stopped c.faults-faults.result ∷ []) =
    ap (λ (h : Recorded). published_in h.entries) c.note_stop.ensures.told in
    called g.L.TakeLayout g.D.TakeDisk g.U.TakeUnits.units g.met.D.TakeDisk.crash (seen_of p) c.args.self.now
    (record (seen_of p) { disk = c.write_unit.new.disk; history = c.note_stop.new.history.entries }) k.units c.self.view_is k.stands (omega (arith, same, more))
    (writes_safe g.L.TakeLayout g.D.TakeDisk p.file.config k.units (acked (seen_of p)) Essence c.len-at.result count p.disk c.write_unit.new.disk
    (c.write_unit.ensures.wrote k.units k.lie).inside
    (behind_safe g.L.TakeLayout g.D.TakeDisk g.U.TakeUnits.units p c.len-at.result count k may.growing may.no_tail (c.len-at.ensures.ends k.units k.lie)))

pub add_reserved-requires-clause-few : goal.add_reserved-requires-clause-few
add_reserved-requires-clause-few g c =
    let p = parts_of c.self.inside in
    let k = c.self.invariant in
    let may = may_publish (seen_of p) (λ e. (k.ended e).tail)
    (subst (λ (v : TakeSeen g.row.D.Denot). publish_refusal v (published v) ≡ None) (sym c.self.view_is) c.requires.due) in
    let few : length p.file.places ≡ length k.units = ap (length {A = Place}) k.lie ∙ k.laws.counted p.file.config k.units in
    omega (arith, few, k.stands.counted, may.room)

pub add_reserved-requires-clause-room : goal.add_reserved-requires-clause-room
add_reserved-requires-clause-room g c =
    let p = parts_of c.self.inside in
    let k = c.self.invariant in
    let may = may_publish (seen_of p) (λ e. (k.ended e).tail)
    (subst (λ (v : TakeSeen g.row.D.Denot). publish_refusal v (published v) ≡ None) (sym c.self.view_is) c.requires.due) in
    let few : length p.file.places ≡ length k.units = ap (length {A = Place}) k.lie ∙ k.laws.counted p.file.config k.units in
    omega (arith, few, k.stands.counted, may.room, k.rooms.places)

pub add-requires : goal.add-requires
add-requires g c =
    let p = parts_of c.self.inside in
    let k = c.self.invariant in
    let may = may_publish (seen_of p) (λ e. (k.ended e).tail)
    (subst (λ (v : TakeSeen g.row.D.Denot). publish_refusal v (published v) ≡ None) (sym c.self.view_is) c.requires.due) in
    room_left g.L.TakeLayout g.D.TakeDisk g.U.TakeUnits.units p k may.growing

pub invariant_of-self-2 : goal.invariant_of-self-2
invariant_of-self-2 g c =
    let p = parts_of c.self.inside in
    let k = c.self.invariant in
    let may = may_publish (seen_of p) (λ e. (k.ended e).tail)
    (subst (λ (v : TakeSeen g.row.D.Denot). publish_refusal v (published v) ≡ None) (sym c.self.view_is) c.requires.due) in
    let numbered = subst (λ (v : TakeSeen g.row.D.Denot). IsNumbered (g.U.TakeUnits.units v.config) (published v) c.args.unit.now) (sym c.self.view_is) c.requires.named in
    let whole = subst (λ (b : Bool). KeepsTake g.L.TakeLayout g.D.TakeDisk g.U.TakeUnits.units (record p { tail = b })) may.no_tail k in
    let may_still = subst (λ (b : Bool). MayPublish (seen_of (record p { tail = b }))) may.no_tail may in
    let place = c.len-at.ensures.ends whole.units whole.lie in
    let unit : List ℕ = c.args.unit.now in
    let wrote = wrote_ok g.D.TakeDisk Essence c.len-at.result _ p.disk c.write_unit.new.disk c.write_unit.result (c.write_unit.ensures.wrote whole.units whole.lie)
    (sym c.is_err.ensures.value ∙ c.if-is_err.false) in
    let done = publishes g.L.TakeLayout g.D.TakeDisk g.U.TakeUnits.units p c.write_unit.new.disk c.add_reserved.new.self c.add.new.self unit c.len-at.result tt
    whole may_still c.requires.sized numbered place wrote c.add_reserved.ensures.config (c.add_reserved.ensures.placed whole.units unit whole.lie refl)
    c.add_reserved.ensures.room c.add.ensures in
    let back = subst (λ (b : Bool). KeepsTake g.L.TakeLayout g.D.TakeDisk g.U.TakeUnits.units
    (record p { disk = c.write_unit.new.disk; file = c.add_reserved.new.self; history = c.add.new.self; tail = b })) (sym may.no_tail) done in
    same_buffer g.L.TakeLayout g.D.TakeDisk g.U.TakeUnits.units _ _
    (refilled c.self.inside.buffer.len c.self.inside.buffer.items c.write_unit.new.buffer (search rules)) back

pub returns-clause-published : goal.returns-clause-published
returns-clause-published g c =
    let p = parts_of c.self.inside in
    let k = c.self.invariant in
    let may = may_publish (seen_of p) (λ e. (k.ended e).tail)
    (subst (λ (v : TakeSeen g.row.D.Denot). publish_refusal v (published v) ≡ None) (sym c.self.view_is) c.requires.due) in
    publishes_shown (seen_of p) c.args.self.now c.add_reserved.new.self.config c.write_unit.new.disk c.add.new.self.entries (length c.args.unit.now) c.latest.result
    c.self.view_is may.growing may.no_tail may.room may.near c.requires.sized.some c.requires.sized.most c.add_reserved.ensures.config
    (ap (λ (h : Recorded). h.entries) c.add.ensures) c.latest.ensures

pub returns-clause-crash : goal.returns-clause-crash
returns-clause-crash g c =
    let p = parts_of c.self.inside in
    let k = c.self.invariant in
    let may = may_publish (seen_of p) (λ e. (k.ended e).tail)
    (subst (λ (v : TakeSeen g.row.D.Denot). publish_refusal v (published v) ≡ None) (sym c.self.view_is) c.requires.due) in
    let count : ℕ = length (g.L.TakeLayout.lead p.file.config k.units (length c.args.unit.now) ++ c.args.unit.now) in
    let len : ℕ = length c.args.unit.now in
    let same = published-push p.history.entries (entry.Published len) in
    let more : published_in c.add.new.self.entries ≡ published_in (p.history.entries ++ entry.Published len ∷ []) =
    ap (λ (h : Recorded). published_in h.entries) c.add.ensures in
    let new : TakeSeen g.row.D.Denot = record (seen_of p) { config = c.add_reserved.new.self.config; disk = c.write_unit.new.disk; history = c.add.new.self.entries } in
    called g.L.TakeLayout g.D.TakeDisk g.U.TakeUnits.units g.met.D.TakeDisk.crash (seen_of p) c.args.self.now new k.units c.self.view_is k.stands
    (omega (arith, same, more))
    (writes_safe g.L.TakeLayout g.D.TakeDisk p.file.config k.units (acked (seen_of p)) Essence c.len-at.result count p.disk c.write_unit.new.disk
    (c.write_unit.ensures.wrote k.units k.lie).inside
    (behind_safe g.L.TakeLayout g.D.TakeDisk g.U.TakeUnits.units p c.len-at.result count k may.growing may.no_tail (c.len-at.ensures.ends k.units k.lie)))

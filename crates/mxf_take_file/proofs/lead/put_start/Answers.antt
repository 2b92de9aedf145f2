use Rattle.std.proofs.Common.{rules, ◌≡◌, ℕ, ◌%◌, List, length, refl, sym, ap, ◌∙◌, arith}
use Rattle.rec_bytes.specs.Configuration.{Fields}
use Rattle.rec_bytes.specs.Places.{with_bytes}
use Rattle.rec_bytes.specs.Views.{view}
use Rattle.mxf_take_file.specs.Extents.{Extents}
use Rattle.mxf_take_file.specs.inner.Kept.{extents_kept}
use Rattle.mxf_take_file.specs.laws.Parts.{start_due, start_not_due}
use Rattle.mxf_take_file.proofs.SegmentLemmas.{with_nothing}
use Rattle.mxf_take_file.proofs.lead.put_start.Goals as goal

pub returns-then-places-from-ne0-clause-behind : goal.returns-then-places-from-ne0-clause-behind
returns-then-places-from-ne0-clause-behind c =
    let cfg : Fields = view c.args.cfg.now in
    let e : Extents = extents_kept c.args.places.now in
    let stays : length c.args.places.now % c.args.cfg.now.part ≡ 0 → ⊥ = λ (q : length c.args.places.now % c.args.cfg.now.part ≡ 0). c.if-places-from-ne0.true (ap (λ (k : ℕ). length c.args.places.now % k) c.from.ensures ∙ q) in
    let none = start_not_due cfg e stays in
    rw none refl

pub returns-then-places-from-ne0-clause-written : goal.returns-then-places-from-ne0-clause-written
returns-then-places-from-ne0-clause-written c =
    let cfg : Fields = view c.args.cfg.now in
    let e : Extents = extents_kept c.args.places.now in
    let stays : length c.args.places.now % c.args.cfg.now.part ≡ 0 → ⊥ = λ (q : length c.args.places.now % c.args.cfg.now.part ≡ 0). c.if-places-from-ne0.true (ap (λ (k : ℕ). length c.args.places.now % k) c.from.ensures ∙ q) in
    let none = start_not_due cfg e stays in
    rw none (with_nothing c.args.out.now 0)

pub put_body_start-requires-clause-room : goal.put_body_start-requires-clause-room
put_body_start-requires-clause-room c =
    let cfg : Fields = view c.args.cfg.now in
    let e : Extents = extents_kept c.args.places.now in
    let zero : length c.args.places.now % c.from.result ≡ 0 = search rules in
    let even : length c.args.places.now % c.args.cfg.now.part ≡ 0 = ap (λ (k : ℕ). length c.args.places.now % k) (sym c.from.ensures) ∙ zero in
    let due = start_due cfg e even in
    omega (arith, ap length due, c.requires.room)

pub returns-clause-behind : goal.returns-clause-behind
returns-clause-behind c =
    let cfg : Fields = view c.args.cfg.now in
    let e : Extents = extents_kept c.args.places.now in
    let zero : length c.args.places.now % c.from.result ≡ 0 = search rules in
    let even : length c.args.places.now % c.args.cfg.now.part ≡ 0 = ap (λ (k : ℕ). length c.args.places.now % k) (sym c.from.ensures) ∙ zero in
    let due = start_due cfg e even in
    c.put_body_start.ensures.behind ∙ sym (ap length due)

pub returns-clause-written : goal.returns-clause-written
returns-clause-written c =
    let cfg : Fields = view c.args.cfg.now in
    let e : Extents = extents_kept c.args.places.now in
    let zero : length c.args.places.now % c.from.result ≡ 0 = search rules in
    let even : length c.args.places.now % c.args.cfg.now.part ≡ 0 = ap (λ (k : ℕ). length c.args.places.now % k) (sym c.from.ensures) ∙ zero in
    let due = start_due cfg e even in
    c.put_body_start.ensures.written ∙ ap (λ (bytes : List ℕ). with_bytes c.args.out.now 0 bytes) (sym due)

use Rattle.std.proofs.Common.{rules, ◌≡◌, ℕ, ◌%◌, length, refl, sym, ap, ◌∙◌, arith}
use Rattle.rec_bytes.specs.Configuration.{Fields}
use Rattle.rec_bytes.specs.Views.{view}
use Rattle.mxf_take_file.specs.Extents.{Extents}
use Rattle.mxf_take_file.specs.inner.Kept.{extents_kept}
use Rattle.mxf_take_file.specs.laws.Parts.{start_due, start_not_due}
use Rattle.mxf_take_file.proofs.lead.lead_len.Goals as goal

pub returns-then-places-from-ne0 : goal.returns-then-places-from-ne0
returns-then-places-from-ne0 c =
    let cfg : Fields = view c.args.cfg.now in
    let e : Extents = extents_kept c.args.places.now in
    let stays : length c.args.places.now % c.args.cfg.now.part ≡ 0 → ⊥ = λ (q : length c.args.places.now % c.args.cfg.now.part ≡ 0). c.if-places-from-ne0.true (ap (λ (k : ℕ). length c.args.places.now % k) c.from.ensures ∙ q) in
    let none = start_not_due cfg e stays in
    rw none refl

pub returns : goal.returns
returns c =
    let cfg : Fields = view c.args.cfg.now in
    let e : Extents = extents_kept c.args.places.now in
    let zero : length c.args.places.now % c.from.result ≡ 0 = search rules in
    let even : length c.args.places.now % c.args.cfg.now.part ≡ 0 = ap (λ (k : ℕ). length c.args.places.now % k) (sym c.from.ensures) ∙ zero in
    let due = start_due cfg e even in
    omega (arith, ap length due, c.body_start_len.ensures.size)

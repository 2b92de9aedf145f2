use Rattle.std.proofs.Common.{◌∙◌, ◌≤◌, ◌+◌, ◌*◌, ℤ, w64, subst, sym, lit<}
use Rattle.std.specs.Int.RustNames.{unsigned_abs}
use Rattle.whole_transform.specs.Sums.{at}
use Rattle.whole_transform.specs.declared.basis.TheConstants.{BASIS}
use Rattle.whole_transform.proofs.BasisLemmas.{is_number, number_small}
use Rattle.whole_transform.proofs.WordLemmas.{kept}
use Rattle.whole_transform.proofs.basis.basis_number.Goals as goal

pub returns-clause-value : goal.returns-clause-value
returns-clause-value c =
    let is = is_number c.args.number c.requires.0 c.args.place c.requires.1 in
    let small = subst (λ (z : ℤ). unsigned_abs z ≤ 8035) (sym is) (number_small c.args.number c.requires.0 c.args.place c.requires.1) in
    kept w64 (at BASIS (8 * c.args.number + c.args.place)) 8035 (lit< tt) small ∙ is

pub returns-clause-small : goal.returns-clause-small
returns-clause-small c =
    subst (λ (z : ℤ). unsigned_abs z ≤ 8035) (sym (returns-clause-value c)) (number_small c.args.number c.requires.0 c.args.place c.requires.1)

use Rattle.std.proofs.Common.{rules, ◌≡◌, ◌≤◌, ℕ, ◌∙◌, ap, sym, subst}
use Rattle.std.specs.Int.{div_ceil}
use Rattle.mxf_take_file.specs.Extents.{body_count}
use Rattle.mxf_take_file.specs.laws.Counts.{quotient_few}
use Rattle.mxf_take_file.proofs.packs.body_count.Goals as goal

pub returns-clause-count : goal.returns-clause-count
unfolding body_count
returns-clause-count c = search rules

pub returns-clause-few : goal.returns-clause-few
returns-clause-few c =
    let same : c.div_ceil.result ≡ div_ceil c.args.count c.args.part = c.div_ceil.ensures ∙ ap (λ (k : ℕ). div_ceil c.args.count k) c.from.ensures in
    let few : div_ceil c.args.count c.args.part ≤ c.args.count = quotient_few c.args.part c.args.count c.requires in
    subst (λ (k : ℕ). k ≤ c.args.count) (sym same) few

use Rattle.std.proofs.Common.{◌-◌, length, rules, arith, w16, FitsSigned}
use Rattle.std.specs.Int.RustNames.{unsigned_abs}
use Rattle.std.proofs.lemmas.Int.{to_z-of_z}
use Rattle.slice_parts.proofs.PairLemmas.{pairs_more}
use Rattle.slice_parts.proofs.short_pairs.code_pair.Goals as goal

pub returns-in-Some-clause-read : goal.returns-in-Some-clause-read
returns-in-Some-clause-read c = λ start read.
    let s = c.args.state in
    let fits : FitsSigned w16 c.in-Some.last.level = search rules in
    simp to_z-of_z (pairs_more start c.args.state.bits c.short_pair.new.bits (length c.args.out.now) s.last.run (unsigned_abs s.last.level - 1) s.at c.args.out.now
    c.in-Some.last.run c.in-Some.last.level read c.in-Some.ensures.read (omega (arith, c.in-Some.ensures.inside)))

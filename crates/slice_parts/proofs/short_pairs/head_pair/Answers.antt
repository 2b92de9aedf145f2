use Rattle.std.proofs.Common.{rules, w8, w16, FitsSigned}
use Rattle.std.proofs.lemmas.Int.{to_z-of_z}
use Rattle.slice_parts.proofs.HeadLemmas.{read_heads_are_pair}
use Rattle.slice_parts.proofs.short_pairs.head_pair.Goals as goal

pub returns-in-Some-clause-read : goal.returns-in-Some-clause-read
returns-in-Some-clause-read c = λ run size of_run of_level.
    let few : FitsSigned w8 c.in-Some.two.level = search rules in
    let fits : FitsSigned w16 c.from-in-Some.result = search rules in
    let e = simp to_z-of_z at c.from-in-Some.ensures in
    simp to_z-of_z (rw (c.from.ensures, e) (read_heads_are_pair run size c.args.bits.now c.read.new.bits c.in-Some.one.run c.in-Some.two.level (c.in-Some.ensures.read run size of_run of_level)))

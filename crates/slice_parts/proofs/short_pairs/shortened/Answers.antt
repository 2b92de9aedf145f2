use Rattle.std.proofs.Common.{rules, w16, w64, FitsSigned}
use Rattle.std.proofs.lemmas.Int.{to_z-of_z}
use Rattle.slice_parts.proofs.short_pairs.shortened.Goals as goal

pub returns-clause-rows : goal.returns-clause-rows
returns-clause-rows c =
    let fits : FitsSigned w64 c.args.found.level = search rules in
    let small : FitsSigned w16 c.args.found.level = search rules in
    simp to_z-of_z (rw c.requires.size at c.requires.rows)

use Rattle.std.proofs.Common.{◌-ℤ◌, w32, w64, FitsSigned, ap, ◌∙◌, rules}
use Rattle.std.proofs.lemmas.Int.{to_z-of_z}
use Rattle.prores_codes.specs.Folded.{folded}
use Rattle.slice_parts.proofs.dc.number.Goals as goal

pub returns-clause-number : goal.returns-clause-number
returns-clause-number c =
    let fd : FitsSigned w64 c.args.difference = search rules in
    let fn : FitsSigned w64 c.args.next = search rules in
    let fl : FitsSigned w64 c.args.level = search rules in
    let fs : FitsSigned w64 (c.args.next -ℤ c.args.level) = search rules in
    let t = simp to_z-of_z at c.turned.ensures.turned in
    let ft : FitsSigned w64 c.turned.result = search rules in
    let ft2 : FitsSigned w32 c.turned.result = search rules in
    let f = simp to_z-of_z at c.fold.ensures in
    f ∙ ap folded t

use Rattle.std.proofs.Common.{◌+ℤ◌, w32, w64, FitsSigned, ap, ◌∙◌, rules}
use Rattle.std.proofs.lemmas.Int.{to_z-of_z}
use Rattle.prores_codes.specs.Folded.{folded}
use Rattle.slice_parts.proofs.DcLemmas.{turned_back}
use Rattle.slice_parts.proofs.dc.level_of.Goals as goal

pub returns-clause-number : goal.returns-clause-number
returns-clause-number c =
    let fd : FitsSigned w64 c.args.difference = search rules in
    let fl : FitsSigned w64 c.args.level = search rules in
    let fu : FitsSigned w32 c.unfold.result = search rules in
    let ff : FitsSigned w64 c.from.result = search rules in
    let ft : FitsSigned w64 c.turned.result = search rules in
    let fs : FitsSigned w64 (c.args.level +ℤ c.turned.result) = search rules in
    let f = simp to_z-of_z at c.from.ensures in
    let t = simp to_z-of_z at c.turned.ensures.turned in
    simp to_z-of_z (rw t (ap folded (turned_back c.args.difference c.args.level c.from.result) ∙ (ap folded f ∙ c.unfold.ensures.folded)))

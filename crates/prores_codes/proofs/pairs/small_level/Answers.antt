use Rattle.std.proofs.Common.{subst}
use Rattle.prores_codes.specs.Codes.{Parameters, Fits}
use Rattle.prores_codes.specs.inner.Forms.{IsForm}
use Rattle.prores_codes.proofs.PairLemmas.{small_level_size}
use Rattle.prores_codes.proofs.pairs.small_level.Goals as goal

pub returns-clause-short : goal.returns-clause-short
returns-clause-short c =
    let form = c.form_of.result in
    let P : Parameters → Type 0 = λ p. Fits p c.args.size_less_one in
    let Q : Parameters → Type 0 = λ p. IsForm p c.args.size_less_one form.size form.number in
    small_level_size c.args.class c.args.size_less_one form.size form.number c.requires.class c.requires.size
    (subst P c.level_code-code.ensures c.small_fits.ensures) (subst Q c.level_code-code.ensures c.form_of.ensures)

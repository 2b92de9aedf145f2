use Rattle.std.proofs.Common.{subst}
use Rattle.prores_codes.specs.Codes.{Parameters, Fits}
use Rattle.prores_codes.specs.inner.Forms.{IsForm}
use Rattle.prores_codes.proofs.PairLemmas.{short_run_size}
use Rattle.prores_codes.proofs.pairs.short_run.Goals as goal

pub returns-clause-short : goal.returns-clause-short
returns-clause-short c =
    let form = c.form_of.result in
    let P : Parameters → Type 0 = λ p. Fits p c.args.run in
    let Q : Parameters → Type 0 = λ p. IsForm p c.args.run form.size form.number in
    short_run_size c.args.class c.args.run form.size form.number c.requires.class c.requires.run
    (subst P c.run_code-code.ensures c.small_fits.ensures) (subst Q c.run_code-code.ensures c.form_of.ensures)

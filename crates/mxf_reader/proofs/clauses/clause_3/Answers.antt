use Rattle.std.proofs.Common.{ap, ◌∙◌}
use Rattle.mxf_reader.specs.declared.clauses.Rule.TheVariants.{Places}
use Rattle.mxf_reader.specs.inner.Rules.{first_bad}
use Rattle.mxf_reader.proofs.RuleLemmas.{clause_3_kept}
use Rattle.mxf_reader.proofs.clauses.clause_3.Goals as goal

pub returns : goal.returns
returns c = λ items h. c.first_bad.ensures ∙ ap (first_bad Places 0) c.deref.ensures.value ∙ clause_3_kept c.args.file.now items h

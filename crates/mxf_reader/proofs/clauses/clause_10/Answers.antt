use Rattle.std.proofs.Common.{ap, ◌∙◌}
use Rattle.mxf_reader.specs.declared.clauses.Rule.TheVariants.{Lengths}
use Rattle.mxf_reader.specs.inner.Rules.{first_bad}
use Rattle.mxf_reader.proofs.RuleLemmas.{clause_10_kept}
use Rattle.mxf_reader.proofs.clauses.clause_10.Goals as goal

pub returns : goal.returns
returns c = λ items h. c.first_bad.ensures ∙ ap (first_bad Lengths 0) c.deref.ensures.value ∙ clause_10_kept c.args.file.now items h

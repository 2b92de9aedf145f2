use Rattle.std.proofs.Common.{ap, ◌∙◌}
use Rattle.mxf_reader.specs.inner.Rules.{seen_4}
use Rattle.mxf_reader.proofs.OrderLemmas.{order_kept}
use Rattle.mxf_reader.proofs.kinds.clause_4.Goals as goal

pub returns : goal.returns
returns c = λ items h. c.bad_kind.ensures ∙ ap (seen_4 c.args.file.now.len) c.deref.ensures.value ∙ order_kept c.args.file.now items h

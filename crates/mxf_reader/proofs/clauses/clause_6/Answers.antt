use Rattle.std.proofs.Common.{List, ap, ◌∙◌}
use Rattle.mxf_reader.specs.declared.part.SeenPart.{SeenPart}
use Rattle.mxf_reader.specs.inner.Parts.{first_of}
use Rattle.mxf_reader.specs.inner.Rules.{seen_6}
use Rattle.mxf_reader.proofs.ElementLemmas.{clause_6_kept}
use Rattle.mxf_reader.proofs.clauses.clause_6.Goals as goal

pub returns : goal.returns
returns c =
    λ items h.
    c.first_of.ensures
    ∙ ap (first_of c.args.file.now.front)
    (c.misplaced.ensures ∙ ap (λ (ps : List SeenPart). seen_6 c.args.file.now.len ps) c.deref.ensures.value)
    ∙ clause_6_kept c.args.file.now items h

use Rattle.std.proofs.Common.{get_or, ap, ◌∙◌, arith}
use Rattle.std.proofs.lemmas.List.{take_rest}
use Rattle.mxf_reader.specs.inner.Parts.{first_of}
use Rattle.mxf_reader.specs.inner.Rules.{misplaced_behind}
use Rattle.mxf_reader.proofs.ElementLemmas.{six_first, six_none}
use Rattle.mxf_reader.proofs.RuleLemmas.{nobody}
use Rattle.mxf_reader.proofs.clauses.misplaced.Goals as goal

pub returns-then-parts-eq0 : goal.returns-then-parts-eq0
returns-then-parts-eq0 c = six_none c.args.len c.args.parts.now c.if-parts-eq0.true

pub returns : goal.returns
returns c =
    let some = c.if-parts-eq0.false in
    c.first_of.ensures
    ∙ ap (first_of (get_or c.args.parts.now 0 nobody).element) (c.misplaced_behind.ensures ∙ ap (misplaced_behind c.args.len) (take_rest c.args.parts.now 1))
    ∙ six_first c.args.len c.args.parts.now (omega arith)

use Rattle.std.proofs.Common.{◌-◌, List, length, take, drop, ap, ◌∙◌, arith}
use Rattle.mxf_reader.specs.declared.clauses.Rule.TheVariants.{Offset}
use Rattle.mxf_reader.specs.declared.part.SeenPart.{SeenPart}
use Rattle.mxf_reader.specs.inner.Rules.{first_bad}
use Rattle.mxf_reader.proofs.RuleLemmas.{clause_5_kept, clause_5_none}
use Rattle.mxf_reader.proofs.clauses.clause_5.Goals as goal

pub returns-then-len-lt2 : goal.returns-then-len-lt2
returns-then-len-lt2 c =
    let len = c.len.ensures in
    let few = c.if-len-lt2.true in
    λ items h. clause_5_none c.args.file.now items h (omega arith)

pub returns : goal.returns
returns c =
    let len = c.len.ensures in
    let some = c.if-len-lt2.false in
    λ items h.
    c.first_bad.ensures
    ∙ ap (first_bad Offset 0) (c.bodies.ensures ∙ ap (λ (xs : List SeenPart). take (length xs - 2) (drop 1 xs)) c.deref.ensures.value)
    ∙ clause_5_kept c.args.file.now items h (omega arith)

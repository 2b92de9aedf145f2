use Rattle.std.proofs.Common.{List, ℕ, sym, subst, ◌∙◌}
use Rattle.mxf_index.specs.Reads.{Refuses}
use Rattle.mxf_index.specs.inner.Items.{Breaks, Says}
use Rattle.mxf_index.specs.declared.fault.SegmentFault.{SegmentFault}
use Rattle.mxf_index.proofs.SegmentLemmas.{refused, rises, says}
use Rattle.mxf_index.proofs.reading.read_segment.Goals as goal

pub part-requires-clause-rise : goal.part-requires-clause-rise
part-requires-clause-rise c = rises c.args.bytes.now c.in-Ok.klv c.in-Ok.ensures.stands

pub returns-in-Ok-read_value-clause-read : goal.returns-in-Ok-read_value-clause-read
returns-in-Ok-read_value-clause-read c =
    says c.args.bytes.now c.in-Ok.klv c.in-Ok-read_value.segment c.in-Ok.ensures.stands (sym c.ne.ensures ∙ c.if-ne.false)
    (subst (λ (xs : List ℕ). Says xs c.in-Ok-read_value.segment) c.part.ensures c.in-Ok-read_value.ensures.read)

pub returns-in-Err-read_value-clause-refused : goal.returns-in-Err-read_value-clause-refused
returns-in-Err-read_value-clause-refused c =
    subst (λ (f : SegmentFault). Refuses c.args.bytes.now f) (sym c.moved.ensures)
    (refused c.args.bytes.now c.in-Ok.klv c.in-Err-read_value.fault c.in-Ok.ensures.stands (sym c.ne.ensures ∙ c.if-ne.false)
    (subst (λ (xs : List ℕ). Breaks xs c.in-Err-read_value.fault) c.part.ensures c.in-Err-read_value.ensures.refused))

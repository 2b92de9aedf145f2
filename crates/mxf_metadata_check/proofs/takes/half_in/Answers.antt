use Rattle.mxf_metadata_check.proofs.Taken.{half_found}
use Rattle.mxf_metadata_check.proofs.takes.half_in.Goals as goal

pub returns-then-item-eq32 : goal.returns-then-item-eq32
returns-then-item-eq32 c =
    half_found c.in-Some.item.value_at c.in-Some.item.value_len c.half_at.result c.args.value.now _
    c.in-Some.ensures.first c.if-item-eq32.true c.in-Some.ensures.within c.half_at.ensures

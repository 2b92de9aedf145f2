use Rattle.mxf_metadata_check.proofs.Other.{other_is}
use Rattle.mxf_metadata_check.proofs.durations.first_other_duration.Goals as goal

pub returns-in-Ok : goal.returns-in-Ok
returns-in-Ok c = λ primer items are.
    other_is c.items_are_unique.ensures.first c.args.bytes.now c.args.at c.args.count c.duration_of-duration.result c.in-Ok.klv primer items c.other_among.result
    c.in-Ok.ensures.stands c.duration_of-duration.ensures are c.other_among.ensures

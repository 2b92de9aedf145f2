use Rattle.mxf_metadata_check.proofs.Taken.{id_is, no_id}
use Rattle.mxf_metadata_check.proofs.takes.take_id.Goals as goal

pub returns-in-Ok : goal.returns-in-Ok
returns-in-Ok c = λ at primer items are.
    id_is c.items_are_unique.ensures.first c.args.bytes.now at c.in-Ok.klv primer items c.value_of_kind.result.now c.half_in.result
    c.in-Ok.ensures.stands are c.value_of_kind.ensures c.half_in.ensures

pub returns-in-Err : goal.returns-in-Err
returns-in-Err c = λ at primer items are.
    no_id c.args.bytes.now at primer items _ (λ h. let bad = c.in-Err.ensures.accepted.1 h in absurd (cc)) are

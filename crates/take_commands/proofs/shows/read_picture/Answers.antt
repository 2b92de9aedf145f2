use Rattle.take_commands.proofs.CauseLemmas.{decode_cause}
use Rattle.take_commands.proofs.ShowLemmas.{answers_decode, writes_picture}
use Rattle.take_commands.proofs.shows.read_picture.Goals as goal

pub returns-in-Ok-clause-picture : goal.returns-in-Ok-clause-picture
returns-in-Ok-clause-picture g c =
    writes_picture (g.D.TakeDisk.told c.args.disk.now) c.args.number c.in_ok-unit.unit.items c.in-Ok.picture c.in_ok-unit.ensures.unit
    (rw c.as_slice.ensures.value at c.in-Ok.ensures.means)

pub returns-clause-refused : goal.returns-clause-refused
returns-clause-refused g c =
    answers_decode (g.D.TakeDisk.told c.args.disk.now) c.args.number c.in_ok-unit.unit.items c.in-Err.fault c.decode_fault.result c.decode_fault.ensures
    c.in_ok-unit.ensures.unit (rw c.as_slice.ensures.value at c.in-Err.ensures.refused)

pub returns-clause-cause : goal.returns-clause-cause
returns-clause-cause g c =
    decode_cause c.args.number _ _ c.in-Err.fault c.decode_fault.result c.decode_fault.ensures c.in_ok-unit.ensures.cause

use Rattle.rec_bytes.specs.declared.status.Failed.{Failed}
use Rattle.take_commands.specs.declared.fault.TakeFault.{TakeFault}
use Rattle.take_commands.proofs.GainLemmas.{gains_all, writes_all, writes_fault}
use Rattle.take_commands.proofs.output.put_piece.Goals as goal

pub returns-in-Ok-clause-written : goal.returns-in-Ok-clause-written
returns-in-Ok-clause-written g c =
    writes_all TakeFault _ _ c.args.piece.now (gains_all Failed _ _ c.args.piece.now c.in-Ok.ensures.written)

pub returns-in-Err-clause-written : goal.returns-in-Err-clause-written
returns-in-Err-clause-written g c = writes_fault _ _ c.in-Err.field-0 _ c.args.piece.now c.in-Err.ensures.written

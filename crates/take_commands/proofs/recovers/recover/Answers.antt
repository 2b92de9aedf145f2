use Rattle.std.proofs.Common.{◌∙◌}
use Rattle.take_commands.specs.Views.{devices}
use Rattle.take_commands.proofs.RecoverLemmas.{runs_closed}
use Rattle.take_commands.proofs.recovers.recover.Goals as goal

pub returns-in-Ok-clause-ran : goal.returns-in-Ok-clause-ran
returns-in-Ok-clause-ran g c =
    let disk = g.D.TakeDisk in
    let sink = g.W.Sink in
    let before = devices (disk.told c.args.disk.now) (disk.fault_count c.args.disk.now) (sink.written c.args.out.now) (sink.fault_count c.args.out.now) in
    let now = devices (disk.told c.recover.new.disk) (disk.fault_count c.recover.new.disk) (sink.written c.put_piece.new.out) (sink.fault_count c.put_piece.new.out) in
    let line = c.as_bytes.ensures.value ∙ (c.as_str.ensures.value ∙ c.recover_line.ensures) in
    runs_closed g.L.TakeLayout before now c.in-Ok.done c.put_piece.result c.in-Ok.ensures.recovered (rw line at c.put_piece.ensures.written) c.put_piece.ensures.cause

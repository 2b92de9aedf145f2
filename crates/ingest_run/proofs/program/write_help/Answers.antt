use Rattle.ingest_run.proofs.ProgramLemmas.{help_done, help_failed}
use Rattle.ingest_run.proofs.program.write_help.Goals as goal

pub returns-in-Ok : goal.returns-in-Ok
returns-in-Ok g c =
    let written = rw c.as_bytes.ensures.value at c.in-Ok.ensures.written in
    help_done c.args.text.now (g.W.Sink.written c.args.out.now) (g.W.Sink.written c.put_all.new.out) (g.W.Sink.fault_count c.args.out.now) (g.W.Sink.fault_count c.put_all.new.out) written c.in-Ok.ensures.cause.kept

pub returns-in-Err : goal.returns-in-Err
returns-in-Err g c =
    let written = rw c.as_bytes.ensures.value at c.in-Err.ensures.written in
    rw c.sink_fault.ensures (help_failed c.args.text.now (g.W.Sink.written c.args.out.now) (g.W.Sink.written c.put_all.new.out) (g.W.Sink.fault_count c.args.out.now) (g.W.Sink.fault_count c.put_all.new.out) c.in-Err.field-0 written c.in-Err.ensures.cause)

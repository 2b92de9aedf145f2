use Rattle.rec_bytes.specs.declared.status.Failed.{Failed}
use Rattle.ingest_run.specs.Messages.{taken}
use Rattle.ingest_run.proofs.GainLemmas.{reports_both, reports_first}
use Rattle.ingest_run.proofs.report.say_both.Goals as goal

pub returns-in-Ok : goal.returns-in-Ok
returns-in-Ok g c =
    let sink = g.M.Sink in
    let before = taken (sink.written c.args.messages.now) (sink.fault_count c.args.messages.now) in
    let mid = taken (sink.written c.put_all.new.out) (sink.fault_count c.put_all.new.out) in
    let now = taken (sink.written c.put_all-in-Ok.new.out) (sink.fault_count c.put_all-in-Ok.new.out) in
    reports_both Failed before mid now c.put_all-in-Ok.result c.args.first.now c.args.second.now
    c.in-Ok.ensures.written c.in-Ok.ensures.cause.kept c.put_all-in-Ok.ensures.written c.put_all-in-Ok.ensures.cause

pub returns-in-Err : goal.returns-in-Err
returns-in-Err g c =
    let sink = g.M.Sink in
    let before = taken (sink.written c.args.messages.now) (sink.fault_count c.args.messages.now) in
    let now = taken (sink.written c.put_all.new.out) (sink.fault_count c.put_all.new.out) in
    reports_first before now c.in-Err.field-0 c.args.first.now c.args.second.now c.in-Err.ensures.written c.in-Err.ensures.cause.failed

use Rattle.std.proofs.Common.{Err, refl, ◌∙◌, arith}
use Rattle.std.proofs.lemmas.Result.{err_from_is_err_and}
use Rattle.take_commands.specs.declared.fault.TakeFault.{TakeFault}
use Rattle.take_commands.proofs.GainLemmas.{gains_none}
use Rattle.take_commands.proofs.SampleLemmas.{cause_before, written_all, written_front, written_more}
use Rattle.take_commands.proofs.output.put_samples.Goals as goal

pub loop-at-init : goal.loop-at-init
loop-at-init g c = record { place = omega arith; gains = gains_none _ _ refl; count = refl }

pub loop-at-preserved : goal.loop-at-preserved
loop-at-preserved g c = record {
  place = (let least = c.min-count.ensures in let place = c.loop-at.invariant.place in omega arith);
  gains = written_more TakeFault _ _ _ c.args.samples.now c.loop-at.at _ _ (omega arith) c.loop-at.invariant.gains c.in_ok-put_few.ensures.written;
  count = c.in_ok-put_few.ensures.cause ∙ c.loop-at.invariant.count;
}

pub returns-in_err-put_few-clause-written : goal.returns-in_err-put_few-clause-written
returns-in_err-put_few-clause-written g c =
    let p = err_from_is_err_and c.from_residual.result c.from_residual.ensures.1 in
    rw p.1
    (written_front (g.W.Sink.written c.args.out.now) (g.W.Sink.written c.loop-at.out) (g.W.Sink.written c.put_few.new.out)
    c.in_err-put_few.field-0.0 _ c.args.samples.now c.loop-at.at _ c.loop-at.invariant.gains c.in_err-put_few.ensures.written)

pub returns-in_err-put_few-clause-cause : goal.returns-in_err-put_few-clause-cause
returns-in_err-put_few-clause-cause g c =
    let p = err_from_is_err_and c.from_residual.result c.from_residual.ensures.1 in
    rw (p.1, p.2)
    (cause_before (g.W.Sink.fault_count c.loop-at.out) (g.W.Sink.fault_count c.args.out.now) (g.W.Sink.fault_count c.put_few.new.out)
    (Err c.in_err-put_few.field-0.0) c.loop-at.invariant.count c.in_err-put_few.ensures.cause)

pub returns-clause-written : goal.returns-clause-written
returns-clause-written g c = written_all TakeFault _ _ c.args.samples.now c.loop-at.at (omega arith) c.loop-at.invariant.gains

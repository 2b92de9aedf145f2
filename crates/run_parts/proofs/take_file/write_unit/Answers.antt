use Rattle.std.proofs.Common.{refl}
use Rattle.std.proofs.lemmas.Result.{err_from_is_err_and}
use Rattle.run_parts.proofs.WritesLemmas.{Writes-first, Writes-second}
use Rattle.run_parts.proofs.take_file.write_unit.Goals as goal

pub returns-in_err-write_lead-clause-written : goal.returns-in_err-write_lead-clause-written
returns-in_err-write_lead-clause-written g c = λ units lie.
    let p = err_from_is_err_and c.from_residual.result c.from_residual.ensures.1 in
    rw p.1 (Writes-first _ _ _ c.args.unit.now _ _ _ refl (c.in_err-write_lead.ensures.written units lie))

pub returns-clause-written : goal.returns-clause-written
returns-clause-written g c = λ units lie.
    Writes-second _ _ _ c.write_lead.result c.put_all.result _ c.args.unit.now _ c.in_ok-write_lead.was refl
    (c.write_lead.ensures.written units lie) c.put_all.ensures.written

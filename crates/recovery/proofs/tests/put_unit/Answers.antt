use Rattle.std.proofs.Common.{ℕ, sym, arith}
use Rattle.std.specs.Prelude.{replicate}
use Rattle.std.proofs.lemmas.List.{length-replicate}
use Rattle.recovery.proofs.tests.put_unit.Goals as goal

pub put_lead-requires-clause-unit : goal.put_lead-requires-clause-unit
put_lead-requires-clause-unit c =
    let long = length-replicate {A = ℕ} 50 7 in
    (replicate 50 7, omega (arith, long), sym long)

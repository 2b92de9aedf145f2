use Rattle.std.proofs.Common.{◌≡◌, ◌<◌, ◌≤◌, ◌^◌, ℕ, List, length, sym, arith}
use Rattle.std.specs.Prelude.{replicate}
use Rattle.std.proofs.lemmas.List.{length-replicate}
use Rattle.essence_walk.proofs.tests.put_unit.Goals as goal

-- there are bytes of each length
bytes_of : (n : ℕ) → n < 256 → (xs : List ℕ) × (length xs ≤ 2 ^ 28) × (n ≡ length xs)
bytes_of n less =
    let long = length-replicate {A = ℕ} n 0 in
    (replicate n 0, omega (arith, long, less), sym long)

pub put_lead-requires-clause-unit : goal.put_lead-requires-clause-unit
put_lead-requires-clause-unit c =
    let is = c.from-unit_len.ensures in let byte = c.ranges.len.fits in bytes_of c.from-unit_len.result (omega (arith, is, byte))

pub add-requires-clause-unit : goal.add-requires-clause-unit
add-requires-clause-unit c =
    let is = c.from-unit_len.ensures in let byte = c.ranges.len.fits in bytes_of c.from-unit_len.result (omega (arith, is, byte))

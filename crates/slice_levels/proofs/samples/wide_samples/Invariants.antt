use Rattle.std.proofs.Common.{◌<◌, ℕ, [], length, get_or}
use Rattle.slice_levels.specs.Rebuilt.{IsInverseOf}
use Rattle.slice_levels.proofs.samples.wide_samples.Given as goal

abbrev pub invariant-loop-b : goal.invariant-loop-b
invariant-loop-b l = (j : ℕ) → j < l.b → IsInverseOf l.scan (length l.out) l.products j (get_or l.out j [])

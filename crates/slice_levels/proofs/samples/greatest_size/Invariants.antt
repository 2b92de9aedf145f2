use Rattle.std.proofs.Common.{◌<◌, ◌≤◌, ℕ}
use Rattle.std.specs.Int.RustNames.{unsigned_abs}
use Rattle.whole_transform.specs.Sums.{at}
use Rattle.slice_levels.proofs.samples.greatest_size.Given as goal

abbrev pub invariant-loop-product : goal.invariant-loop-product
invariant-loop-product l = (n : ℕ) → n < l.product-index → unsigned_abs (at l.products n) ≤ l.greatest

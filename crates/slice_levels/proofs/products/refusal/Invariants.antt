use Rattle.std.proofs.Common.{◌≤◌, ◌<◌, ◌^◌, ℕ}
use Rattle.std.specs.Int.RustNames.{unsigned_abs}
use Rattle.slice_levels.specs.Products.{product_at}
use Rattle.slice_levels.proofs.products.refusal.Given as goal

abbrev pub invariant-loop-b : goal.invariant-loop-b
invariant-loop-b l = (j k : ℕ) → j < l.b → k < 64 → unsigned_abs (product_at l.scan l.weights l.scale l.count l.levels k j) ≤ 2 ^ 22

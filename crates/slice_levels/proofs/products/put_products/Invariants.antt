use Rattle.std.proofs.Common.{◌≡◌, ◌≤◌, ◌<◌, ◌^◌, ℕ}
use Rattle.std.specs.Int.RustNames.{unsigned_abs}
use Rattle.whole_transform.specs.Sums.{at}
use Rattle.slice_levels.specs.Interleaved.{entry_of}
use Rattle.slice_levels.specs.Products.{product_at}
use Rattle.slice_levels.proofs.products.put_products.Given as goal

abbrev pub invariant-loop-k : goal.invariant-loop-k
invariant-loop-k l = record {
  in_range : (b j : ℕ) → b < l.count → j < l.k → unsigned_abs (product_at l.scan l.weights l.scale l.count l.levels j b) ≤ 2 ^ 22;
  products : (b j : ℕ) → b < l.count → j < l.k → at l.out (entry_of l.count j b) ≡ product_at l.scan l.weights l.scale l.count l.levels j b;
}

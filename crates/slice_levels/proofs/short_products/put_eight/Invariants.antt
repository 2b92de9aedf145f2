use Rattle.std.proofs.Common.{◌≡◌, ◌≤◌, ◌<◌, ◌+◌, ◌*◌, ◌^◌, ℕ, length, slice_index}
use Rattle.std.specs.Int.RustNames.{unsigned_abs}
use Rattle.prores_scan.specs.Scans.{place_of}
use Rattle.whole_transform.specs.Sums.{at}
use Rattle.slice_levels.specs.Products.{product_at}
use Rattle.slice_levels.proofs.short_products.put_eight.Given as goal

abbrev pub invariant-loop-k : goal.invariant-loop-k
invariant-loop-k l = record {
  long : length l.greatest ≡ 8;
  from : l.from ≡ l.k * l.count + l.first;
  small : (lane j : ℕ) → lane < 8 → j < l.k → unsigned_abs (product_at l.scan l.weights l.scale l.count l.levels j (l.first + lane)) ≤ slice_index l.greatest lane;
  put : (lane j : ℕ) → lane < 8 → j < l.k → unsigned_abs (product_at l.scan l.weights l.scale l.count l.levels j (l.first + lane)) < 2 ^ 15
      → at l.lanes (8 * place_of l.scan j + lane) ≡ product_at l.scan l.weights l.scale l.count l.levels j (l.first + lane);
}

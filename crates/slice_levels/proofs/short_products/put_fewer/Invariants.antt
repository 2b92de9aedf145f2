use Rattle.std.proofs.Common.{◌<◌, ◌+◌, ◌*◌, ℕ}
use Rattle.prores_scan.specs.Scans.{place_of}
use Rattle.slice_levels.specs.Products.{product_at}
use Rattle.slice_levels.specs.inner.Short.{ArePut}
use Rattle.slice_levels.proofs.short_products.put_fewer.Given as goal

abbrev pub invariant-loop-k : goal.invariant-loop-k
invariant-loop-k l = (lane j : ℕ) → lane < 8 → l.first + lane < l.count → j < l.k
    → ArePut (8 * place_of l.scan j + lane) l.lanes (product_at l.scan l.weights l.scale l.count l.levels j (l.first + lane))

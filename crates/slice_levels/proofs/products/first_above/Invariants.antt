use Rattle.std.proofs.Common.{◌≤◌, ◌<◌, ◌^◌, ℕ}
use Rattle.std.specs.Int.RustNames.{unsigned_abs}
use Rattle.prores_scan.specs.Scans.{place_of}
use Rattle.slice_levels.specs.Products.{product_at}
use Rattle.slice_levels.proofs.products.first_above.Given as goal

abbrev pub invariant-loop-p : goal.invariant-loop-p
invariant-loop-p l = (j : ℕ) → j < 64 → place_of l.scan j < l.p
    → unsigned_abs (product_at l.scan l.weights l.scale l.count l.levels j l.b) ≤ 2 ^ 22

use Rattle.std.proofs.Common.{◌≡◌, ◌<◌, ◌*◌, ◌^◌, ℕ, [], length, get_or}
use Rattle.std.specs.Int.RustNames.{unsigned_abs}
use Rattle.slice_levels.specs.Products.{product_at}
use Rattle.slice_levels.specs.Rebuilt.{IsInverseOf}
use Rattle.slice_levels.specs.inner.Short.{products_of}
use Rattle.slice_levels.proofs.short_rebuilding.rebuild_short.Given as goal

abbrev pub invariant-loop-group : goal.invariant-loop-group
invariant-loop-group l = record {
  small : (b k : ℕ) → b < 8 * l.group → b < length l.out → k < 64
      → unsigned_abs (product_at l.scan l.weights l.scale (length l.out) l.levels k b) < 2 ^ 15;
  inverse : (b : ℕ) → b < 8 * l.group → b < length l.out
      → IsInverseOf l.scan (length l.out) (products_of l.scan l.weights l.scale (length l.out) l.levels) b (get_or l.out b []);
  long : length l.out ≡ length l.initial.out;
}

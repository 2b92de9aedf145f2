use Rattle.std.proofs.Common.{◌≡◌, ◌≤◌, ◌<◌, ◌^◌, ℕ, length}
use Rattle.std.specs.Int.RustNames.{unsigned_abs}
use Rattle.prores_scan.specs.Scans.{place_of}
use Rattle.slice_levels.specs.Interleaved.{entry_of}
use Rattle.whole_transform.specs.Sums.{at}
use Rattle.slice_levels.proofs.samples.raster_of.Given as goal

abbrev pub invariant-loop-k : goal.invariant-loop-k
invariant-loop-k l = record {
  ordered : (j : ℕ) → j < l.k → at l.raster (place_of l.scan j) ≡ at l.products (entry_of l.count j l.b);
  sizes : (n : ℕ) → unsigned_abs (at l.raster n) ≤ 2 ^ 22;
  long : length l.raster ≡ 64;
}

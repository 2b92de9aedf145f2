use Rattle.std.proofs.Common.{◌≡◌, ◌≢◌, ◌<◌, ◌+◌, ◌*◌, ◌^◌, ℕ, length}
use Rattle.std.specs.Int.RustNames.{unsigned_abs}
use Rattle.whole_transform.specs.Sums.{at}
use Rattle.slice_levels.proofs.short_products.put_row.Given as goal

abbrev pub invariant-loop-lane : goal.invariant-loop-lane
invariant-loop-lane l = record {
  placed : (j : ℕ) → j < l.lane → unsigned_abs (at l.products j) < 2 ^ 15 → at l.lanes (8 * l.p + j) ≡ at l.products j;
  kept : (q j : ℕ) → j < 8 → q ≢ l.p → at l.lanes (8 * q + j) ≡ at l.initial.lanes (8 * q + j);
  long : length l.lanes ≡ 512;
}

use Rattle.std.proofs.Common.{◌≡◌, ◌≢◌, ◌<◌, ◌+◌, ◌*◌, ℕ, length}
use Rattle.whole_transform.specs.Sums.{at}
use Rattle.slice_levels.proofs.lanes.put_few.Given as goal

abbrev pub invariant-loop-lane : goal.invariant-loop-lane
invariant-loop-lane l = record {
  placed : (j : ℕ) → j < l.lane → at l.lanes (8 * l.p + j) ≡ at l.products (l.from + j);
  kept : (q j : ℕ) → j < 8 → q ≢ l.p → at l.lanes (8 * q + j) ≡ at l.initial.lanes (8 * q + j);
  long : length l.lanes ≡ 512;
}

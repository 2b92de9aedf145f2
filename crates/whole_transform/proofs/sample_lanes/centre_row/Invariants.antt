use Rattle.std.proofs.Common.{◌≡◌, ◌≤◌, ◌<◌, ◌+◌, ◌*◌, ℕ, pos, ◌-ℤ◌, length, slice_index}
use Rattle.std.specs.Int.RustNames.{unsigned_abs}
use Rattle.whole_transform.specs.Sums.{at}
use Rattle.whole_transform.proofs.sample_lanes.centre_row.Given as goal

abbrev pub invariant-loop-j : goal.invariant-loop-j
invariant-loop-j l = record {
  read : (j : ℕ) → j < l.j → at l.values j ≡ pos (slice_index l.samples (64 * l.row + j)) -ℤ pos 512;
  small : (j : ℕ) → j < l.j → unsigned_abs (at l.values j) ≤ 512;
  long : length l.values ≡ 64;
}

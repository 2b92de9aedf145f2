use Rattle.std.proofs.Common.{◌≡◌, ◌<◌, ◌+◌, ◌*◌, ℕ, pos, [], length, get_or, slice_index}
use Rattle.whole_transform.specs.Sums.{at}
use Rattle.slice_levels.proofs.short_rebuilding.rebuild_group.Given as goal

abbrev pub invariant-loop-lane : goal.invariant-loop-lane
invariant-loop-lane l = record {
  taken : (j : ℕ) → j < l.lane → (p : ℕ) → p < 64 → at l.lanes.sums (8 * p + j) ≡ pos (slice_index (get_or l.out (l.first + j) []) p);
  before : (b : ℕ) → b < l.first → get_or l.out b [] ≡ get_or l.initial.out b [];
  long : length l.out ≡ length l.initial.out;
}

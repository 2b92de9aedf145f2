use Rattle.std.proofs.Common.{◌≡◌, ◌<◌, ◌+◌, ◌*◌, ℕ, [], length, get_or, slice_index}
use Rattle.slice_levels.proofs.lanes.put_blocks.Given as goal

abbrev pub invariant-loop-lane : goal.invariant-loop-lane
invariant-loop-lane l = record {
  placed : (j p : ℕ) → j < l.lane → l.first + j < length l.blocks → p < 64
      → slice_index l.lanes (8 * p + j) ≡ slice_index (get_or l.blocks (l.first + j) []) p;
  samples : (p j : ℕ) → p < 64 → j < l.lane → slice_index l.lanes (8 * p + j) < 1024;
  long : length l.lanes ≡ 512;
}

use Rattle.std.proofs.Common.{◌≡◌, ◌<◌, ◌+◌, ◌*◌, ℕ, pos, length, slice_index}
use Rattle.whole_transform.specs.Sums.{at}
use Rattle.slice_levels.proofs.lanes.take_block.Given as goal

abbrev pub invariant-loop-r : goal.invariant-loop-r
invariant-loop-r l = record {
  taken : (q : ℕ) → q < 8 * l.r → at l.sums (8 * q + l.lane) ≡ pos (slice_index l.out q);
  long : length l.out ≡ 64;
}

use Rattle.std.proofs.Common.{◌≡◌, ◌≢◌, ◌<◌, ◌+◌, ◌*◌, ℕ, length, slice_index}
use Rattle.slice_levels.proofs.lanes.put_block.Given as goal

abbrev pub invariant-loop-p : goal.invariant-loop-p
invariant-loop-p l = record {
  placed : (q : ℕ) → q < l.p → slice_index l.lanes (8 * q + l.lane) ≡ slice_index l.block q;
  kept : (q j : ℕ) → q < 64 → j < 8 → j ≢ l.lane → slice_index l.lanes (8 * q + j) ≡ slice_index l.initial.lanes (8 * q + j);
  long : length l.lanes ≡ 512;
}

use Rattle.std.proofs.Common.{◌≡◌, ◌<◌, ◌≤◌, ◌+◌, ◌*◌, ◌/◌, ◌%◌, ◌^◌, ℕ, slice_index}
use Rattle.prores_scan.proofs.scaled_levels.levels_at.Given as goal

abbrev pub invariant-loop-k : goal.invariant-loop-k
invariant-loop-k l = record {
  levels : (j : ℕ) → j < l.k → slice_index l.out j
      ≡ 2 * ((slice_index l.half_steps j / 2 + l.scale) / l.double.divisor) + slice_index l.half_steps j % 2;
  small : (j : ℕ) → j < l.k → slice_index l.out j ≤ 2 ^ 14 + 1;
}

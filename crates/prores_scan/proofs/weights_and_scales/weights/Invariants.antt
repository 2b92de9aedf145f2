use Rattle.std.proofs.Common.{◌≡◌, ◌≤◌, ◌<◌, ◌/◌, ◌%◌, ℕ, length, slice_index}
use Rattle.prores_scan.specs.WeightsAndScales.{weight_at}
use Rattle.prores_scan.proofs.weights_and_scales.weights.Given as goal

abbrev pub invariant-loop-p : goal.invariant-loop-p
invariant-loop-p l = record {
  long : length l.matrix ≡ 64;
  weights : (p : ℕ) → p < l.p → slice_index l.matrix p ≡ weight_at l.kind l.chroma (p / 8) (p % 8);
  small : (p : ℕ) → p < l.p → (4 ≤ slice_index l.matrix p) × (slice_index l.matrix p ≤ 18);
}

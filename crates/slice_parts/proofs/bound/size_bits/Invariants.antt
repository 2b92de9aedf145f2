use Rattle.std.proofs.Common.{◌≤◌, ◌+◌, ◌-◌, ◌*◌, slice_index}
use Rattle.slice_parts.specs.Bound.{size_at}
use Rattle.slice_parts.specs.inner.Counted.{passed, sum_to}
use Rattle.slice_parts.proofs.bound.size_bits.Given as goal

abbrev pub invariant-loop-l : goal.invariant-loop-l
invariant-loop-l l = record {
  low : l.bits ≤ sum_to (64 - l.skip) (λ i. passed l.l (size_at l.scale (slice_index l.half_steps (l.at + l.skip + i))));
  small : l.bits ≤ 64 * l.l;
}

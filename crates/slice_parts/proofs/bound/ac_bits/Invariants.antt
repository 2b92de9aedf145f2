use Rattle.std.proofs.Common.{◌≡◌, ◌≤◌, ◌<◌, ◌+◌, ◌-◌, ◌*◌, ◌%◌, ◌^◌}
use Rattle.slice_parts.specs.Component.{signed_levels}
use Rattle.slice_parts.specs.Bound.{numbers_at, AreLeft}
use Rattle.slice_parts.specs.inner.Counted.{AreAbove, Tail}
use Rattle.slice_parts.proofs.bound.ac_bits.Given as goal

abbrev pub invariant-loop-word : goal.invariant-loop-word
invariant-loop-word l = record {
  within : l.word < l.blocks;
  small : l.bits + 1216 * (l.word + 1) ≤ 1216 * l.blocks;
  above : 0 < l.word → AreAbove l.half_steps l.scale (64 * l.word + 0) (64 - 0) 1 l.marks;
  some : 0 < l.word → Tail l.half_steps l.scale (64 * l.word + 64) l.bits l.marks;
  last : l.word ≡ 0 → Tail l.half_steps l.scale 64 l.bits (l.first * 2 ^ l.blocks % 2 ^ 64);
  left : AreLeft (signed_levels (numbers_at l.scale l.half_steps)) l.left;
}

abbrev pub decreases-loop-word : goal.decreases-loop-word
decreases-loop-word l = l.word

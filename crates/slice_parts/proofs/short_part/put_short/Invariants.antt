use Rattle.std.proofs.Common.{◌≡◌, length, take}
use Rattle.slice_parts.proofs.short_part.put_short.Given as goal

abbrev pub invariant-loop-k : goal.invariant-loop-k
invariant-loop-k l = record {
  long : length l.out ≡ length l.levels;
  same : take l.k l.out ≡ take l.k l.levels;
}

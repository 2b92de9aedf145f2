use Rattle.std.proofs.Common.{◌≡◌, ◌≤◌, ◌-◌, length}
use Rattle.std.specs.Int.RustNames.{unsigned_abs}
use Rattle.bit_io.specs.Read.{Reading}
use Rattle.prores_codes.specs.Heads.{IsRunRow, IsLevelRow}
use Rattle.slice_parts.specs.inner.Progress.{PairsRead}
use Rattle.slice_parts.proofs.short_pairs.head_pairs.Given as goal

-- whoever had read pairs before has read those behind them; the rows are those of the codes that follow
abbrev pub invariant-loop-free : goal.invariant-loop-free
invariant-loop-free l = record {
  read : (start : Reading) → PairsRead start l.fn.bits (length l.fn.out) l.fn.run (unsigned_abs l.fn.level - 1) l.fn.at l.fn.out
      → PairsRead start l.bits (length l.fn.out) l.last.run (unsigned_abs l.last.level - 1) l.at l.out;
  runs : IsRunRow l.last.run l.last.runs;
  levels : IsLevelRow (unsigned_abs l.last.level - 1) l.last.levels;
  from : l.fn.at ≤ l.at;
  to : l.at ≤ length l.fn.out;
  long : length l.out ≡ length l.fn.out;
}

abbrev pub decreases-loop-free : goal.decreases-loop-free
decreases-loop-free l = length l.out - l.at

use Rattle.std.proofs.Common.{◌-◌, length}
use Rattle.prores_codes.specs.Heads.{IsRunRow, IsLevelRow}
use Rattle.slice_parts.specs.inner.Progress.{PairsRead}
use Rattle.slice_parts.proofs.pairs.read_pairs.Given as goal

-- pairs are read so far, their levels stand in front, and zeros behind them; the rows are those of the codes that follow
abbrev pub invariant-loop-free : goal.invariant-loop-free
invariant-loop-free l = record {
  read : PairsRead l.fn.bits l.bits (length l.fn.out) l.run l.size_less_one l.at l.out;
  runs : IsRunRow l.run l.runs;
  levels : IsLevelRow l.size_less_one l.levels;
}

abbrev pub decreases-loop-free : goal.decreases-loop-free
decreases-loop-free l = length l.out - l.at

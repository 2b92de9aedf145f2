use Rattle.std.proofs.Common.{◌≡◌, ◌≤◌, ◌-◌, length}
use Rattle.std.specs.Int.RustNames.{unsigned_abs}
use Rattle.prores_codes.specs.Heads.{IsRunRow, IsLevelRow}
use Rattle.slice_parts.specs.inner.Progress.{PairsRead}
use Rattle.slice_parts.proofs.short_pairs.read_short_pairs.Given as goal

-- pairs are read so far, their levels stand in front, and zeros behind them; the rows are those of the codes that follow
abbrev pub invariant-loop-turn : goal.invariant-loop-turn
invariant-loop-turn l = record {
  read : PairsRead l.fn.bits l.state.bits (length l.fn.out) l.state.last.run (unsigned_abs l.state.last.level - 1) l.state.at l.out;
  runs : IsRunRow l.state.last.run l.state.last.runs;
  within : l.state.at ≤ length l.out;
  long : length l.out ≡ length l.fn.out;
  levels : IsLevelRow (unsigned_abs l.state.last.level - 1) l.state.last.levels;
}

use Rattle.std.proofs.Common.{◌≡◌, ◌≤◌, ◌*◌, ◌^◌, length, take}
use Rattle.std.specs.List.{fold}
use Rattle.std.specs.Int.RustNames.{unsigned_abs}
use Rattle.slice_parts.specs.Joined.{ReadsAll}
use Rattle.slice_parts.specs.Dc.{DcSpells, dc_next}
use Rattle.slice_parts.specs.Dc.DcState.{First, Behind}
use Rattle.slice_parts.proofs.dc.read_dc.Given as goal

-- the levels so far are read, and the state is the one behind them
abbrev pub invariant-loop-k : goal.invariant-loop-k
invariant-loop-k l = record {
  long : length l.out ≡ length l.fn.out;
  near : unsigned_abs l.level ≤ l.k * 2 ^ 31;
  state : fold dc_next First (take l.k l.out) ≡ Behind l.level l.difference;
  read : ReadsAll DcSpells dc_next First l.fn.bits l.bits (take l.k l.out);
}

use Rattle.std.proofs.Common.{◌≡◌, ◌-◌, ℕ, List, drop}
use Rattle.bit_io.specs.Written.{lender}
use Rattle.slice_parts.specs.Dc.{IsDc}
use Rattle.slice_parts.specs.Component.{level_at, signed_levels}
use Rattle.slice_parts.specs.Dc.DcState.{First, Behind}
use Rattle.slice_parts.specs.inner.Written.{Wrote}
use Rattle.slice_parts.proofs.dc.write_dc.Given as goal

-- the levels so far are written, and the rest is due behind the last of them
abbrev pub invariant-loop-k : goal.invariant-loop-k
invariant-loop-k l = record {
  same : lender l.out ≡ lender l.fn.out;
  wrote : (whole : List ℕ) → IsDc First (signed_levels l.numbers) whole → Wrote l.fn.out l.out (IsDc (Behind (level_at (signed_levels l.numbers) (l.k - 1)) l.difference) (drop l.k (signed_levels l.numbers))) whole;
}

use Rattle.std.proofs.Common.{length, ◌-◌, ◌≡◌, ◌≤◌}
use Rattle.raw_feed.proofs.PartLemmas.{Filled}
use Rattle.raw_feed.proofs.part.read_full.Given as goal

-- the bytes so far are those that the source gave, and nothing failed
abbrev pub invariant-loop-at : goal.invariant-loop-at
invariant-loop-at g l = record {
  place : l.at ≤ length l.out;
  filled : Filled l.at (g.S.Source.told l.fn.source) (g.S.Source.told l.source) l.out;
  count : g.S.Source.fault_count l.source ≡ g.S.Source.fault_count l.fn.source;
}

abbrev pub decreases-loop-at : goal.decreases-loop-at
decreases-loop-at g l = length l.out - l.at

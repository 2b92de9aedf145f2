use Rattle.std.proofs.Common.{◌≡◌, ◌≤◌, ◌+◌, ◌-◌, take, vec_len}
use Rattle.raw_feed.specs.declared.limits.TheConstants.{MAX_FEED}
use Rattle.raw_feed.proofs.UnitLemmas.{Gathered}
use Rattle.raw_feed.proofs.unit.read_bytes.Given as goal

-- the bytes so far are the first of the unit, and nothing failed
abbrev pub invariant-loop-had : goal.invariant-loop-had
invariant-loop-had g l = record {
  most : l.had ≤ l.len;
  there : l.had ≤ vec_len l.bytes;
  within : l.at + 8 + l.had ≤ MAX_FEED;
  gathered : Gathered (g.S.Source.told l.fn.source) (g.S.Source.told l.source) (take l.had l.bytes.items);
  count : g.S.Source.fault_count l.source ≡ g.S.Source.fault_count l.fn.source;
}

abbrev pub decreases-loop-had : goal.decreases-loop-had
decreases-loop-had g l = l.len - l.had

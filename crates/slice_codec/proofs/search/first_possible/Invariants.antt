use Rattle.std.proofs.Common.{◌≤◌, ◌-◌}
use Rattle.prores_scan.specs.WeightsAndScales.{scale_of}
use Rattle.slice_codec.specs.inner.Bounded.{AllPass, AreLeast}
use Rattle.slice_codec.proofs.search.first_possible.Given as goal

abbrev pub invariant-loop-low : goal.invariant-loop-low
invariant-loop-low l = record {
  from : l.rule.first ≤ l.low;
  within : l.low ≤ l.rule.last;
  most : l.high ≤ l.rule.last;
  passed : AllPass l.rule.room l.rule.first l.low l.y l.cb l.cr;
  least : AreLeast (scale_of l.bounds.index) l.y l.cb l.cr l.bounds;
}

abbrev pub decreases-loop-low : goal.decreases-loop-low
decreases-loop-low l = l.high - l.low

use Rattle.std.proofs.Common.{◌≡◌, ◌≤◌, ◌+◌, ◌*◌, ◌-◌, take, length}
use Rattle.raw_feed.specs.declared.limits.TheConstants.{MAX_FEED}
use Rattle.raw_feed.specs.Pictures.{spelled}
use Rattle.raw_feed.proofs.UnitLemmas.{Gathered}
use Rattle.raw_feed.proofs.picture.read_picture.Given as goal

-- the samples so far are the first of the picture, and nothing failed
abbrev pub invariant-loop-done : goal.invariant-loop-done
invariant-loop-done g l = record {
  most : l.done ≤ l.count;
  all : l.count ≡ length l.into.samples;
  long : length l.samples ≡ 4096;
  within : l.at + 4 + 2 * l.done ≤ MAX_FEED;
  kept : l.into.size ≡ l.fn.into.size;
  gathered : Gathered (g.S.Source.told l.fn.source) (g.S.Source.told l.source) (spelled (take l.done l.into.samples));
  count : g.S.Source.fault_count l.source ≡ g.S.Source.fault_count l.fn.source;
}

abbrev pub decreases-loop-done : goal.decreases-loop-done
decreases-loop-done g l = l.count - l.done

use Rattle.std.proofs.Common.{◌≡◌, ◌≤◌, ◌-◌, length, drop}
use Rattle.local_sets.specs.Reads.{items_in}
use Rattle.mxf_metadata_check.specs.inner.Held.{all_last}
use Rattle.mxf_metadata_check.proofs.durations.set_lasts.Given as goal

abbrev pub invariant-loop-at : goal.invariant-loop-at
invariant-loop-at l = record {
  place : l.at ≤ length l.value;
  same : all_last l.duration (items_in (drop l.at l.value)) ≡ all_last l.duration (items_in l.value);
}

abbrev pub decreases-loop-at : goal.decreases-loop-at
decreases-loop-at l = length l.value - l.at

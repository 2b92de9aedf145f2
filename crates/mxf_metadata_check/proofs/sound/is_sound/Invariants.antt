use Rattle.std.proofs.Common.{◌≡◌, ◌≤◌, ◌-◌, ℕ, List, length, drop}
use Rattle.mxf_metadata_reader.specs.inner.Places.{IsTable}
use Rattle.mxf_metadata_check.specs.inner.Firsts.{TellsFirsts, all_whole}
use Rattle.mxf_op1a.specs.Metadata.{SetAt, is_sound_item}
use Rattle.mxf_metadata_check.proofs.sound.is_sound.Given as goal

abbrev pub invariant-loop-at : goal.invariant-loop-at
invariant-loop-at l = record {
  place : l.at ≤ length l.value;
  same : (tags : List ℕ) (sets : List SetAt) → IsTable l.listed tags → TellsFirsts l.firsts sets
      → all_whole (is_sound_item tags sets) l.value ≡ all_whole (is_sound_item tags sets) (drop l.at l.value);
}

abbrev pub decreases-loop-at : goal.decreases-loop-at
decreases-loop-at l = length l.value - l.at

use Rattle.std.proofs.Common.{◌≡◌, ◌≤◌, ℕ, List, length}
use Rattle.slice_codec.specs.Setups.{Setup}
use Rattle.slice_codec.specs.inner.Weighed.{IsWeighedSlice}
use Rattle.slice_codec.proofs.ChoiceLemmas.{NoneFits}
use Rattle.slice_codec.proofs.choice.write_chosen.Given as goal

abbrev pub invariant-loop-index : goal.invariant-loop-index
invariant-loop-index l = record {
  least : (setup : Setup) (count : ℕ) (samples : List (List ℕ)) → IsWeighedSlice setup count samples l.y l.cb l.cr
      → NoneFits setup count samples l.rule.room l.rule.first l.index;
  from : l.rule.first ≤ l.index;
  long : length l.out ≡ length l.fn.out;
}

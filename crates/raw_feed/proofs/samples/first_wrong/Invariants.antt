use Rattle.std.proofs.Common.{◌≤◌, ◌<◌, ℕ, slice_index}
use Rattle.raw_feed.specs.declared.limits.TheConstants.{MAX_SAMPLE}
use Rattle.raw_feed.proofs.samples.first_wrong.Given as goal

-- no sample so far is too great
abbrev pub invariant-loop-k : goal.invariant-loop-k
invariant-loop-k l = (j : ℕ) → j < l.k → slice_index l.samples j ≤ MAX_SAMPLE

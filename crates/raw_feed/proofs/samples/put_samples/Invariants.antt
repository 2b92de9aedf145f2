use Rattle.std.proofs.Common.{◌≡◌, ◌≤◌, ◌<◌, ◌*◌, ℕ, length, slice_index}
use Rattle.raw_feed.specs.Items.{sample_in}
use Rattle.raw_feed.proofs.samples.put_samples.Given as goal

-- the samples so far are those of the bytes, and none is greater
abbrev pub invariant-loop-k : goal.invariant-loop-k
invariant-loop-k l = record {
  long : length l.bytes ≡ 2 * length l.samples;
  read : (j : ℕ) → j < l.k → slice_index l.samples j ≡ sample_in l.bytes j;
  most : (j : ℕ) → j < l.k → slice_index l.samples j ≤ l.greatest;
}

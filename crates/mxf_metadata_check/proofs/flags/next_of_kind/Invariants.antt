use Rattle.std.proofs.Common.{◌≡◌, ◌-◌, ℕ, List, length, drop}
use Rattle.mxf_metadata_check.specs.inner.Held.{sets_held}
use Rattle.mxf_op1a.specs.Metadata.{all_of_kind}
use Rattle.mxf_metadata_check.proofs.flags.next_of_kind.Given as goal

abbrev pub invariant-loop-k : goal.invariant-loop-k
invariant-loop-k l = (bytes : List ℕ) → all_of_kind l.kind (drop l.start (sets_held bytes l.sets)) ≡ all_of_kind l.kind (drop l.k (sets_held bytes l.sets))

abbrev pub decreases-loop-k : goal.decreases-loop-k
decreases-loop-k l = length l.sets - l.k

use Rattle.std.proofs.Common.{◌≡◌, ℕ, Bool, List, length, map, take}
use Rattle.mxf_metadata_check.specs.inner.Chain.{HasLeast, Tells, places_if}
use Rattle.mxf_op1a.specs.Metadata.{SetAt, least}
use Rattle.mxf_metadata_check.proofs.chain.where_true.Given as goal

abbrev pub invariant-loop-k : goal.invariant-loop-k
invariant-loop-k l = record {
  long : length l.found.items ≡ l.k;
  least : (all : List SetAt) (test : SetAt → Bool) (places : SetAt → List ℕ) → Tells test all l.flags → HasLeast places all l.values
      → l.found.items ≡ map (λ s. least (places_if test places s)) (take l.k all);
}

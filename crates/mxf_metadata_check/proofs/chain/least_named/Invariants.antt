use Rattle.std.proofs.Common.{◌≡◌, ℕ, List, length, map, take}
use Rattle.std.specs.List.{flat_map}
use Rattle.mxf_metadata_check.specs.inner.Chain.{HasLeast}
use Rattle.mxf_metadata_check.specs.inner.Held.{sets_held}
use Rattle.mxf_op1a.specs.Metadata.{SetAt, least, named}
use Rattle.mxf_metadata_check.proofs.chain.least_named.Given as goal

abbrev pub invariant-loop-k : goal.invariant-loop-k
invariant-loop-k l = record {
  long : length l.found.items ≡ l.k;
  least : (places : SetAt → List ℕ) → HasLeast places (sets_held l.bytes l.sets) l.values
      → l.found.items ≡ map (λ s. least (flat_map places (named (sets_held l.bytes l.sets) l.tag l.kind s))) (take l.k (sets_held l.bytes l.sets));
}

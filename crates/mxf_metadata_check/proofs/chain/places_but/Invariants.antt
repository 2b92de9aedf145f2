use Rattle.std.proofs.Common.{◌≡◌, ℕ, Bool, List, length, map, take}
use Rattle.mxf_metadata_check.specs.inner.Chain.{Tells, place_but}
use Rattle.mxf_metadata_check.specs.inner.Held.{sets_held}
use Rattle.mxf_op1a.specs.Metadata.{SetAt, least}
use Rattle.mxf_metadata_check.proofs.chain.places_but.Given as goal

abbrev pub invariant-loop-k : goal.invariant-loop-k
invariant-loop-k l = record {
  long : length l.found.items ≡ l.k;
  least : (bytes : List ℕ) (test : SetAt → Bool) → Tells test (sets_held bytes l.sets) l.flags
      → l.found.items ≡ map (λ s. least (place_but test s)) (take l.k (sets_held bytes l.sets));
}

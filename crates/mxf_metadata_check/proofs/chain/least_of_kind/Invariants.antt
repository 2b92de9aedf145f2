use Rattle.std.proofs.Common.{◌≡◌, ℕ, List, drop}
use Rattle.std.specs.List.{flat_map}
use Rattle.mxf_metadata_check.specs.inner.Chain.{HasLeast}
use Rattle.mxf_metadata_check.specs.inner.Held.{lesser, sets_held}
use Rattle.mxf_op1a.specs.Metadata.{SetAt, all_of_kind, least}
use Rattle.mxf_metadata_check.proofs.chain.least_of_kind.Given as goal

abbrev pub invariant-loop-k : goal.invariant-loop-k
invariant-loop-k l = (bytes : List ℕ) (places : SetAt → List ℕ) → HasLeast places (sets_held bytes l.sets) l.values
    → lesser l.found (least (flat_map places (all_of_kind l.kind (drop l.k (sets_held bytes l.sets)))))
    ≡ least (flat_map places (all_of_kind l.kind (sets_held bytes l.sets)))

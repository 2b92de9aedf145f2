use Rattle.std.proofs.Common.{◌≡◌, ◌-◌, ◌*◌, ℕ, List, drop}
use Rattle.std.specs.List.{flat_map}
use Rattle.mxf_metadata_reader.specs.References.{ids_in}
use Rattle.mxf_metadata_check.specs.inner.Chain.{HasLeast, with_ids}
use Rattle.mxf_metadata_check.specs.inner.Firsts.{TellsFirsts, ids_within}
use Rattle.mxf_metadata_check.specs.inner.Held.{lesser, sets_held}
use Rattle.mxf_op1a.specs.Metadata.{SetAt, least}
use Rattle.mxf_metadata_check.proofs.chain.least_with.Given as goal

abbrev pub invariant-loop-k : goal.invariant-loop-k
invariant-loop-k l = (bytes : List ℕ) (places : SetAt → List ℕ) → TellsFirsts l.firsts (sets_held bytes l.sets) → HasLeast places (sets_held bytes l.sets) l.values
    → lesser l.found (least (flat_map places (with_ids (sets_held bytes l.sets) l.kind (ids_in (l.count - l.k) (drop (16 * l.k) l.ids)))))
    ≡ least (flat_map places (with_ids (sets_held bytes l.sets) l.kind (ids_within l.ids)))

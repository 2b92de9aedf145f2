use Rattle.std.proofs.Common.{◌≡◌, map, take}
use Rattle.mxf_metadata_check.specs.inner.Chain.{is_picture}
use Rattle.mxf_metadata_check.specs.inner.Held.{sets_held}
use Rattle.mxf_metadata_check.proofs.flags.pictures.Given as goal

abbrev pub invariant-loop-k : goal.invariant-loop-k
invariant-loop-k l = l.flags.items ≡ map (is_picture) (take l.k (sets_held l.bytes l.sets))

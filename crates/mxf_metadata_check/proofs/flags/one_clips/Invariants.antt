use Rattle.std.proofs.Common.{◌≡◌, map, take}
use Rattle.mxf_metadata_check.specs.inner.Held.{sets_held}
use Rattle.mxf_op1a.specs.Metadata.{has_one_clip}
use Rattle.mxf_metadata_check.proofs.flags.one_clips.Given as goal

abbrev pub invariant-loop-k : goal.invariant-loop-k
invariant-loop-k l = l.flags.items ≡ map (has_one_clip (sets_held l.bytes l.sets)) (take l.k (sets_held l.bytes l.sets))

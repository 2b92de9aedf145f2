use Rattle.std.proofs.Common.{◌≡◌, map, take}
use Rattle.mxf_metadata.specs.declared.labels.TheConstants.{FILE_SET}
use Rattle.mxf_metadata_check.specs.inner.Held.{sets_held}
use Rattle.mxf_op1a.specs.Metadata.{all_of_kind, is_of_file}
use Rattle.mxf_metadata_check.proofs.flags.of_files.Given as goal

abbrev pub invariant-loop-k : goal.invariant-loop-k
invariant-loop-k l = l.flags.items ≡ map (is_of_file (all_of_kind FILE_SET (sets_held l.bytes l.sets))) (take l.k (sets_held l.bytes l.sets))

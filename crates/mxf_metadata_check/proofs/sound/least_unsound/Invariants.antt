use Rattle.std.proofs.Common.{◌≡◌, ℕ, List, drop}
use Rattle.mxf_metadata_reader.specs.inner.Places.{IsTable}
use Rattle.mxf_metadata_check.specs.inner.Firsts.{TellsFirsts}
use Rattle.mxf_metadata_check.specs.inner.Held.{lesser, sets_held}
use Rattle.mxf_metadata_check.proofs.Least.{least_but}
use Rattle.mxf_op1a.specs.Metadata.{SetAt, is_sound}
use Rattle.mxf_metadata_check.proofs.sound.least_unsound.Given as goal

abbrev pub invariant-loop-k : goal.invariant-loop-k
invariant-loop-k l = (tags : List ℕ) (all : List SetAt) → IsTable l.listed tags → TellsFirsts l.firsts all
    → lesser l.bad (least_but (is_sound tags all) (sets_held l.bytes (drop l.k l.sets))) ≡ least_but (is_sound tags all) (sets_held l.bytes l.sets)

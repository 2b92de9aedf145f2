use Rattle.std.proofs.Common.{◌≡◌, List}
use Rattle.std.specs.List.{list_all}
use Rattle.mxf_metadata_check.specs.inner.Firsts.{TellsFirsts, ids_within, is_there}
use Rattle.mxf_metadata_check.proofs.Ids.{there_from}
use Rattle.mxf_op1a.specs.Metadata.{SetAt}
use Rattle.mxf_metadata_check.proofs.names.are_there.Given as goal

abbrev pub invariant-loop-k : goal.invariant-loop-k
invariant-loop-k l = (sets : List SetAt) → TellsFirsts l.firsts sets → list_all (is_there sets) (ids_within l.ids) ≡ there_from sets l.ids l.count l.k

use Rattle.mxf_metadata_check.proofs.Ids.{TellsBefore}
use Rattle.mxf_metadata_check.proofs.firsts.firsts_of.Given as goal

abbrev pub invariant-loop-k : goal.invariant-loop-k
invariant-loop-k l = TellsBefore l.firsts l.bytes l.sets l.k

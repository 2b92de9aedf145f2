use Rattle.mxf_partitions.specs.Refusals.{RiseTo}
use Rattle.mxf_partitions.proofs.index_reading.first_fall.Given as goal

abbrev pub invariant-entries : goal.invariant-entries
invariant-entries l = RiseTo l.entries l.k

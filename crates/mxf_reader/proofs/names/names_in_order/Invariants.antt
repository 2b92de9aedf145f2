use Rattle.std.proofs.Common.{◌≡◌, drop}
use Rattle.mxf_reader.specs.inner.Names.{names_from}
use Rattle.mxf_reader.proofs.names.names_in_order.Given as goal

-- it is told by the entries and the partitions that are left
abbrev pub invariant-parts : goal.invariant-parts
invariant-parts l = names_from l.value 0 l.parts ≡ names_from l.value l.k (drop l.k l.parts)

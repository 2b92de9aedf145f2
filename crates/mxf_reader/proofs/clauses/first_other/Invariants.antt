use Rattle.std.proofs.Common.{◌≡◌, drop}
use Rattle.mxf_reader.specs.inner.Rules.{first_other}
use Rattle.mxf_reader.proofs.clauses.first_other.Given as goal

-- it is the first of those that are left
abbrev pub invariant-loop-body : goal.invariant-loop-body
invariant-loop-body l = first_other l.bodies ≡ first_other (drop l.body-index l.bodies)

use Rattle.std.proofs.Common.{◌≡◌, drop}
use Rattle.mxf_reader.specs.inner.Rules.{lacks_element}
use Rattle.mxf_reader.proofs.clauses.lacks_element.Given as goal

-- one of those that are left lacks it, if one does
abbrev pub invariant-loop-body : goal.invariant-loop-body
invariant-loop-body l = lacks_element l.bodies ≡ lacks_element (drop l.body-index l.bodies)

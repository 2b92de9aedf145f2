use Rattle.std.proofs.Common.{◌≡◌, drop}
use Rattle.mxf_reader.specs.inner.Rules.{first_bad}
use Rattle.mxf_reader.proofs.clauses.first_bad.Given as goal

-- it is the first of those that are left
abbrev pub invariant-loop-p : goal.invariant-loop-p
invariant-loop-p l = first_bad l.rule 0 l.parts ≡ first_bad l.rule l.before (drop l.p-index l.parts)

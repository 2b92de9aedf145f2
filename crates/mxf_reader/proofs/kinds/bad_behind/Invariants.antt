use Rattle.std.proofs.Common.{◌≡◌, ◌∷◌, drop}
use Rattle.mxf_reader.specs.inner.Rules.{bad_behind}
use Rattle.mxf_reader.proofs.kinds.bad_behind.Given as goal

-- it is the first of the one that was read last and those that are left
abbrev pub invariant-loop-p : goal.invariant-loop-p
invariant-loop-p l = bad_behind (l.first ∷ l.rest) ≡ bad_behind (l.last ∷ drop l.p-index l.rest)

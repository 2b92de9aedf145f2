use Rattle.std.proofs.Common.{◌≡◌, length}
use Rattle.prores_codes.specs.Pairs.{ArePairs}
use Rattle.prores_codes.proofs.pairs.Pairs.new.Given as goal

abbrev pub invariant-loop-k : goal.invariant-loop-k
invariant-loop-k l = (length l.pairs ≡ 4608) × ArePairs l.pairs l.k

use Rattle.std.proofs.Common.{◌≡◌, length}
use Rattle.prores_codes.specs.Heads.{AreRunHeads}
use Rattle.prores_codes.proofs.heads.run_heads.Given as goal

abbrev pub invariant-loop-k : goal.invariant-loop-k
invariant-loop-k l = (length l.heads ≡ 3072) × AreRunHeads l.heads l.k

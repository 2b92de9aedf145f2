use Rattle.std.proofs.Common.{◌≡◌, ◌≤◌, ◌*◌, take, sum}
use Rattle.frame_syntax.proofs.front.sum_of.Given as goal

abbrev pub invariant-sizes : goal.invariant-sizes
invariant-sizes l = record { total : l.total ≡ sum (take l.size-index l.sizes); small : l.total ≤ 65535 * l.size-index }

use Rattle.std.proofs.Common.{◌≡◌, drop}
use Rattle.prores_scan.specs.Products.{Written}
use Rattle.prores_scan.proofs.products.dequantise.Given as goal

abbrev pub invariant-loop-n : goal.invariant-loop-n
invariant-loop-n l = record {
  written : Written l.levels l.weights l.scale l.out l.n;
  rest : drop l.n l.out ≡ drop l.n l.fn.out;
}

use Rattle.std.proofs.Common.{refl, arith}
use Rattle.mxf_index.proofs.laws.segments_are_items.Goals as goal

pub returns : goal.returns
returns c = record {
  segment = λ s. record { key = refl; value = refl };
  delta = λ delta. refl;
  entry = λ entry. refl;
  fits = omega arith;
  most = omega arith;
}

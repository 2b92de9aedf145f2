use Rattle.std.proofs.Common.{sym, refl, ap, arith}
use Rattle.mxf_partitions.specs.RandomIndex.{index_value}
use Rattle.mxf_partitions.specs.laws.Lengths.{length-random_index_pack}
use Rattle.mxf_partitions.proofs.laws.packs_are_items.Goals as goal

pub returns : goal.returns
returns c = record {
  pack = λ p count long. record { key = refl; value = refl; count = count; first = refl; sized = (long, tt) };
  random_index = λ entries. record { key = refl; value = ap (index_value entries) (sym (length-random_index_pack entries)) };
  fits = omega arith;
  most = omega arith;
}

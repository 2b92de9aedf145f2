use Rattle.std.proofs.Common.{[], ◌∷◌, length, refl, sym, ap, arith}
use Rattle.klv.specs.Items.{length_limit}
use Rattle.mxf_partitions.specs.RandomIndex.{index_value, random_index_item, random_index_size}
use Rattle.mxf_partitions.specs.laws.Lengths.{length-pack_value, length-random_index_pack}
use Rattle.mxf_partitions.proofs.BackLemmas.{pack_back}
use Rattle.mxf_partitions.proofs.EntryLaws.{index_back, value_long}
use Rattle.mxf_partitions.specs.Partitions.{pack_item}
use Rattle.mxf_partitions.proofs.read_laws.packs_read_back.Goals as goal

pub returns : goal.returns
unfolding length_limit
returns c = record {
  pack = λ p r one. pack_back (pack_item p) p (p.label ∷ []) r (record { key = refl; value = refl; count = one; first = refl; sized = (r.label, tt) });
  pack_stands = λ p rest r. record {
    is_item = record { key = refl; form = omega arith; fits = omega (arith, length-pack_value p r.pattern r.label) };
    rest = rest;
    bytes_are = refl;
  };
  index = λ entries each few. index_back (random_index_item entries) entries each (omega (arith, length-random_index_pack entries))
      (record { key = refl; value = ap (index_value entries) (sym (length-random_index_pack entries)) });
  index_stands = λ entries rest few. record {
    is_item = record { key = refl; form = omega arith; fits = omega (arith, value_long entries (random_index_size (length entries))) };
    rest = rest;
    bytes_are = refl;
  };
}

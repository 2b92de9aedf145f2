use Rattle.std.proofs.Common.{refl}
use Rattle.mxf_take_file.specs.Packs.{body_pack, footer_pack}
use Rattle.mxf_take_file.specs.laws.Joins.{header_counts, body_counts, footer_counts}
use Rattle.mxf_take_file.proofs.laws.packs_count_what_stands.Goals as goal

pub returns : goal.returns
unfolding body_pack footer_pack
returns c = record {
  header = λ cfg h. let counts = header_counts cfg h in (refl, counts.1, counts.0);
  body = λ cfg units unit_len even. (refl, body_counts cfg units unit_len even);
  footer = λ cfg units h. let counts = footer_counts cfg units h in (refl, counts.0, counts.1);
}

use Rattle.std.proofs.Common.{refl}
use Rattle.mxf_take_file.specs.Extents.{extents}
use Rattle.mxf_take_file.specs.laws.Joins.{header_names, body_names, footer_names, body_essence, footer_essence}
use Rattle.mxf_take_file.proofs.laws.packs_name_their_streams.Goals as goal

pub returns : goal.returns
returns c = record {
  body = λ cfg units. body_essence cfg (extents cfg.part units);
  others = λ cfg units. (refl, (footer_essence cfg (extents cfg.part units)).0);
  index = λ cfg units. (header_names, body_names cfg (extents cfg.part units), footer_names cfg (extents cfg.part units));
}

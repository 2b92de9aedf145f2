use Rattle.prores_scan.specs.WeightsAndScales.{scale_of}
use Rattle.slice_codec.proofs.search.slice_bounds.Goals as goal

pub returns-clause-least : goal.returns-clause-least
returns-clause-least c = record {
  y_least = c.plane_bounds-y.ensures.least (scale_of c.args.index) c.double_scale-double.ensures;
  cb_least = c.plane_bounds-cb.ensures.least (scale_of c.args.index) c.double_scale-double.ensures;
  cr_least = c.plane_bounds-cr.ensures.least (scale_of c.args.index) c.double_scale-double.ensures;
}

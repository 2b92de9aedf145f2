use Rattle.mxf_op1a.proofs.JudgeLemmas.{are_apart, first_is_one, is_judged, units_are_one}
use Rattle.mxf_op1a.proofs.laws.files_are_judged_once.Goals as goal

pub returns : goal.returns
returns c = record {
  units = units_are_one c.outlines_are_one.ensures.items;
  first = first_is_one c.outlines_are_one.ensures.items;
  apart = are_apart c.outlines_are_one.ensures.items;
  judged = is_judged;
}

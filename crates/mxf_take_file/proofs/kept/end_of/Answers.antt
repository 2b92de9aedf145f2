use Rattle.std.proofs.Common.{◌∙◌}
use Rattle.mxf_take_file.proofs.KeptLemmas.{end_of_some, end_of_none}
use Rattle.mxf_take_file.proofs.kept.end_of.Goals as goal

pub returns-then-count-eq0 : goal.returns-then-count-eq0
returns-then-count-eq0 c = end_of_none c.args.places.now c.args.count c.if-count-eq0.true

pub returns : goal.returns
returns c = c.place_end.ensures ∙ end_of_some c.args.places.now c.args.count (record { at = 0; stream = 0; len = 0 }) c.if-count-eq0.false c.requires.within

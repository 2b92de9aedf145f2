use Rattle.std.proofs.Common.{rules, ◌∙◌, sym}
use Rattle.mxf_take_file.proofs.KeptLemmas.{total_of_none, total_of_all}
use Rattle.mxf_take_file.proofs.kept.total_of.Goals as goal

pub returns-then-is_empty : goal.returns-then-is_empty
returns-then-is_empty c = total_of_none c.args.places.now (search rules)

pub returns : goal.returns
returns c = c.stream_end.ensures ∙ sym (total_of_all c.args.places.now (record { at = 0; stream = 0; len = 0 }) (search rules))

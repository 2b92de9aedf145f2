use Rattle.mxf_take_file.specs.laws.Places.{body_first, body_previous, footer_previous, footer_first}
use Rattle.mxf_take_file.proofs.laws.packs_name_the_one_before.Goals as goal

pub returns : goal.returns
returns c = record { first = body_first; body = body_previous; footer = footer_previous; empty = footer_first }

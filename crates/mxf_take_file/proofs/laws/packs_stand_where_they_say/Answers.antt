use Rattle.mxf_take_file.specs.laws.Parts.{growing_len}
use Rattle.mxf_take_file.specs.laws.Places.{body_this, body_offset_is, footer_this}
use Rattle.mxf_take_file.proofs.laws.packs_stand_where_they_say.Goals as goal

pub returns : goal.returns
returns c = record { length = growing_len; body = body_this; offset = body_offset_is; footer = footer_this }

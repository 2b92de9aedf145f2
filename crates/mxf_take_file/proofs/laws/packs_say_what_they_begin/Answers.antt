use Rattle.mxf_take_file.specs.laws.Joins.{header_kind, body_kind, footer_kind}
use Rattle.mxf_take_file.proofs.laws.packs_say_what_they_begin.Goals as goal

pub returns : goal.returns
returns c = record { header = header_kind; body = body_kind; footer = footer_kind }

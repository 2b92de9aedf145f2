use Rattle.mxf_take_file.specs.laws.Joins.{body_segment, footer_segment}
use Rattle.mxf_take_file.specs.laws.Parts.{offsets_are}
use Rattle.mxf_take_file.proofs.laws.index_segments_join.Goals as goal

pub returns : goal.returns
returns c = record { body = body_segment; footer = footer_segment; counted = offsets_are }

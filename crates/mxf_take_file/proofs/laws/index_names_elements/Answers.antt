use Rattle.mxf_take_file.specs.laws.Places.{offset_is, element_stands, key_before}
use Rattle.mxf_take_file.proofs.laws.index_names_elements.Goals as goal

pub returns : goal.returns
returns c = record { offset = offset_is; element = element_stands; key = key_before }

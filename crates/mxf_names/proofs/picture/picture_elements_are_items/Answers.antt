use Rattle.mxf_names.proofs.PictureLemmas.{elements_are_items, length_element}
use Rattle.mxf_names.proofs.picture.picture_elements_are_items.Goals as goal

pub returns : goal.returns
returns c = record { sized = length_element; items = elements_are_items }

use Rattle.mxf_take_file.specs.laws.Items.{closed_spelled}
use Rattle.mxf_take_file.proofs.laws.closed_files_are_items.Goals as goal

pub returns : goal.returns
returns c = closed_spelled

use Rattle.mxf_take_file.specs.laws.Places.{entries_are}
use Rattle.mxf_take_file.proofs.laws.random_index_names_packs.Goals as goal

pub returns : goal.returns
returns c = entries_are

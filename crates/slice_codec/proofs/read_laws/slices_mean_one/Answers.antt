use Rattle.slice_codec.specs.laws.SliceLaws as laws
use Rattle.slice_codec.proofs.read_laws.slices_mean_one.Goals as goal

pub returns : goal.returns
returns c = laws.slices_mean_one

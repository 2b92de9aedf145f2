use Rattle.slice_codec.specs.laws.SliceLaws as laws
use Rattle.slice_codec.proofs.read_laws.refused_means_nothing.Goals as goal

pub returns : goal.returns
returns c = laws.refused_slices_mean_nothing

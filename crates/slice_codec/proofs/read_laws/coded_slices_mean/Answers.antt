use Rattle.slice_codec.specs.laws.RoundLaws as laws
use Rattle.slice_codec.proofs.read_laws.coded_slices_mean.Goals as goal

pub returns : goal.returns
returns c = laws.coded_slices_mean

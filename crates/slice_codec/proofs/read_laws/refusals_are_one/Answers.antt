use Rattle.slice_codec.specs.laws.OneRefusalLaws as laws
use Rattle.slice_codec.proofs.read_laws.refusals_are_one.Goals as goal

pub returns : goal.returns
returns c = laws.slice_refusals_are_one

use Rattle.picture_plane.specs.laws.SampleLaws.{zeros_are_samples}
use Rattle.picture_plane.proofs.samples.SliceSamples.new.Goals as goal

pub invariant_of-result : goal.invariant_of-result
invariant_of-result c = zeros_are_samples

use Rattle.picture_plane.specs.laws.WholeLaws.{any_samples_shown}
use Rattle.picture_plane.proofs.laws.any_samples_are_shown.Goals as goal

pub returns : goal.returns
returns c = any_samples_shown

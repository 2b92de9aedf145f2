use Rattle.picture_plane.specs.laws.ApartLaws.{frame_slices_apart, shows_stay}
use Rattle.picture_plane.proofs.laws.slices_keep_apart.Goals as goal

pub returns-clause-apart : goal.returns-clause-apart
returns-clause-apart c = frame_slices_apart

pub returns-clause-stay : goal.returns-clause-stay
returns-clause-stay c = shows_stay

use Rattle.picture_plane.specs.laws.CoverLaws.{one_spot, spot_of}
use Rattle.picture_plane.proofs.laws.samples_are_covered.Goals as goal

pub returns-clause-covered : goal.returns-clause-covered
returns-clause-covered c = spot_of

pub returns-clause-once : goal.returns-clause-once
returns-clause-once c = one_spot

use Rattle.picture_plane.specs.laws.WholeLaws.{one_picture}
use Rattle.picture_plane.proofs.laws.slices_show_one_picture.Goals as goal

pub returns : goal.returns
returns c = one_picture

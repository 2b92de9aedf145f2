use Rattle.picture_plane.specs.Views.{as_size}
use Rattle.picture_plane.proofs.PlaceSteps.{slice_is_placed}
use Rattle.picture_plane.proofs.place.place_planes.Goals as goal

pub returns-clause-placed : goal.returns-clause-placed
returns-clause-placed c =
    let a = c.args in
    slice_is_placed (as_size a.size) a.name a.samples.now a.out.now c.place_plane.new.out c.place_plane-2.new.out c.place_plane-3.new.out
    c.requires.fits.field c.place_plane.ensures c.place_plane-2.ensures c.place_plane-3.ensures

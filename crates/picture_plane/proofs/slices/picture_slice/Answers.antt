use Rattle.std.proofs.Common.{◌/◌, rules}
use Rattle.picture_plane.specs.declared.slice_names.SliceName.{SliceName}
use Rattle.picture_plane.specs.Slices.{IsSlice}
use Rattle.picture_plane.specs.Views.{as_size}
use Rattle.picture_plane.specs.laws.SliceLaws.{slice_fits}
use Rattle.picture_plane.proofs.slices.picture_slice.Goals as goal

pub returns-clause-fits : goal.returns-clause-fits
returns-clause-fits c =
    let size = as_size c.args.size in
    let name : SliceName = record { field = c.field_at.result; row = c.args.n / c.from-len.result; first = c.in-Some.first; count = c.in-Some.count } in
    let named : IsSlice size c.args.log2 c.args.picture c.args.n name = search rules in
    slice_fits size c.args.log2 c.args.picture c.args.n name c.requires.log2 named

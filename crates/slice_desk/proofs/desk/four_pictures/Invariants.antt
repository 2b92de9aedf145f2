use Rattle.std.proofs.Common.{◌≡◌, ◌≤◌, replicate}
use Rattle.std.specs.Vec.{vec_capacity}
use Rattle.rec_bytes.specs.Views.{view}
use Rattle.picture_plane.specs.Pictures.{zeros}
use Rattle.picture_plane.specs.Sizes.{size_of}
use Rattle.slice_desk.proofs.desk.four_pictures.Given as goal

-- the pictures so far
abbrev pub invariant-loop : goal.invariant-loop
invariant-loop l = record {
  made : l.pictures.items ≡ replicate l.counter (zeros (size_of (view l.cfg)));
  room : 4 ≤ vec_capacity l.pictures;
}

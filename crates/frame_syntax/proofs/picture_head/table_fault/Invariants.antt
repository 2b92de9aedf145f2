use Rattle.std.proofs.Common.{◌≡◌, ◌+◌, take, sum}
use Rattle.frame_syntax.specs.Pictures.{sizes_of, slice_room}
use Rattle.frame_syntax.proofs.picture_head.table_fault.Given as goal

abbrev pub invariant-slices : goal.invariant-slices
invariant-slices l = l.left + sum (take l.n (sizes_of l.bytes l.picture)) ≡ slice_room l.picture

use Rattle.std.proofs.Common.{◌≡◌, None}
use Rattle.std.specs.List.{range_with_len, find}
use Rattle.mxf_index.specs.Reads.{falls}
use Rattle.mxf_index.proofs.array.first_fall.Given as goal

abbrev pub invariant-frames : goal.invariant-frames
invariant-frames l = find (falls l.streams) (range_with_len 0 l.k) ≡ None

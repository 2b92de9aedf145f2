use Rattle.std.proofs.Common.{◌≡◌, drop}
use Rattle.frame_syntax.specs.Frames.{slices_of}
use Rattle.frame_syntax.proofs.frame.FrameParts.slice.Given as goal

abbrev pub invariant-passed : goal.invariant-passed
invariant-passed l = record {
  bytes : l.left.bytes ≡ l.bytes;
  left : l.left.left ≡ drop l.n (slices_of l.bytes l.self);
}

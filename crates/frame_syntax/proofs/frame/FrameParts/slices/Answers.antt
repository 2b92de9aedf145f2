use Rattle.std.proofs.Common.{List, ◌++◌, ap, ap₂}
use Rattle.frame_syntax.specs.Pictures.{Span}
use Rattle.frame_syntax.specs.SlicesLeft.{slices_left}
use Rattle.frame_syntax.proofs.RoomLemmas.{frame_roomy}
use Rattle.frame_syntax.proofs.frame.FrameParts.slices.Goals as goal

pub run_of-requires-clause-room : goal.run_of-requires-clause-room
run_of-requires-clause-room c = (frame_roomy c.args.bytes.now c.args.self.now c.requires).0

pub run_behind-requires-clause-room : goal.run_behind-requires-clause-room
run_behind-requires-clause-room c = (frame_roomy c.args.bytes.now c.args.self.now c.requires).1

pub returns : goal.returns
returns c =
    ap (slices_left c.args.bytes.now) (ap₂ (λ (xs ys : List Span). xs ++ ys) c.run_of.ensures.spans c.run_behind.ensures.spans)

use Rattle.std.proofs.Common.{◌+◌, ◌*◌, ap, ap₂, ◌∙◌}
use Rattle.picture_plane.specs.Slices.{picture_count}
use Rattle.frame_syntax.specs.Headers.{size_of}
use Rattle.frame_syntax.specs.Written.{picture_room}
use Rattle.frame_syntax.specs.declared.frame_head.FrameHead.{FrameHead}
use Rattle.frame_syntax.proofs.front.frame_room.Goals as goal

pub returns : goal.returns
returns c =
    let log2 = c.args.cfg.now.log2 in
    ap₂ (λ m n. 8 + c.head_of-head.result.head_size + m * n) c.picture_count.ensures.count c.picture_room.ensures.room
    ∙ ap (λ (h : FrameHead). 8 + h.head_size + picture_count (size_of h) * picture_room (size_of h) log2) c.head_of-head.ensures

use Rattle.picture_plane.specs.laws.PictureLaws.{chroma_start}
use Rattle.std.proofs.Common.{◌∙◌, ap, sym}
use Rattle.picture_plane.specs.Pictures.{plane_start}
use Rattle.picture_plane.specs.Views.{as_size}
use Rattle.picture_plane.proofs.frame_size.FrameSize.plane_start.Goals as goal

pub returns-in-Cr-clause-value : goal.returns-in-Cr-clause-value
returns-in-Cr-clause-value c =
    let s = c.args.self in
    chroma_start s.height s.width c.luma_len-luma.result s.even_columns c.luma_len-luma.ensures.value ∙ ap (plane_start (as_size s)) (sym c.in-Cr.is)

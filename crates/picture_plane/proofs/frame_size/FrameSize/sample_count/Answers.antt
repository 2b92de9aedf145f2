use Rattle.picture_plane.specs.laws.PictureLaws.{all_samples}
use Rattle.picture_plane.proofs.frame_size.FrameSize.sample_count.Goals as goal

pub returns-clause-value : goal.returns-clause-value
returns-clause-value c =
    let s = c.args.self in
    all_samples s.height s.width c.luma_len.result s.even_columns c.luma_len.ensures.value

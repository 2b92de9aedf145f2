use Rattle.frame_codec.proofs.OneFrameLaws as laws
use Rattle.frame_codec.proofs.laws.coded_frames_are_one.Goals as goal

pub returns : goal.returns
returns c =
    let law = c.written_frames_are_frames.ensures in
    laws.coded_frames_are_one (record { hold = law.frame; writable = law.header })

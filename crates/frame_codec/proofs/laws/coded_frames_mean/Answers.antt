use Rattle.frame_codec.proofs.CodedFrameLaws as mean
use Rattle.frame_codec.proofs.GivenBackLaws as back
use Rattle.frame_codec.proofs.laws.coded_frames_mean.Goals as goal

pub returns-clause-means : goal.returns-clause-means
returns-clause-means c =
    let law = c.written_frames_are_frames.ensures in
    mean.coded_frames_mean (record { hold = law.frame; writable = law.header })

pub returns-clause-there : goal.returns-clause-there
returns-clause-there c = back.coded_frames_give_back

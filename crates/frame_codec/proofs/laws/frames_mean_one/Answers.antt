use Rattle.frame_codec.proofs.MeaningLaws as laws
use Rattle.frame_codec.proofs.laws.frames_mean_one.Goals as goal

pub returns : goal.returns
returns c = laws.frames_mean_one

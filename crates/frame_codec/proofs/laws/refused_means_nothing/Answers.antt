use Rattle.frame_codec.proofs.MeaningLaws as laws
use Rattle.frame_codec.proofs.laws.refused_means_nothing.Goals as goal

pub returns : goal.returns
returns c = laws.refused_frames_mean_nothing

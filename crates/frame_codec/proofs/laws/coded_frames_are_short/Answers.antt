use Rattle.frame_codec.proofs.ShortFrameLemmas as laws
use Rattle.frame_codec.proofs.laws.coded_frames_are_short.Goals as goal

pub returns : goal.returns
returns c = laws.coded_frames_are_short

use Rattle.frame_codec.proofs.RoomLemmas.{slice_room_small}
use Rattle.frame_codec.proofs.source.slices_are_short.Goals as goal

pub returns : goal.returns
returns c = λ fields n ranges lt. slice_room_small fields n ranges.log2 lt

use Rattle.mxf_op1a.proofs.StandLemmas.{inside, rise, stand}
use Rattle.mxf_op1a.proofs.whole.items_stand_at_their_places.Goals as goal

pub returns : goal.returns
returns c = record { stand = stand; rise = rise c.items_have_lengths.ensures.whole; inside = inside c.items_have_lengths.ensures.whole }

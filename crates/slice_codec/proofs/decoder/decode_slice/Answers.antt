use Rattle.slice_codec.proofs.decoder.decode_slice.Goals as goal

pub returns-clause-accepted : goal.returns-clause-accepted
returns-clause-accepted c = rw c.new-decoder.ensures at c.decode.ensures.accepted

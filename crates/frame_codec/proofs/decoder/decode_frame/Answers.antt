use Rattle.std.proofs.lemmas.Result.{IfErr-weaker}
use Rattle.frame_codec.proofs.MeaningLaws.{memory_alone}
use Rattle.frame_codec.proofs.decoder.decode_frame.Goals as goal

pub returns-clause-accepted : goal.returns-clause-accepted
returns-clause-accepted c picture means =
    IfErr-weaker c.read_picture.result _ _ (λ fault refuses. memory_alone c.args.bytes.now fault picture refuses means) c.read_picture.ensures.refused

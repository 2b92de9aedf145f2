use Rattle.std.proofs.lemmas.Result.{IfErr-weaker}
use Rattle.slice_workers.proofs.ReadingLemmas.{memory_alone}
use Rattle.slice_workers.proofs.decoder.decode_with.Goals as goal

pub returns-clause-accepted : goal.returns-clause-accepted
returns-clause-accepted g c picture means =
    IfErr-weaker c.read_with.result _ _ (λ fault refuses. memory_alone c.refused_means_nothing.ensures c.args.bytes.now fault picture refuses means) c.read_with.ensures.refused

use Rattle.std.proofs.lemmas.Result.{IfOk-weaker}
use Rattle.mxf_reader.proofs.ItemLemmas.{value_read}
use Rattle.mxf_reader.proofs.names.read_value.Goals as goal

pub returns-clause-read : goal.returns-clause-read
returns-clause-read g c =
    IfOk-weaker c.read_span.result _ _
    (λ value read told is p mark. value_read told.essence.reads value.items c.args.m.now p mark (read told is)) c.read_span.ensures.read

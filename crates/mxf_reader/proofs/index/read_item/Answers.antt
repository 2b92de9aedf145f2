use Rattle.std.proofs.lemmas.Result.{IfOk-weaker}
use Rattle.mxf_reader.proofs.ItemLemmas.{item_read}
use Rattle.mxf_reader.proofs.index.read_item.Goals as goal

pub returns-clause-read : goal.returns-clause-read
returns-clause-read g c =
    IfOk-weaker c.read_span.result _ _
    (λ bytes read told is p mark. item_read told.essence.reads bytes.items c.args.m.now p mark (read told is)) c.read_span.ensures.read

use Rattle.std.proofs.Common.{sym, ap, ◌∙◌}
use Rattle.std.proofs.lemmas.Result.{IfOk-weaker}
use Rattle.mxf_index.specs.Reads.{frames_of}
use Rattle.mxf_reader.specs.inner.Index.{added, streams_of}
use Rattle.mxf_reader.proofs.SegmentLemmas.{one_item, refused_none}
use Rattle.mxf_reader.proofs.index.entries_in.Goals as goal

pub returns-in-Err-clause-added : goal.returns-in-Err-clause-added
returns-in-Err-clause-added c =
    IfOk-weaker c.no_entries.result _ _
    (λ more none item stands.
    none.0
    ∙ sym (ap (added c.args.first (streams_of c.args.left.now))
    (refused_none c.items_are_unique.ensures.first c.args.bytes.now c.in-Err.fault item stands none.1 c.in-Err.ensures.refused)))
    c.no_entries.ensures

pub returns-in-Ok-clause-added : goal.returns-in-Ok-clause-added
returns-in-Ok-clause-added c = λ item stands.
    let read = c.in-Ok.ensures.read in
    let same = one_item c.items_are_unique.ensures.first c.args.bytes.now item read.item stands read.stands in
    c.entries_of.ensures.added ∙ sym (ap (added c.args.first (streams_of c.args.left.now)) (ap frames_of same ∙ read.says))

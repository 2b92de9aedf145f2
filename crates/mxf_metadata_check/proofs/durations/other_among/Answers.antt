use Rattle.std.proofs.Common.{sym, ◌∙◌}
use Rattle.mxf_metadata_check.proofs.Sets.{passes_all, passes_cut, passes_found, passes_more}
use Rattle.mxf_metadata_check.proofs.Walk.{stands_so}
use Rattle.mxf_metadata_check.proofs.durations.other_among.Goals as goal

pub klv_lasts-requires : goal.klv_lasts-requires
klv_lasts-requires c = (stands_so c.args.bytes.now c.loop-place.place c.in-Ok.klv c.in-Ok.ensures.stands c.loop-place.invariant.inside).within

pub returns-then-not-klv_lasts : goal.returns-then-not-klv_lasts
returns-then-not-klv_lasts c =
    passes_found c.items_are_unique.ensures.first c.args.bytes.now c.args.start c.args.at c.args.duration.now c.loop-place.place c.in-Ok.klv c.loop-place-test.true
    c.in-Ok.ensures.stands (sym c.klv_lasts.ensures ∙ c.if-not-klv_lasts.true) c.loop-place.invariant

pub loop-place-preserved : goal.loop-place-preserved
loop-place-preserved c =
    passes_more c.items_are_unique.ensures.first c.args.bytes.now c.args.start c.args.at c.args.duration.now c.loop-place.place c.in-Ok.klv c.loop-place-test.true
    c.in-Ok.ensures.stands (sym c.klv_lasts.ensures ∙ c.if-not-klv_lasts.false) c.loop-place.invariant

pub returns-in-Err : goal.returns-in-Err
returns-in-Err c =
    passes_cut c.args.bytes.now c.args.start c.args.at c.args.duration.now c.loop-place.place c.loop-place-test.true (λ h. let bad = c.in-Err.ensures.accepted.1 h in absurd (cc)) c.loop-place.invariant

pub returns : goal.returns
returns c = passes_all c.args.bytes.now c.args.start c.args.at c.args.duration.now c.loop-place.place c.loop-place-test.false c.loop-place.invariant

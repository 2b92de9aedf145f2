use Rattle.std.proofs.Common.{List, sym, subst}
use Rattle.mxf_metadata_check.specs.declared.outline.Held.{Held}
use Rattle.mxf_metadata_check.proofs.Sets.{Kept, kept_all, kept_cut, kept_more}
use Rattle.mxf_metadata_check.proofs.outline.sets_of.Goals as goal

pub loop-place-preserved : goal.loop-place-preserved
loop-place-preserved c =
    subst (λ (all : List Held). Kept c.args.bytes.now c.args.start c.args.at c.in-Ok.klv.end all) (sym c.in_ok-keep_set-in-Ok.ensures)
    (kept_more c.items_are_unique.ensures.first c.args.bytes.now c.args.start c.args.at c.loop-place.place c.loop-place.sets.items c.in-Ok.klv c.loop-place-test.true
    c.in-Ok.ensures.stands c.loop-place.invariant)

pub returns-in-Err-clause-sets : goal.returns-in-Err-clause-sets
returns-in-Err-clause-sets c =
    kept_cut c.args.bytes.now c.args.start c.args.at c.loop-place.place c.loop-place.sets.items c.loop-place-test.true (λ h. let bad = c.in-Err.ensures.accepted.1 h in absurd (cc)) c.loop-place.invariant

pub returns-clause-sets : goal.returns-clause-sets
returns-clause-sets c =
    kept_all c.args.bytes.now c.args.start c.args.at c.loop-place.place c.loop-place.sets.items c.loop-place-test.false c.loop-place.invariant

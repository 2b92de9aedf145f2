use Rattle.std.proofs.Common.{List, sym, subst}
use Rattle.mxf_metadata_reader.specs.inner.Places.{Passed}
use Rattle.mxf_metadata_reader.proofs.OutlineLemmas.{passed_none, passed_more}
use Rattle.mxf_metadata_reader.specs.declared.outline.SetPlace.{SetPlace}
use Rattle.mxf_metadata_reader.proofs.outline.outline_of.Goals as goal

pub loop-at-init : goal.loop-at-init
loop-at-init c =
    subst (λ (places : List SetPlace). Passed c.args.bytes.now c.args.start c.args.start places) (sym c.new-sets.ensures.items)
    (passed_none c.args.bytes.now c.args.start c.requires)

pub loop-at-preserved : goal.loop-at-preserved
loop-at-preserved c =
    subst (λ (places : List SetPlace). Passed c.args.bytes.now c.args.start c.in-Ok.klv.end places) (sym c.in_ok-keep_set-in-Ok.ensures)
    (passed_more c.args.bytes.now c.args.start c.loop-at.at c.loop-at.sets.items c.in-Ok.klv c.loop-at.invariant c.in-Ok.ensures.stands)

use Rattle.std.proofs.Common.{take, refl, sym, ap, ◌∙◌}
use Rattle.local_sets.specs.Reads.{items_in}
use Rattle.mxf_metadata_check.proofs.Taken.{lacks_all, lacks_cut, lacks_found, lacks_more, lacks_none}
use Rattle.mxf_metadata_check.proofs.Walk.{stands_so}
use Rattle.mxf_metadata_check.proofs.takes.value_of_kind.Goals as goal

pub loop-place-init : goal.loop-place-init
loop-place-init c = lacks_none c.args.bytes.now c.args.start c.args.kind c.requires

pub value_of-requires : goal.value_of-requires
value_of-requires c = (stands_so c.args.bytes.now c.loop-place.place c.in-Ok.klv c.in-Ok.ensures.stands c.loop-place.invariant.inside).within

pub returns-then-is_of_kind : goal.returns-then-is_of_kind
returns-then-is_of_kind c = λ at items are.
    lacks_found c.items_are_unique.ensures.first c.args.bytes.now c.args.start c.args.kind c.loop-place.place c.in-Ok.klv c.loop-place-test.true
    c.in-Ok.ensures.stands (sym c.is_of_kind.ensures ∙ c.if-is_of_kind.true) c.loop-place.invariant at items are
    ∙ ap items_in (sym c.value_of.ensures)

pub loop-place-preserved : goal.loop-place-preserved
loop-place-preserved c =
    lacks_more c.items_are_unique.ensures.first c.args.bytes.now c.args.start c.args.kind c.loop-place.place c.in-Ok.klv c.loop-place-test.true
    c.in-Ok.ensures.stands (sym c.is_of_kind.ensures ∙ c.if-is_of_kind.false) c.loop-place.invariant

pub returns-in-Err : goal.returns-in-Err
returns-in-Err c =
    lacks_cut c.args.bytes.now c.args.start c.args.kind c.loop-place.place (take 0 c.args.bytes.now) c.loop-place-test.true
    (λ h. let bad = c.in-Err.ensures.accepted.1 h in absurd (cc)) c.loop-place.invariant

pub returns : goal.returns
returns c =
    lacks_all c.args.bytes.now c.args.start c.args.kind c.loop-place.place (take 0 c.args.bytes.now) c.loop-place-test.false refl c.loop-place.invariant

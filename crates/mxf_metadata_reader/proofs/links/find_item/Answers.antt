use Rattle.std.proofs.Common.{sym, ◌∙◌}
use Rattle.mxf_metadata_reader.proofs.LinkLemmas.{found_end, found_here, found_later, found_none}
use Rattle.mxf_metadata_reader.proofs.links.find_item.Goals as goal

pub returns-in-None-clause-first : goal.returns-in-None-clause-first
returns-in-None-clause-first c =
    sym (c.loop-at.invariant.first ∙ found_none c.args.value.now c.args.tag c.loop-at.at c.in-None.ensures)

pub returns-then-item-tag-clause-first : goal.returns-then-item-tag-clause-first
returns-then-item-tag-clause-first c =
    let item = c.in-Some.ensures in
    sym (c.loop-at.invariant.first ∙ found_here c.args.value.now c.args.tag c.loop-at.at c.in-Some.item item.0 item.1 item.2 c.if-item-tag.true)

pub loop-at-preserved : goal.loop-at-preserved
loop-at-preserved c =
    let item = c.in-Some.ensures in
    record {
      place = item.2;
      first = c.loop-at.invariant.first ∙ found_later c.args.value.now c.args.tag c.loop-at.at c.in-Some.item item.0 item.1 item.2 c.if-item-tag.false;
    }

pub returns-clause-first : goal.returns-clause-first
returns-clause-first c = sym (c.loop-at.invariant.first ∙ found_end c.args.value.now c.args.tag c.loop-at.at c.loop-at-test.false)

use Rattle.std.proofs.Common.{◌≡◌, ◌+◌, ℕ, drop, Some, sym, ap, ◌∙◌, arith}
use Rattle.std.proofs.lemmas.List.{take_rest}
use Rattle.mxf_metadata_reader.specs.Faults.{cut_tag}
use Rattle.mxf_metadata_reader.specs.declared.fault.SetFault.TheVariants.{SetCut}
use Rattle.mxf_metadata_reader.proofs.FormLemmas.{part_cut, part_end, part_next, part_whole, part_wrong}
use Rattle.mxf_metadata_reader.proofs.forms.set_fault.Goals as goal

pub loop-at-init : goal.loop-at-init
loop-at-init c = record { place = omega arith; fault = λ tags table. part_whole tags c.args.value.now c.args.start }

pub returns-in-None : goal.returns-in-None
returns-in-None c = λ tags table.
    let cut : c.cut_tag.result ≡ cut_tag (drop c.loop-at.at c.args.value.now) = rw take_rest at c.cut_tag.ensures in
    ap (λ (tag : ℕ). Some (SetCut (c.args.start + c.loop-at.at) tag)) cut
    ∙ sym (c.loop-at.invariant.fault tags table ∙ part_cut tags c.args.value.now c.args.start c.loop-at.at c.loop-at-test.true c.in-None.ensures)

pub returns-in-Some-item_fault : goal.returns-in-Some-item_fault
returns-in-Some-item_fault c = λ tags table.
    let item = c.in-Some.ensures in
    sym (c.loop-at.invariant.fault tags table
    ∙ part_wrong tags c.args.value.now c.args.start c.loop-at.at c.in-Some.item c.in-Some-item_fault.fault item.0 item.1 item.2
    (sym (c.in-Some-item_fault.ensures tags table)))

pub loop-at-preserved : goal.loop-at-preserved
loop-at-preserved c =
    let item = c.in-Some.ensures in
    record {
      place = item.2;
      fault = λ tags table.
          c.loop-at.invariant.fault tags table
          ∙ part_next tags c.args.value.now c.args.start c.loop-at.at c.in-Some.item item.0 item.1 item.2
          (sym (c.in-None-item_fault.ensures tags table));
    }

pub returns : goal.returns
returns c = λ tags table.
    sym (c.loop-at.invariant.fault tags table ∙ part_end tags c.args.value.now c.args.start c.loop-at.at c.loop-at-test.false)

use Rattle.std.proofs.Common.{sym, ◌∙◌, arith}
use Rattle.mxf_metadata_reader.proofs.NameLemmas.{names_cut, names_end, names_next, names_whole, names_wrong}
use Rattle.mxf_metadata_reader.proofs.links.names_fault.Goals as goal

pub loop-at-init : goal.loop-at-init
loop-at-init c = record { place = omega arith; fault = λ sets holds. names_whole sets c.args.value.now c.args.start }

pub returns-in-None : goal.returns-in-None
returns-in-None c = λ sets holds.
    sym (c.loop-at.invariant.fault sets holds ∙ names_cut sets c.args.value.now c.args.start c.loop-at.at c.in-None.ensures)

pub returns-in-Some-name_fault : goal.returns-in-Some-name_fault
returns-in-Some-name_fault c = λ sets holds.
    let item = c.in-Some.ensures in
    sym (c.loop-at.invariant.fault sets holds
    ∙ names_wrong sets c.args.value.now c.args.start c.loop-at.at c.in-Some.item c.in-Some-name_fault.fault item.0 item.1 item.2
    (sym (c.in-Some-name_fault.ensures sets holds)))

pub loop-at-preserved : goal.loop-at-preserved
loop-at-preserved c =
    let item = c.in-Some.ensures in
    record {
      place = item.2;
      fault = λ sets holds.
          c.loop-at.invariant.fault sets holds
          ∙ names_next sets c.args.value.now c.args.start c.loop-at.at c.in-Some.item item.0 item.1 item.2 (sym (c.in-None-name_fault.ensures sets holds));
    }

pub returns : goal.returns
returns c = λ sets holds.
    sym (c.loop-at.invariant.fault sets holds ∙ names_end sets c.args.value.now c.args.start c.loop-at.at c.loop-at-test.false)

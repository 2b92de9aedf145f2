use Rattle.std.proofs.Common.{sym, ◌∙◌, arith, refl}
use Rattle.mxf_metadata_check.proofs.Items.{whole_cut, whole_fails, whole_next, whole_past}
use Rattle.mxf_op1a.specs.Metadata.{is_sound_item}
use Rattle.mxf_metadata_check.proofs.sound.is_sound.Goals as goal

pub loop-at-init : goal.loop-at-init
loop-at-init c = record { place = omega arith; same = λ tags sets table tells. refl }

pub returns-in-None : goal.returns-in-None
returns-in-None c = λ tags sets table tells.
    sym (c.loop-at.invariant.same tags sets table tells
    ∙ whole_cut (is_sound_item tags sets) c.args.value.now c.loop-at.at c.loop-at-test.true c.in-None.ensures)

pub returns-then-not-is_sound_item : goal.returns-then-not-is_sound_item
returns-then-not-is_sound_item c = λ tags sets table tells.
    let item = c.in-Some.ensures in
    sym (c.loop-at.invariant.same tags sets table tells
    ∙ whole_fails (is_sound_item tags sets) c.args.value.now c.loop-at.at c.in-Some.item item.0 item.1 item.2
    (sym (c.is_sound_item.ensures tags sets table tells) ∙ c.if-not-is_sound_item.true))

pub loop-at-preserved : goal.loop-at-preserved
loop-at-preserved c =
    let item = c.in-Some.ensures in
    record {
      place = item.2;
      same = λ tags sets table tells.
          c.loop-at.invariant.same tags sets table tells
          ∙ whole_next (is_sound_item tags sets) c.args.value.now c.loop-at.at c.in-Some.item item.0 item.1 item.2
          (sym (c.is_sound_item.ensures tags sets table tells) ∙ c.if-not-is_sound_item.false);
    }

pub returns : goal.returns
returns c = λ tags sets table tells.
    sym (c.loop-at.invariant.same tags sets table tells ∙ whole_past (is_sound_item tags sets) c.args.value.now c.loop-at.at c.loop-at-test.false)

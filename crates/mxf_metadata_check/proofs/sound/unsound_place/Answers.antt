use Rattle.std.proofs.Common.{◌≡◌, false, sym, ap, ◌∙◌}
use Rattle.mxf_metadata_check.specs.inner.Firsts.{all_whole}
use Rattle.mxf_metadata_check.specs.inner.Held.{set_held}
use Rattle.mxf_metadata_check.proofs.Least.{but_one}
use Rattle.mxf_op1a.specs.Metadata.{is_sound, is_sound_item}
use Rattle.mxf_metadata_check.proofs.sound.unsound_place.Goals as goal

pub returns-else-is_sound : goal.returns-else-is_sound
returns-else-is_sound c = λ tags sets table tells.
    let e : is_sound tags sets (set_held c.args.bytes.now c.args.held.now) ≡ false =
    ap (all_whole (is_sound_item tags sets)) (sym c.held_value.ensures) ∙ sym (c.is_sound.ensures tags sets table tells) ∙ c.if-is_sound.false in
    sym (but_one (is_sound tags sets) (set_held c.args.bytes.now c.args.held.now) false e)

use Rattle.std.proofs.Common.{rules, ℕ, subst, ◌≡◌, ◌+◌, ◌-◌, length, take, drop, arith, ap, ◌∙◌, refl}
use Rattle.std.proofs.lemmas.List.{take_rest, length-drop}
use Rattle.prores_scan.specs.WeightsAndScales.{scale_of}
use Rattle.slice_codec.specs.inner.Bounded.{AreLeast}
use Rattle.slice_codec.proofs.WritingLemmas.{slice_passes, lent_slice_is}
use Rattle.slice_codec.proofs.writing.write_slice.Goals as goal

pub write_parts-requires-clause-least : goal.write_parts-requires-clause-least
write_parts-requires-clause-least c = λ scale twice.
    let same : scale_of c.args.index ≡ scale = omega (arith, twice, c.double_scale-double.ensures) in
    subst (λ (n : ℕ). AreLeast n c.args.y.now c.args.cb.now c.args.cr.now c.args.bounds.now) same c.requires.least

pub returns-in_err-y_len-clause-refused : goal.returns-in_err-y_len-clause-refused
returns-in_err-y_len-clause-refused c = λ setup count samples weighed none.
    let out = c.args.out.now in
    let left : length (take (length out - 6) (drop 6 out)) ≡ length out - 6 = ap length (take_rest out 6) ∙ length-drop 6 out in
    slice_passes setup c.args.index count samples (length out) (length (take (length out - 6) (drop 6 out))) left
    (c.in_err-y_len.ensures.refused setup c.args.index count samples c.double_scale-double.ensures weighed refl)

pub returns-clause-written : goal.returns-clause-written
returns-clause-written c = λ setup count samples weighed.
    let y = c.in_ok-y_len.y_len in
    let cb = c.in_ok-y_len.cb_len in
    let cr = c.in_ok-y_len.cr_len in
    lent_slice_is setup count samples (6 + y + cb + cr) c.args.index y cb cr c.put_head.new.out c.args.out.now c.write_parts.new.out
    (omega arith) c.in_ok-y_len.ensures.within (search rules) c.put_head.ensures
    (c.in_ok-y_len.ensures.written setup c.args.index count samples c.double_scale-double.ensures weighed)

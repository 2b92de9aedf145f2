use Rattle.std.proofs.Common.{rules, ◌≡◌, ◌≤◌, ◌+◌, ◌-◌, ◌/◌, length, take, drop, ap, ◌∙◌, refl, arith}
use Rattle.std.proofs.lemmas.List.{take_rest, length-drop}
use Rattle.prores_scan.specs.WeightsAndScales.{scale_of}
use Rattle.picture_plane.specs.declared.planes.Plane.TheVariants.{Y, Cb, Cr}
use Rattle.picture_plane.specs.Blocks.{blocks_in}
use Rattle.slice_codec.proofs.PartsLemmas.{are_parts, chroma_passes}
use Rattle.slice_codec.proofs.WeighedLemmas.{never}
use Rattle.slice_codec.proofs.LeastLemmas.{luma_passes_before}
use Rattle.slice_codec.proofs.parts.write_parts.Goals as goal

pub write_plane-requires-clause-left : goal.write_plane-requires-clause-left
write_plane-requires-clause-left c = λ scale twice. (c.requires.least scale twice).y_least.left

pub write_chroma-requires-clause-cb_least : goal.write_chroma-requires-clause-cb_least
write_chroma-requires-clause-cb_least c = λ scale twice. (c.requires.least scale twice).cb_least

pub write_chroma-requires-clause-cr_least : goal.write_chroma-requires-clause-cr_least
write_chroma-requires-clause-cr_least c = λ scale twice. (c.requires.least scale twice).cr_least

pub returns-in_err-y_len-clause-roomy : goal.returns-in_err-y_len-clause-roomy
returns-in_err-y_len-clause-roomy c = λ wide.
    let least = c.requires.least (c.args.double.divisor / 2) (omega (arith, c.requires.even)) in
    absurd (never (c.in_err-y_len.ensures.roomy (omega (arith, wide, c.bytes_of.ensures, c.bytes_of-2.ensures, least.cb_least.few, least.cr_least.few))))

pub returns-in_err-y_len-clause-refused : goal.returns-in_err-y_len-clause-refused
returns-in_err-y_len-clause-refused c = λ setup index count samples e weighed none.
    let some : 1 ≤ scale_of index = omega (arith, e) in
    let least = c.requires.least (scale_of index) e in
    luma_passes_before setup index count samples (length c.args.out.now) (c.bytes_of.result + c.bytes_of-2.result) c.args.cb.now c.args.cr.now c.write_plane.new.out
    c.args.bounds.now.cb c.args.bounds.now.cr some c.requires.cb c.requires.cr weighed.cb_weighed weighed.cr_weighed least.cb_least least.cr_least
    (omega (arith, c.bytes_of.ensures, c.bytes_of-2.ensures)) (c.in_err-y_len.ensures.written setup index Y (blocks_in samples Y count) e weighed.y_weighed)

pub returns-in_err-cb_len-clause-refused : goal.returns-in_err-cb_len-clause-refused
returns-in_err-cb_len-clause-refused c = λ setup index count samples e weighed none.
    let xs = c.write_plane.new.out in
    let a = c.in_ok-y_len.y_len in
    let left : length (take (length xs - a) (drop a xs)) ≡ length xs - a = ap length (take_rest xs a) ∙ length-drop a xs in
    let same : length xs ≡ length c.args.out.now = search rules in
    chroma_passes setup index count samples (length c.args.out.now) (length c.args.out.now - (c.bytes_of.result + c.bytes_of-2.result)) (length (take (length xs - a) (drop a xs))) a xs
    same (left ∙ ap (λ n. n - a) same) c.in_ok-y_len.ensures.within
    (c.in_ok-y_len.ensures.written setup index Y (blocks_in samples Y count) e weighed.y_weighed)
    (c.in_err-cb_len.ensures.refused setup index (blocks_in samples Cb count) (blocks_in samples Cr count) e weighed.cb_weighed weighed.cr_weighed refl)

pub returns-clause-written : goal.returns-clause-written
returns-clause-written c = λ setup index count samples e weighed.
    let xs = c.write_plane.new.out in
    let a = c.in_ok-y_len.y_len in
    are_parts setup index count samples a c.in_ok-cb_len.cb_len c.in_ok-cb_len.cr_len xs c.write_chroma.new.out (length c.args.out.now - (c.bytes_of.result + c.bytes_of-2.result))
    c.in_ok-y_len.ensures.within (c.in_ok-y_len.ensures.written setup index Y (blocks_in samples Y count) e weighed.y_weighed)
    (c.in_ok-cb_len.ensures.written setup index (blocks_in samples Cb count) (blocks_in samples Cr count) e weighed.cb_weighed weighed.cr_weighed)

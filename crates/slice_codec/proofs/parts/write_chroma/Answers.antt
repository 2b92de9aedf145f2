use Rattle.std.proofs.Common.{rules, ◌≡◌, ◌≤◌, ◌-◌, ◌/◌, length, take, drop, ap, ◌∙◌, arith}
use Rattle.std.proofs.lemmas.List.{take_rest, length-drop}
use Rattle.prores_scan.specs.WeightsAndScales.{scale_of}
use Rattle.picture_plane.specs.declared.planes.Plane.TheVariants.{Cb, Cr}
use Rattle.slice_codec.proofs.PartsLemmas.{are_chroma, second_passes}
use Rattle.slice_codec.proofs.WeighedLemmas.{never}
use Rattle.slice_codec.proofs.LeastLemmas.{first_passes_before}
use Rattle.slice_codec.proofs.parts.write_chroma.Goals as goal

pub write_plane-requires-clause-left : goal.write_plane-requires-clause-left
write_plane-requires-clause-left c = λ scale twice. (c.requires.cb_least scale twice).left

pub write_plane-requires-2-clause-left : goal.write_plane-requires-2-clause-left
write_plane-requires-2-clause-left c = λ scale twice. (c.requires.cr_least scale twice).left

pub returns-in_err-cb_len-clause-roomy : goal.returns-in_err-cb_len-clause-roomy
returns-in_err-cb_len-clause-roomy c = λ wide.
    let least = c.requires.cr_least (c.args.double.divisor / 2) (omega (arith, c.requires.even)) in
    absurd (never (c.in_err-cb_len.ensures.roomy (omega (arith, wide, c.bytes_of-reserve.ensures, least.few))))

pub returns-in_err-cb_len-clause-refused : goal.returns-in_err-cb_len-clause-refused
returns-in_err-cb_len-clause-refused c = λ setup index cb_blocks cr_blocks e cb cr none.
    let some : 1 ≤ scale_of index = omega (arith, e) in
    first_passes_before setup index cb_blocks cr_blocks (length c.args.out.now) c.bytes_of-reserve.result c.args.cr.now c.write_plane.new.out c.args.bounds.now.cr some
    c.requires.cr cr (c.requires.cr_least (scale_of index) e) c.bytes_of-reserve.ensures (c.in_err-cb_len.ensures.written setup index Cb cb_blocks e cb)

pub returns-in_err-cr_len-clause-refused : goal.returns-in_err-cr_len-clause-refused
returns-in_err-cr_len-clause-refused c = λ setup index cb_blocks cr_blocks e cb cr none.
    let xs = c.write_plane.new.out in
    let a = c.in_ok-cb_len.cb_len in
    let left : length (take (length xs - a) (drop a xs)) ≡ length xs - a = ap length (take_rest xs a) ∙ length-drop a xs in
    let same : length xs ≡ length c.args.out.now = search rules in
    second_passes setup index cb_blocks cr_blocks (length c.args.out.now) (length c.args.out.now - c.bytes_of-reserve.result) (length (take (length xs - a) (drop a xs)) - 0) a xs
    c.write_plane-2.new.out same (omega (arith, left, same)) c.in_ok-cb_len.ensures.within
    (c.in_ok-cb_len.ensures.written setup index Cb cb_blocks e cb) (c.in_err-cr_len.ensures.written setup index Cr cr_blocks e cr)

pub returns-clause-written : goal.returns-clause-written
returns-clause-written c = λ setup index cb_blocks cr_blocks e cb cr.
    let xs = c.write_plane.new.out in
    let a = c.in_ok-cb_len.cb_len in
    are_chroma setup index cb_blocks cr_blocks a c.in_ok-cr_len.cr_len xs c.write_plane-2.new.out (length c.args.out.now - c.bytes_of-reserve.result)
    (length (take (length xs - a) (drop a xs)) - 0)
    c.in_ok-cb_len.ensures.within (c.in_ok-cb_len.ensures.written setup index Cb cb_blocks e cb) (c.in_ok-cr_len.ensures.written setup index Cr cr_blocks e cr)

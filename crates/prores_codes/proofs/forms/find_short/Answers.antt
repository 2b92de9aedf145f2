use Rattle.std.proofs.Common.{◌≡◌, ◌*◌, ◌%◌, ◌^◌, arith}
use Rattle.std.proofs.lemmas.Nat.{shl_whole}
use Rattle.prores_codes.specs.laws.Lengths.{narrow_code}
use Rattle.prores_codes.specs.Codes.{parameters}
use Rattle.prores_codes.proofs.Made.{found_short}
use Rattle.prores_codes.proofs.forms.find_short.Goals as goal

pub overflow_sub-result : goal.overflow_sub-result
overflow_sub-result c =
    let found = found_short (parameters c.args.code) c.args.next c.args.zeros (narrow_code c.args.code) c.requires.few c.requires.highest c.requires.all in
    omega (arith, c.power_of_two.ensures, found.0)

pub returns : goal.returns
returns c =
    let z = c.args.zeros in
    let found = found_short (parameters c.args.code) c.args.next z (narrow_code c.args.code) c.requires.few c.requires.highest c.requires.all in
    let whole : z * 2 ^ c.args.code.r % 2 ^ 32 ≡ z * 2 ^ c.args.code.r = shl_whole z 2 c.args.code.r 32 (omega (arith, c.requires.few, c.args.code.switch)) (omega (arith, c.args.code.rice)) in
    rw (c.power_of_two.ensures, c.from.ensures, whole) found.1

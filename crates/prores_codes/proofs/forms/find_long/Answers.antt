use Rattle.std.proofs.Common.{arith}
use Rattle.prores_codes.specs.laws.Lengths.{narrow_code}
use Rattle.prores_codes.specs.Codes.{parameters}
use Rattle.prores_codes.proofs.Made.{found_long}
use Rattle.prores_codes.proofs.forms.find_long.Goals as goal

pub overflow_sub-result : goal.overflow_sub-result
overflow_sub-result c =
    let found = found_long (parameters c.args.code) c.args.next c.args.zeros (narrow_code c.args.code) c.requires.more (omega (arith, c.requires.few, c.args.code.switch, c.args.code.golomb)) c.requires.highest c.requires.all in
    omega (arith, c.power_of_two.ensures, found.0)

pub returns : goal.returns
returns c =
    let found = found_long (parameters c.args.code) c.args.next c.args.zeros (narrow_code c.args.code) c.requires.more (omega (arith, c.requires.few, c.args.code.switch, c.args.code.golomb)) c.requires.highest c.requires.all in
    rw (c.power_of_two.ensures, c.short_count.ensures) found.1

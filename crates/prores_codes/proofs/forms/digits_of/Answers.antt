use Rattle.std.proofs.Common.{arith}
use Rattle.prores_codes.specs.laws.Digits.{digits_from_leading}
use Rattle.prores_codes.proofs.forms.digits_of.Goals as goal

pub returns-clause-digits : goal.returns-clause-digits
returns-clause-digits c = digits_from_leading 64 c.args.number c.requires (omega (arith, c.ranges.number))

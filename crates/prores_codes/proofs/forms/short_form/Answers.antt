use Rattle.std.proofs.lemmas.Nat.{and_mask}
use Rattle.prores_codes.specs.laws.Lengths.{narrow_code}
use Rattle.prores_codes.specs.Codes.{parameters}
use Rattle.prores_codes.proofs.Made.{short_is_form}
use Rattle.prores_codes.proofs.forms.short_form.Goals as goal

pub returns : goal.returns
returns c = rw (c.power_of_two-one.ensures, and_mask c.args.n c.args.code.r) (short_is_form (parameters c.args.code) c.args.n (narrow_code c.args.code) c.requires)

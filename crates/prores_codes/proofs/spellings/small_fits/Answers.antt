use Rattle.prores_codes.specs.Codes.{parameters}
use Rattle.prores_codes.specs.laws.Lengths.{narrow_code, small_fits}
use Rattle.prores_codes.proofs.spellings.small_fits.Goals as goal

pub returns : goal.returns
returns c = small_fits (parameters c.args.code) c.args.n c.args.digits (narrow_code c.args.code) c.requires.small c.requires.short

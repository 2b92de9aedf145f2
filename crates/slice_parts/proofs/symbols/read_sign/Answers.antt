use Rattle.std.proofs.Common.{subst}
use Rattle.bit_io.specs.Read.{Takes}
use Rattle.slice_parts.proofs.PairLemmas.{one_bit}
use Rattle.slice_parts.proofs.symbols.read_sign.Goals as goal

pub returns-in-Ok-clause-read : goal.returns-in-Ok-clause-read
returns-in-Ok-clause-read c = subst (Takes c.args.bits.now c.get.new.self) (one_bit c.in-Ok.sign c.in-Ok.ensures.read.small) c.in-Ok.ensures.read.taken

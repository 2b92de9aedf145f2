use Rattle.std.proofs.Common.{arith}
use Rattle.local_sets.specs.laws.Lengths.{length-utf16_bytes}
use Rattle.local_sets.proofs.value.text_len.Goals as goal

pub returns : goal.returns
returns c = omega (arith, length-utf16_bytes c.args.letters.now)

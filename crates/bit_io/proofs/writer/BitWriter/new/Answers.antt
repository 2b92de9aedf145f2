use Rattle.std.proofs.Common.{refl}
use Rattle.bit_io.specs.Bits.{bits, bits_of}
use Rattle.bit_io.specs.Written.{bits_put}
use Rattle.bit_io.proofs.writer.BitWriter.new.Goals as goal

pub returns-clause-empty : goal.returns-clause-empty
unfolding bits_put bits bits_of
returns-clause-empty c = refl

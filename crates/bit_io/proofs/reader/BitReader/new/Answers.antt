use Rattle.bit_io.specs.Bits.{bits}
use Rattle.bit_io.specs.inner.Window.{highest, bits_left}
use Rattle.bit_io.proofs.reader.BitReader.new.Goals as goal

pub returns-clause-all : goal.returns-clause-all
unfolding bits_left highest bits
returns-clause-all c = c.refill-window.ensures.left

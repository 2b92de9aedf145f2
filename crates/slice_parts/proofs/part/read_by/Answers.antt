use Rattle.std.proofs.Common.{refl}
use Rattle.bit_io.specs.Bits.{bits_of}
use Rattle.slice_parts.specs.laws.OneComponent.{component_one, breaks_none}
use Rattle.slice_parts.proofs.part.read_by.Goals as goal

pub returns-in-Ok-clause-again : goal.returns-in-Ok-clause-again
returns-in-Ok-clause-again c = λ levels is.
    (refl, component_one c.args.blocks (bits_of c.args.bytes.now) c.read_levels.new.out levels c.in-Ok.ensures.read is)

pub returns-in-Err-clause-again : goal.returns-in-Err-clause-again
returns-in-Err-clause-again c = λ levels is.
    absurd (breaks_none c.args.blocks (bits_of c.args.bytes.now) c.in-Err.fault levels c.in-Err.ensures.refused is)

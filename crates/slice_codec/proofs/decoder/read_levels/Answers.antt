use Rattle.bit_io.specs.Bits.{bits_of}
use Rattle.slice_codec.proofs.BoundedLemmas.{part_is_bounded}
use Rattle.slice_codec.proofs.decoder.read_levels.Goals as goal

pub returns-in-Ok-clause-bounded : goal.returns-in-Ok-clause-bounded
returns-in-Ok-clause-bounded c =
    part_is_bounded c.block_count.result (bits_of c.part_of.result.now) c.read_part_with.new.out c.block_count.ensures.most c.in-Ok.ensures.read

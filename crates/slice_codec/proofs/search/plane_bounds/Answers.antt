use Rattle.slice_codec.proofs.search.plane_bounds.Goals as goal

pub returns-clause-least : goal.returns-clause-least
returns-clause-least c = λ scale twice. record {
  bits = c.least_bits.ensures.low scale twice;
  left = c.least_bits.ensures.left scale twice;
  few = c.least_bits.ensures.small;
}

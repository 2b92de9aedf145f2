use Rattle.std.proofs.Common.{arith}
use Rattle.slice_parts.proofs.GapLemmas.{near_none}
use Rattle.slice_parts.proofs.bound.gap_bits.Goals as goal

pub returns-clause-low : goal.returns-clause-low
returns-clause-low c = λ n run sizes wide long carries some.
    let one = c.nearer-one.ensures (near_none c.args.marks c.args.before) in
    let two = c.nearer-two.ensures one in
    let three = c.nearer-three.ensures two in
    let six = c.nearer-six.ensures (c.nearer-five.ensures (c.nearer-four.ensures three)) in
    let eight = c.nearer-eight.ensures (c.nearer-seven.ensures six) in
    let sixteen = c.farther-sixteen.ensures c.args.marks c.args.before eight in
    omega (
      arith,
      c.gaps.ensures.low c.args.before 1 n run sizes (omega arith) wide long one carries some,
      c.gaps-2.ensures.low c.args.before 2 n run sizes (omega arith) wide long two carries some,
      c.gaps-3.ensures.low c.args.before 3 n run sizes (omega arith) wide long three carries some,
      c.gaps-4.ensures.low c.args.before 6 n run sizes (omega arith) wide long six carries some,
      c.gaps-5.ensures.low c.args.before 8 n run sizes (omega arith) wide long eight carries some,
      c.gaps-6.ensures.low c.args.before 16 n run sizes (omega arith) wide long sixteen carries some,
    )

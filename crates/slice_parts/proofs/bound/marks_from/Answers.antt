use Rattle.std.proofs.Common.{arith}
use Rattle.slice_parts.proofs.WordLemmas.{above_is}
use Rattle.slice_parts.proofs.bound.marks_from.Goals as goal

pub returns : goal.returns
returns c = λ size scale is.
    above_is c.args.half_steps.now c.args.at c.args.skip size scale c.args.threshold c.reached.result c.requires.inside c.requires.skip c.requires.short (omega arith) c.reached.ensures is

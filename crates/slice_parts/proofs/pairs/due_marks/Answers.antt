use Rattle.std.proofs.Common.{arith}
use Rattle.slice_parts.proofs.MarkLemmas.{due_is}
use Rattle.slice_parts.proofs.pairs.due_marks.Goals as goal

pub returns : goal.returns
returns c = due_is c.args.numbers.now c.args.at c.args.skip c.reached.result c.requires.skip (omega arith) c.reached.ensures

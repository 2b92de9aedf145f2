use Rattle.slice_parts.specs.Component.{signed_levels}
use Rattle.slice_parts.proofs.part.write_part.Goals as goal

pub write_by-requires-clause-left : goal.write_by-requires-clause-left
write_by-requires-clause-left c = c.none.ensures.left (signed_levels c.args.numbers.now)

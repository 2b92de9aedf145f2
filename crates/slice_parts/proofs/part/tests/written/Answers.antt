use Rattle.slice_parts.proofs.part.tests.written.Goals as goal

pub write_part_with-requires-clause-left : goal.write_part_with-requires-clause-left
write_part_with-requires-clause-left c = c.none.ensures.left _

-- A mark as the events of a take see it (own). docs/ARCHITECTURE.md, "The events of a take".
use Rattle.take_core.specs.declared.mark.Mark.{Mark}
use Rattle.take_core.specs.declared.mark.CoreMark.{CoreMark}

-- its count, and whether it is closed
abbrev pub core_mark : Mark → CoreMark
core_mark mark = record { count = mark.count; closed = mark.closed }

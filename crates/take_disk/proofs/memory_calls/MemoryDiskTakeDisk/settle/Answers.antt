use Rattle.take_disk.proofs.MemoryLemmas.{done_told, done_lengths, done_time}
use Rattle.take_disk.proofs.memory_calls.MemoryDiskTakeDisk.settle.Goals as goal

pub returns-clause-settled : goal.returns-clause-settled
returns-clause-settled c =
    done_told c.args.self.now c.note_settle.new.self c.ticket.result.now c.args.done c.ticket.ensures.shown c.note_settle.ensures.logs
    c.requires.made.second

pub returns-clause-lengths : goal.returns-clause-lengths
returns-clause-lengths c = done_lengths c.args.self.now c.note_settle.new.self c.ticket.result.now c.args.done c.ticket.ensures.shown c.note_settle.ensures.logs

pub returns-clause-time : goal.returns-clause-time
returns-clause-time c = done_time c.args.self.now c.note_settle.new.self c.ticket.result.now c.args.done c.ticket.ensures.shown c.note_settle.ensures.logs

use Rattle.take_disk.proofs.MemoryLemmas.{synced_told, synced_lengths, synced_time}
use Rattle.take_disk.proofs.memory_calls.MemoryDiskTakeDisk.sync.Goals as goal

pub returns-clause-synced : goal.returns-clause-synced
returns-clause-synced c =
    synced_told c.args.self.now c.note_call.new.self c.note_settle.new.self c.args.area c.moment-moment.result c.note_call.ensures.logs
    c.moment-moment.ensures.now c.note_settle.ensures.logs

pub returns-clause-lengths : goal.returns-clause-lengths
returns-clause-lengths c =
    synced_lengths c.args.self.now c.note_call.new.self c.note_settle.new.self c.args.area c.moment-moment.result c.note_call.ensures.logs
    c.moment-moment.ensures.now c.note_settle.ensures.logs

pub returns-clause-time : goal.returns-clause-time
returns-clause-time c =
    synced_time c.args.self.now c.note_call.new.self c.note_settle.new.self c.args.area c.moment-moment.result c.note_call.ensures.logs
    c.moment-moment.ensures.now c.note_settle.ensures.logs

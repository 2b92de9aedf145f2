use Rattle.std.proofs.Common.{◌+◌, length}
use Rattle.take_disk.proofs.MemoryLemmas.{failed_torn, failed_grows, failed_time, wrote_torn, wrote_written, wrote_lengths, wrote_time}
use Rattle.take_disk.proofs.memory_calls.MemoryDiskTakeDisk.write.Goals as goal

pub returns-then-fails-clause-torn : goal.returns-then-fails-clause-torn
returns-then-fails-clause-torn c = failed_torn c.args.self.now c.note_failure.new.self c.args.area c.args.at
    (c.args.at + length c.args.bytes.now) c.note_failure.ensures.logs

pub returns-then-fails-clause-lengths : goal.returns-then-fails-clause-lengths
returns-then-fails-clause-lengths c = failed_grows c.args.self.now c.note_failure.new.self c.args.area _ c.args.at (c.args.at + length c.args.bytes.now)
    (c.args.at + length c.args.bytes.now) c.note_failure.ensures.logs

pub returns-then-fails-clause-time : goal.returns-then-fails-clause-time
returns-then-fails-clause-time c = failed_time c.args.self.now c.note_failure.new.self c.args.area c.args.at
    (c.args.at + length c.args.bytes.now) c.note_failure.ensures.logs

pub returns-clause-torn : goal.returns-clause-torn
returns-clause-torn c = wrote_torn c.args.self.now c.note_write.new.self c.args.area c.args.at c.args.bytes.now c.note_write.ensures.logs c.requires.inside

pub returns-clause-written : goal.returns-clause-written
returns-clause-written c = wrote_written c.args.self.now c.note_write.new.self c.args.area c.args.at c.args.bytes.now c.note_write.ensures.logs

pub returns-clause-lengths : goal.returns-clause-lengths
returns-clause-lengths c =
    wrote_lengths c.args.self.now c.note_write.new.self c.args.area c.args.at c.args.bytes.now c.note_write.ensures.logs c.requires.inside

pub returns-clause-time : goal.returns-clause-time
returns-clause-time c = wrote_time c.args.self.now c.note_write.new.self c.args.area c.args.at c.args.bytes.now c.note_write.ensures.logs

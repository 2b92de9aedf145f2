use Rattle.take_disk.proofs.MemoryLemmas.{failed_cut_torn, failed_shrinks, failed_time, cut_torn, cut_cut, cut_lengths, cut_time}
use Rattle.take_disk.proofs.memory_calls.MemoryDiskTakeDisk.cut.Goals as goal

pub returns-then-fails-clause-torn : goal.returns-then-fails-clause-torn
returns-then-fails-clause-torn c =
    failed_cut_torn c.args.self.now c.note_failure.new.self c.args.area c.args.len c.len-end.result c.len-end.ensures c.note_failure.ensures.logs

pub returns-then-fails-clause-lengths : goal.returns-then-fails-clause-lengths
returns-then-fails-clause-lengths c =
    failed_shrinks c.args.self.now c.note_failure.new.self c.args.area _ c.args.len c.len-end.result c.args.len c.note_failure.ensures.logs
    c.requires.inside

pub returns-then-fails-clause-time : goal.returns-then-fails-clause-time
returns-then-fails-clause-time c = failed_time c.args.self.now c.note_failure.new.self c.args.area c.args.len c.len-end.result c.note_failure.ensures.logs

pub returns-clause-torn : goal.returns-clause-torn
returns-clause-torn c = cut_torn c.args.self.now c.note_cut.new.self c.args.area c.args.len c.note_cut.ensures.logs

pub returns-clause-cut : goal.returns-clause-cut
returns-clause-cut c = cut_cut c.args.self.now c.note_cut.new.self c.args.area c.args.len c.note_cut.ensures.logs

pub returns-clause-lengths : goal.returns-clause-lengths
returns-clause-lengths c = cut_lengths c.args.self.now c.note_cut.new.self c.args.area c.args.len c.note_cut.ensures.logs c.requires.inside

pub returns-clause-time : goal.returns-clause-time
returns-clause-time c = cut_time c.args.self.now c.note_cut.new.self c.args.area c.args.len c.note_cut.ensures.logs

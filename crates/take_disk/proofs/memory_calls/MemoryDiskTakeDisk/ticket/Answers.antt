use Rattle.take_disk.specs.Recorded.{logs_of}
use Rattle.take_disk.proofs.DiskLemmas.{elapses_ticket}
use Rattle.take_disk.proofs.memory_calls.MemoryDiskTakeDisk.ticket.Goals as goal

pub returns-clause-time : goal.returns-clause-time
returns-clause-time c = elapses_ticket (logs_of c.args.self.now)

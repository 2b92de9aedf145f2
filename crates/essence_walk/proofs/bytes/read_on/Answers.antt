use Rattle.std.proofs.Common.{arith}
use Rattle.std.proofs.lemmas.Result.{on_ok_weaker}
use Rattle.take_disk.specs.declared.area.Area.TheVariants.{Essence}
use Rattle.essence_walk.proofs.ByteLemmas.{held_on, told_is}
use Rattle.essence_walk.proofs.bytes.read_on.Goals as goal

pub returns-clause-held : goal.returns-clause-held
returns-clause-held g c =
    on_ok_weaker c.read.result
    (λ read told is held.
    held_on c.args.at c.args.have c.args.need c.args.buffer.now c.read.new.out told.essence.reads c.requires.order c.requires.room
    (let size = g.met.D.TakeDisk.long c.args.disk.now told Essence is in let inside = c.requires.inside in omega (arith, size, inside))
    (told_is _ _ told is read) held)
    c.read.ensures.read

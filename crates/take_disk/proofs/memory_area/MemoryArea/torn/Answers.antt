use Rattle.std.proofs.Common.{◌≡◌, List, sym, ◌∙◌, subst, rules}
use Rattle.take_disk.specs.declared.entry.Entry.{Entry}
use Rattle.take_disk.specs.Entered.{log_of}
use Rattle.take_disk.proofs.RedoneLemmas.{torn_is, TornEach}
use Rattle.take_disk.proofs.memory_area.MemoryArea.torn.Goals as goal

pub returns : goal.returns
returns c =
    let s = c.args.self.now in
    let b : c.in_ok-image.image.items ≡ s.bytes.items = search rules in
    let each = subst (λ (y : List Entry). TornEach s.synced c.args.byte y c.in_ok-image.image.items c.tear.new.image.items) c.deref-2.ensures.value
    c.tear.ensures.each in
    record { torn = torn_is (log_of s) c.in_ok-image.image.items c.tear.new.image.items c.args.byte (s.reads ∙ sym b) c.tear.ensures.long each }

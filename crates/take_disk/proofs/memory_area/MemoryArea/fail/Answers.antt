use Rattle.std.proofs.Common.{vec_len, [], refl, sym, arith, append-nil}
use Rattle.take_disk.specs.declared.entry.Deed.TheVariants.{Fail}
use Rattle.take_disk.proofs.AreaLemmas.{IsRecord, change_recorded}
use Rattle.take_disk.proofs.memory_area.MemoryArea.fail.Goals as goal

pub invariant_of-self : goal.invariant_of-self
invariant_of-self c =
    let s = c.args.self.now in
    let old : IsRecord s.start.items s.pieces.items s.entries.items s.synced s.bytes.items
    (vec_len s.entries) s.calls = record { reads = s.reads; settled = s.settled; sound = s.sound; pieced = s.pieced; few = s.few; recorded = s.recorded } in
    let now = change_recorded s.start.items s.pieces.items s.entries.items s.synced s.bytes.items (vec_len s.entries) s.calls old [] c.args.moment
    (Fail c.args.from c.args.to)
    c.enter.new.entries.items s.pieces.items s.bytes.items (vec_len c.enter.new.entries) refl c.requires.later c.requires.last refl c.requires.call
    (omega arith) c.enter.ensures.items (sym (append-nil s.pieces.items)) (sym s.reads) c.enter.ensures.len in
    record {
      reads = now.reads;
      settled = now.settled;
      sound = now.sound;
      pieced = now.pieced;
      few = now.few;
      recorded = now.recorded;
      entry_room = omega (arith, s.entry_room, c.enter.ensures.capacity);
      piece_room = s.piece_room;
      byte_room = s.byte_room;
    }

use Rattle.std.proofs.Common.{◌≡◌, ◌<◌, vec_len, true, false, arith, rules}
use Rattle.take_disk.proofs.AreaLemmas.{IsRecord, settle_recorded, free_recorded, settle_room}
use Rattle.take_disk.proofs.memory_area.MemoryArea.settle.Goals as goal
use Rattle.std.specs.List.{list_any}
use Rattle.take_disk.specs.inner.Counts.{in_span}

pub invariant_of-self : goal.invariant_of-self
invariant_of-self c =
    let s = c.args.self.now in
    let old : IsRecord s.start.items s.pieces.items s.entries.items s.synced s.bytes.items
    (vec_len s.entries) s.calls = record { reads = s.reads; settled = s.settled; sound = s.sound; pieced = s.pieced; few = s.few; recorded = s.recorded } in
    let late : s.synced < c.args.upto = omega (arith, c.if-upto-self.false) in
    let none : list_any (in_span s.synced c.args.upto) s.entries.items ≡ false = search rules in
    let now = free_recorded s.start.items s.pieces.items s.entries.items s.synced s.bytes.items (vec_len s.entries) s.calls old c.args.upto late none in
    record {
      reads = now.reads;
      settled = now.settled;
      sound = now.sound;
      pieced = now.pieced;
      few = now.few;
      recorded = now.recorded;
      entry_room = s.entry_room;
      piece_room = s.piece_room;
      byte_room = s.byte_room;
    }

pub enter-requires : goal.enter-requires
enter-requires c =
    let s = c.args.self.now in
    let old : IsRecord s.start.items s.pieces.items s.entries.items s.synced s.bytes.items
    (vec_len s.entries) s.calls = record { reads = s.reads; settled = s.settled; sound = s.sound; pieced = s.pieced; few = s.few; recorded = s.recorded } in
    let late : s.synced < c.args.upto = omega (arith, c.if-upto-self.false) in
    let some : list_any (in_span s.synced c.args.upto) s.entries.items ≡ true = search rules in
    record {
      room = omega (
        arith,
        s.entry_room,
        settle_room s.start.items s.pieces.items s.entries.items s.synced s.bytes.items
            (vec_len s.entries) s.calls old c.args.upto late some,
      );
    }

pub invariant_of-self-2 : goal.invariant_of-self-2
invariant_of-self-2 c =
    let s = c.args.self.now in
    let old : IsRecord s.start.items s.pieces.items s.entries.items s.synced s.bytes.items
    (vec_len s.entries) s.calls = record { reads = s.reads; settled = s.settled; sound = s.sound; pieced = s.pieced; few = s.few; recorded = s.recorded } in
    let late : s.synced < c.args.upto = omega (arith, c.if-upto-self.false) in
    let some : list_any (in_span s.synced c.args.upto) s.entries.items ≡ true = search rules in
    let now = settle_recorded s.start.items s.pieces.items s.entries.items s.synced s.bytes.items (vec_len s.entries) s.calls old c.args.moment c.args.upto
    c.enter.new.entries.items (vec_len c.enter.new.entries) late c.requires.last some c.enter.ensures.items c.enter.ensures.len in
    record {
      reads = now.reads;
      settled = now.settled;
      sound = now.sound;
      pieced = now.pieced;
      few = now.few;
      recorded = now.recorded;
      entry_room = omega (arith, s.entry_room, c.enter.ensures.capacity);
      piece_room = s.piece_room;
      byte_room = s.byte_room;
    }

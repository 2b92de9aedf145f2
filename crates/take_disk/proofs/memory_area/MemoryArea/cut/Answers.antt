use Rattle.std.proofs.Common.{◌≡◌, ◌∷◌, ◌++◌, length, rules, ℕ, vec_len, List, [], take, refl, sym, ◌∙◌, ap, arith, append-nil}
use Rattle.take_disk.specs.declared.entry.Deed.TheVariants.{Cut}
use Rattle.take_disk.proofs.AreaLemmas.{IsRecord, change_recorded}
use Rattle.take_disk.specs.Logs.{replay, fresh}
use Rattle.take_disk.proofs.SoundLemmas.{cut_fits}
use Rattle.take_disk.proofs.memory_area.MemoryArea.cut.Goals as goal

pub invariant_of-self : goal.invariant_of-self
invariant_of-self c =
    let s = c.args.self.now in
    let old : IsRecord s.start.items s.pieces.items s.entries.items s.synced s.bytes.items
    (vec_len s.entries) s.calls = record { reads = s.reads; settled = s.settled; sound = s.sound; pieced = s.pieced; few = s.few; recorded = s.recorded } in
    let long : length ((replay s.pieces.items s.entries.items (fresh s.start.items)).reads) ≡ length s.bytes.items = ap (λ (l : List ℕ). length l) s.reads in
    let end : c.len-end.result ≡ length s.bytes.items = search rules in
    let entries : c.enter.new.entries.items ≡ s.entries.items ++ record { moment = c.args.moment; deed = Cut c.args.len (length s.bytes.items) } ∷ [] =
    rw c.enter.ensures.items (rw end refl) in
    let fits = cut_fits (length (s.pieces.items ++ [])) (length ((replay s.pieces.items s.entries.items (fresh s.start.items)).reads)) c.args.len
    (length s.bytes.items)
    (omega (arith, c.requires.inside, long)) (sym long) in
    let now = change_recorded s.start.items s.pieces.items s.entries.items s.synced s.bytes.items (vec_len s.entries) s.calls old [] c.args.moment
    (Cut c.args.len (length s.bytes.items))
    c.enter.new.entries.items s.pieces.items c.truncate.new.self.items (vec_len c.enter.new.entries) refl c.requires.later c.requires.last fits c.requires.call
    (omega arith) entries (sym (append-nil s.pieces.items))
    (c.truncate.ensures.items ∙ ap (λ (l : List ℕ). take c.args.len l) (sym s.reads)) c.enter.ensures.len in
    record {
      reads = now.reads;
      settled = now.settled;
      sound = now.sound;
      pieced = now.pieced;
      few = now.few;
      recorded = now.recorded;
      entry_room = omega (arith, s.entry_room, c.enter.ensures.capacity);
      piece_room = s.piece_room;
      byte_room = omega (arith, s.byte_room, c.truncate.ensures.capacity);
    }

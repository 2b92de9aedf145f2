use Rattle.std.proofs.Common.{◌≡◌, ℕ, vec_len, List, [], ◌∷◌, ◌++◌, length, refl, sym, ◌∙◌, ap, arith, rules, length-append}
use Rattle.rec_bytes.specs.Places.{with_bytes}
use Rattle.take_disk.specs.declared.entry.Deed.TheVariants.{Write}
use Rattle.take_disk.specs.Logs.{replay, fresh}
use Rattle.take_disk.proofs.AreaLemmas.{IsRecord, change_recorded, last_piece}
use Rattle.take_disk.proofs.SoundLemmas.{write_fits}
use Rattle.take_disk.proofs.memory_area.MemoryArea.write.Goals as goal

pub invariant_of-self : goal.invariant_of-self
invariant_of-self c =
    let s = c.args.self.now in
    let old : IsRecord s.start.items s.pieces.items s.entries.items s.synced s.bytes.items
    (vec_len s.entries) s.calls = record { reads = s.reads; settled = s.settled; sound = s.sound; pieced = s.pieced; few = s.few; recorded = s.recorded } in
    let b = c.args.bytes.now in
    let from : c.len.result ≡ length s.pieces.items = search rules in
    let entries : c.enter.new.entries.items ≡ s.entries.items ++ record {
      moment = c.args.moment;
      deed = Write c.args.at (length s.pieces.items) (length b);
    } ∷ [] =
    rw c.enter.ensures.items (rw from refl) in
    let long : length ((replay s.pieces.items s.entries.items (fresh s.start.items)).reads) ≡ length s.bytes.items = ap (λ (l : List ℕ). length l) s.reads in
    let fits = write_fits s.pieces.items b (length ((replay s.pieces.items s.entries.items (fresh s.start.items)).reads)) c.args.at (omega (
      arith,
      c.requires.inside,
      long,
    )) in
    let now = change_recorded s.start.items s.pieces.items s.entries.items s.synced s.bytes.items (vec_len s.entries) s.calls old b c.args.moment
    (Write c.args.at (length s.pieces.items) (length b))
    c.enter.new.entries.items c.append.new.bytes.items c.paste.new.bytes.items
    (vec_len c.enter.new.entries) refl c.requires.later c.requires.last fits c.requires.call
    (omega (arith, length-append s.pieces.items b)) entries c.append.ensures.items
    (c.paste.ensures.items ∙ (ap (λ (l : List ℕ). with_bytes l c.args.at b) (sym s.reads)
    ∙ ap (λ (l : List ℕ). with_bytes ((replay s.pieces.items s.entries.items (fresh s.start.items)).reads) c.args.at l)
    (sym (last_piece s.pieces.items b)))) c.enter.ensures.len in
    record {
      reads = now.reads;
      settled = now.settled;
      sound = now.sound;
      pieced = now.pieced;
      few = now.few;
      recorded = now.recorded;
      entry_room = omega (arith, s.entry_room, c.enter.ensures.capacity);
      piece_room = omega (arith, s.piece_room, c.append.ensures.capacity);
      byte_room = omega (arith, s.byte_room, c.paste.ensures.capacity);
    }

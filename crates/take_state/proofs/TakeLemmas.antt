-- What a take keeps from call to call.
use Rattle.std.proofs.Common.{◌≡◌, inl, ℕ, ◌+◌, ◌-◌, ◌*◌, ◌^◌, ◌≤◌, ◌<◌, Bool, true, false, List, [], ◌∷◌, ◌++◌, length, map, take, drop, Option, Some, None, refl, sym, ap, subst, ◌∙◌, arith, append_assoc, append-nil, length-append, take_all}
use Rattle.std.specs.List.{length_refill}
use Rattle.rec_bytes.specs.Configuration.{Fields}
use Rattle.rec_bytes.specs.declared.config_fields.TheConstants.{MAX_FRAMES}
use Rattle.take_core.specs.History.{IsNear, after, published_in, acked_in, phase_in}
use Rattle.take_core.specs.Recorded.{Recorded}
use Rattle.take_core.specs.Sound.{IsSound}
use Rattle.take_core.specs.States.{no_slices}
use Rattle.take_core.specs.declared.commit_phase.CommitPhase.{CommitPhase}
use Rattle.take_core.specs.declared.entry.Entry.{Entry}
use Rattle.take_core.specs.declared.entry.Entry.TheVariants as entry
use Rattle.take_core.specs.declared.event.Event.TheVariants.{Stop}
use Rattle.take_core.specs.declared.snapshot.Phase.{Phase}
use Rattle.take_core.specs.declared.snapshot.Phase.TheVariants as phase
use Rattle.take_disk.specs.Calls.{IfTold}
use Rattle.take_disk.specs.Held.{Disk}
use Rattle.take_disk.specs.declared.area.Area.TheVariants.{Essence, Commits}
use Rattle.take_disk.specs.declared.disk.TakeDisk.{Ghosts}
use Rattle.take_disk.specs.declared.ticket.Ticket.{Ticket}
use Rattle.take_layout.specs.Takes.{AreUnits}
use Rattle.take_layout.specs.declared.layout.TakeLayout.{Ghosts as LayoutGhosts}
use Rattle.commit_sidecar.specs.Recovers.{file_of}
use Rattle.commit_phases.specs.Layouts.{LaysOut}
use Rattle.commit_phases.specs.Table.{Table, AllSafe, IsClosed}
use Rattle.commit_phases.specs.laws.Safety.{table_safe, closed_safe}
use Rattle.commit_phases.specs.laws.Told.{changes}
use Rattle.take_state.specs.declared.state.TakeState.TheInside.{Inside}
use Rattle.take_state.specs.Events.{core_of, IsEvent}
use Rattle.take_state.specs.Seen.{TakeSeen, published, acked, phase_of, commits_in, lengths_in, faults_in}
use Rattle.take_state.specs.Stands.{Begins, IsTakeOf, Grows, Ended}
use Rattle.take_state.specs.inner.Keeping.{TakeParts, KeepsTake, HasLaws, HasRooms, seen_of}
use Rattle.take_state.proofs.HistoryLemmas.{acked-push, phase-push, published-push, commits-push, lengths-append, no-faults, faults-push, commits-few}
use Rattle.take_state.proofs.EventLemmas.{is_stop, stays_sound}

-- what is kept, as the fields say it
abbrev pub parts_of : {U L D : Type 0} → Inside U L D → TakeParts D
parts_of i = record {
  disk = i.disk;
  file = i.file;
  history = i.history;
  records = i.records;
  commit = i.commit;
  tail = i.tail;
  out = i.out;
  stop = i.stop;
  buffer = length i.buffer.items;
}

-- the numbers of a sound take
pub record Numbers {D : Type 0} (s : TakeSeen D) : Type 0 where
  pub durable : acked s ≤ published s
  pub room : published s ≤ s.config.max_frames
  pub near : published s - acked s ≤ s.config.lag

pub numbers : {D : Type 0} (s : TakeSeen D) → IsSound (core_of s no_slices) → Numbers s
numbers s sound =
    let all : take (length s.history) s.history ≡ s.history = take_all (length s.history) s.history (omega arith) in
    let near = subst (λ (h : List Entry). IsNear s.config.lag s.config.max_frames
    (record { step = length s.history; published = published_in h; acked = acked_in h; phase = phase_in h })) all
    (sound.legal.near (length s.history) (omega arith)) in
    record { durable = near.durable; room = near.room; near = near.near }

-- a take that goes on has room for an entry, and few records
pub few_entries : {L D : Type 0} (layout : LayoutGhosts L) → HasLaws layout → (s : TakeSeen D) → IsSound (core_of s no_slices)
    → phase_of s ≡ phase.Growing → length s.history ≤ 2 * s.config.max_frames
few_entries layout laws s sound grows =
    let n = numbers s sound in
    let few = laws.fits s.config.lag s.config.max_frames s.history sound.legal grows in
    omega (arith, few, n.durable, n.room)

-- the essence of a table begins with the growing file
file_begins : {L : Type 0} (layout : LayoutGhosts L) → LaysOut layout → (cfg : Fields) (units : List (List ℕ)) (tail : Bool) (rest : List ℕ) (held : Disk)
    → held.essence.reads ≡ file_of layout tail cfg units ++ rest → Begins layout cfg units held
file_begins layout lays cfg units false rest held reads = record { rest = rest; reads = reads }
file_begins layout lays cfg units true rest held reads = record {
  rest = layout.tail cfg units ++ rest;
  reads = reads ∙ ap (λ (xs : List ℕ). xs ++ rest) (lays.closes cfg units) ∙ append_assoc (layout.growing cfg units) (layout.tail cfg units) rest;
}

pub file_longer : {L : Type 0} (layout : LayoutGhosts L) → LaysOut layout → (cfg : Fields) (units : List (List ℕ)) (tail : Bool)
    → length (layout.growing cfg units) ≤ length (file_of layout tail cfg units)
file_longer layout lays cfg units false = omega arith
file_longer layout lays cfg units true =
    omega (arith, ap (length {A = ℕ}) (lays.closes cfg units), length-append (layout.growing cfg units) (layout.tail cfg units))

module _ {L D : Type 0} (layout : LayoutGhosts L) (device : Ghosts D) where
  -- so it does where it is told
  pub table_begins : LaysOut layout → (d : D) (cfg : Fields) (units : List (List ℕ)) (a records : ℕ) (tail : Bool) (commit : CommitPhase) (out : Option Ticket)
      → IfTold (device.told d) (Table layout cfg units a records tail commit out) → IfTold (device.told d) (Begins layout cfg units)
  table_begins lays d cfg units a records tail commit out table =
      changes (device.told d) _ _ table (λ held t. file_begins layout lays cfg units tail t.essence_rest held t.essence)

  -- and what a crash leaves is safe
  pub table_safe_told : LaysOut layout → (d : D) (cfg : Fields) (units : List (List ℕ)) (a records : ℕ) (tail : Bool) (commit : CommitPhase) (out : Option Ticket)
      → IfTold (device.told d) (Table layout cfg units a records tail commit out) → IfTold (device.told d) (AllSafe layout cfg units a)
  table_safe_told lays d cfg units a records tail commit out table =
      changes (device.told d) _ _ table (λ held t. table_safe layout lays cfg units a records tail commit out held t)

  -- a take that goes on, by what it grows from
  pub grown_of : LaysOut layout → (named : Option (List (List ℕ))) (s new : TakeSeen D) (units : List (List ℕ)) → IsTakeOf layout device named s units
      → new.config ≡ s.config → IsSound (core_of new no_slices) → published new ≡ published s → lengths_in new.history ≡ lengths_in s.history
      → Grows layout device new units → IsTakeOf layout device named new units
  grown_of lays named s new units stands same sound count lens grows = record {
    sound = sound;
    are_units = subst (λ (cfg : Fields). AreUnits (layout.is_unit cfg) cfg.max_frames units) (sym same) stands.are_units;
    sized = stands.sized;
    counted = stands.counted ∙ sym count;
    lengths = lens ∙ stands.lengths;
    first = stands.first;
    reaches = omega (arith, grows.essence_len, file_longer layout lays new.config units new.tail);
    begins = table_begins lays new.disk new.config units (acked new) (commits_in new.history) new.tail new.commit new.out grows.table;
    safe = table_safe_told lays new.disk new.config units (acked new) (commits_in new.history) new.tail new.commit new.out grows.table;
  }

  module _ (named : Fields → Option (List (List ℕ))) where
    -- A call that publishes nothing, after which the take goes on.
    pub goes_on : (parts : TakeParts D) (d : D) (h : Recorded) (records : ℕ) (commit : CommitPhase) (tail : Bool) (out : Option Ticket)
        → (k : KeepsTake layout device named parts)
        → IsSound (core_of (seen_of (record parts { disk = d; history = h; commit = commit; tail = tail; out = out })) no_slices)
        → h.room ≡ parts.history.room → records ≡ commits_in h.entries → faults_in h.entries ≡ parts.stop
        → published_in h.entries ≡ published_in parts.history.entries → lengths_in h.entries ≡ lengths_in parts.history.entries
        → phase_in h.entries ≡ phase.Growing
        → Grows layout device (seen_of (record parts { disk = d; history = h; commit = commit; tail = tail; out = out })) k.units
        → KeepsTake layout device named (record parts { disk = d; history = h; records = records; commit = commit; tail = tail; out = out })
    goes_on parts d h records commit tail out k sound room counts stop count lens grows growth = record {
      laws = k.laws;
      rooms = record {
        ranged = k.rooms.ranged;
        records = counts;
        stop = sym stop;
        places = k.rooms.places;
        entries = omega (arith, k.rooms.entries, room);
        buffer = k.rooms.buffer;
      };
      units = k.units;
      lie = k.lie;
      stands = grown_of k.laws.lays_out (named parts.file.config) (seen_of parts)
          (seen_of (record parts { disk = d; history = h; commit = commit; tail = tail; out = out })) k.units k.stands refl sound count lens growth;
      grows = λ e. growth;
      ended = λ e. absurd (not_both _ grows e);
    }
      where
        not_both : (p : Phase) → p ≡ phase.Growing → p ≡ phase.Closed → ⊥
        not_both p a b = cc

    -- The disk has failed: the take is stopped, and of what was written only what each take keeps is known.
    pub stops : (parts : TakeParts D) (d : D) (h : Recorded) (stop : Option ℕ) (faults : ℕ) → (k : KeepsTake layout device named parts)
        → phase_of (seen_of parts) ≡ phase.Growing → 1 ≤ faults → h ≡ record parts.history { entries = parts.history.entries ++ entry.Stopped faults ∷ [] }
        → stop ≡ Some faults → length (layout.growing parts.file.config k.units) ≤ device.length_of d Essence
        → IfTold (device.told d) (Begins layout parts.file.config k.units)
        → IfTold (device.told d) (AllSafe layout parts.file.config k.units (acked (seen_of parts)))
        → KeepsTake layout device named (record parts { disk = d; history = h; stop = stop })
    stops parts d h stop faults k grows some is says reaches begins safe = subst
        (λ (r : Recorded). KeepsTake layout device named (record parts { disk = d; history = r; stop = stop })) (sym is) (record {
          laws = k.laws;
          rooms = record {
            ranged = k.rooms.ranged;
            records = omega (arith, k.rooms.records, commits-push old (entry.Stopped faults));
            stop = says ∙ sym (faults-push old (entry.Stopped faults) (no-faults old grows));
            places = k.rooms.places;
            entries = k.rooms.entries;
            buffer = k.rooms.buffer;
          };
          units = k.units;
          lie = k.lie;
          stands = record {
            sound = stays_sound layout k.laws (seen_of parts) new (Stop faults) (is_stop (seen_of parts) d faults grows some) k.stands.sound;
            are_units = k.stands.are_units;
            sized = k.stands.sized;
            counted = omega (arith, k.stands.counted, published-push old (entry.Stopped faults));
            lengths = lengths-append old (entry.Stopped faults ∷ []) ∙ append-nil (lengths_in old) ∙ k.stands.lengths;
            first = k.stands.first;
            reaches = reaches;
            begins = begins;
            safe = subst (λ (n : ℕ). IfTold (device.told d) (AllSafe layout parts.file.config k.units n)) (sym (acked-push old (entry.Stopped faults))) safe;
          };
          grows = λ e. absurd (not_growing _ (phase-push old (entry.Stopped faults)) e);
          ended = λ e. absurd (not_closed _ (phase-push old (entry.Stopped faults)) e);
        })
      where
        old : List Entry
        old = parts.history.entries

        new : TakeSeen D
        new = record (seen_of parts) { disk = d; history = parts.history.entries ++ entry.Stopped faults ∷ [] }

        not_growing : (p : Phase) → p ≡ phase.Stopped → p ≡ phase.Growing → ⊥
        not_growing p a b = cc

        not_closed : (p : Phase) → p ≡ phase.Stopped → p ≡ phase.Closed → ⊥
        not_closed p a b = cc

-- a take that goes on has few records
pub few_records : {L D : Type 0} (layout : LayoutGhosts L) (device : Ghosts D) (named : Fields → Option (List (List ℕ))) (parts : TakeParts D)
    → KeepsTake layout device named parts → phase_of (seen_of parts) ≡ phase.Growing → parts.records ≤ 2 * MAX_FRAMES
few_records layout device named parts k grows =
    let few = few_entries layout k.laws (seen_of parts) k.stands.sound grows in
    omega (arith, few, k.rooms.records, commits-few parts.history.entries, k.rooms.ranged.max_frames.most)

-- and room for an entry
pub room_left : {L D : Type 0} (layout : LayoutGhosts L) (device : Ghosts D) (named : Fields → Option (List (List ℕ))) (parts : TakeParts D)
    → KeepsTake layout device named parts → phase_of (seen_of parts) ≡ phase.Growing → length parts.history.entries < parts.history.room
room_left layout device named parts k grows =
    let few = few_entries layout k.laws (seen_of parts) k.stands.sound grows in
    omega (arith, few, k.rooms.entries)

-- a buffer that was written is as long
pub refilled : (len : ℕ) (items now : List ℕ) → len ≡ length items → length items ≡ length (take len (now ++ drop (length now) items))
refilled len items now is = sym is ∙ length_refill len items now is

-- a buffer of the same length is as good
pub same_buffer : {L D : Type 0} (layout : LayoutGhosts L) (device : Ghosts D) (named : Fields → Option (List (List ℕ))) (parts : TakeParts D) (n : ℕ)
    → parts.buffer ≡ n → KeepsTake layout device named parts → KeepsTake layout device named (record parts { buffer = n })
same_buffer layout device named parts n is k = subst (λ (b : ℕ). KeepsTake layout device named (record parts { buffer = b })) is k

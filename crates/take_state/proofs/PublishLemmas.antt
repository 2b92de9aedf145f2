-- What publishing a frame keeps.
use Rattle.std.proofs.Common.{◌≡◌, ℕ, zero, suc, ◌+◌, ◌-◌, ◌*◌, ◌^◌, ◌≤◌, ◌<◌, max, Bool, true, false, not, if◌then◌else◌, List, [], ◌∷◌, ◌++◌, length, map, take, get_or, Option, Some, None, Result, Ok, refl, sym, ap, subst, ◌∙◌, arith, append_assoc, append-nil, length-append, true≢false}
use Rattle.std.specs.Prelude.{All, slice_get, nat_le, ◌==◌}
use Rattle.std.proofs.lemmas.Bool.{leb-false}
use Rattle.std.proofs.lemmas.List.{map-append}
use Rattle.std.proofs.lemmas.List.Elements.{All-append}
use Rattle.std.proofs.lemmas.Option.{none-some, same_Some}
use Rattle.rec_bytes.specs.Configuration.{Fields}
use Rattle.take_core.specs.History.{published_in, acked_in, phase_in, last_said, ended_by}
use Rattle.take_core.specs.Recorded.{Recorded}
use Rattle.take_core.specs.Sound.{IsSound}
use Rattle.take_core.specs.States.{Slices, no_slices, without_frame}
use Rattle.take_core.specs.declared.entry.Entry.{Entry}
use Rattle.take_core.specs.declared.entry.Entry.TheVariants as entry
use Rattle.take_core.specs.declared.event.Answer.TheVariants.{Done}
use Rattle.take_core.specs.declared.event.Event.TheVariants.{Publish}
use Rattle.take_core.specs.declared.snapshot.Phase.{Phase}
use Rattle.take_core.specs.declared.snapshot.Phase.TheVariants as phase
use Rattle.take_disk.specs.Calls.{IfTold, Steps, WritesIn, Writes}
use Rattle.take_disk.specs.Held.{Disk}
use Rattle.take_disk.specs.Tickets.{IsNamed}
use Rattle.take_disk.specs.declared.area.Area.TheVariants.{Essence, Commits}
use Rattle.take_disk.specs.declared.disk.TakeDisk.{Ghosts}
use Rattle.take_disk.specs.declared.ticket.Ticket.{Ticket}
use Rattle.take_layout.specs.Growing.{Growing}
use Rattle.take_layout.specs.Takes.{AreUnits}
use Rattle.take_layout.specs.declared.layout.TakeLayout.{Ghosts as LayoutGhosts}
use Rattle.take_layout.specs.declared.place.Place.{Place}
use Rattle.commit_phases.specs.Phases.{Due, commits_reach}
use Rattle.commit_phases.specs.Table.{Table, AllSafe}
use Rattle.commit_phases.specs.laws.Essence.{more_due, publish_done, publish_torn}
use Rattle.commit_phases.specs.laws.Lists.{written_at}
use Rattle.commit_phases.specs.laws.Told.{both, changes, lift}
use Rattle.take_state.specs.declared.fault.PublishFault.{PublishFault}
use Rattle.take_state.specs.Events.{core_of, IsPublish}
use Rattle.take_state.specs.Refusals.{behind_tail, or_behind, publish_refusal}
use Rattle.take_state.specs.Seen.{TakeSeen, published, acked, phase_of, commits_in, lengths_in, faults_in}
use Rattle.take_state.specs.Stands.{AreFirst, IsNumbered, IsSized, Begins, IsTakeOf, IsOwn, Grows, Ended}
use Rattle.take_state.specs.inner.Keeping.{TakeParts, KeepsTake, seen_of}
use Rattle.take_state.specs.inner.Writing.{WritesInside, Wrote}
use Rattle.take_state.proofs.EventLemmas.{is_publish}
use Rattle.take_state.proofs.HistoryLemmas.{acked-push, commits-push, faults-push, lengths-append, no-faults, phase-push, published-push}
use Rattle.take_state.proofs.TakeLemmas.{table_begins, table_safe_told}

-- a take that was not stopped
not_stopped : (h : List Entry) (first : Phase) → (first ≡ phase.Stopped → ⊥) → faults_in h ≡ None → last_said ended_by first h ≡ phase.Stopped → ⊥
not_stopped [] first other none = other
not_stopped (entry.Published len ∷ h) first other none = not_stopped h first other none
not_stopped (entry.Acked count ∷ h) first other none = not_stopped h first other none
not_stopped (entry.Closed ∷ h) first other none = not_stopped h phase.Closed (λ e. cc) none
not_stopped (entry.Stopped faults ∷ h) first other none = cc

-- of tests one after the other, none refuses
passes : {A : Type 0} (test : Bool) (refusal : A) (later : Option A) → (if test then Some refusal else later) ≡ None → (test ≡ false) × (later ≡ None)
passes false refusal later none = (refl, none)
passes true refusal later none = cc

behind : (faults : Option ℕ) (later : Option PublishFault) → or_behind faults later ≡ None → (faults ≡ None) × (later ≡ None)
behind None later none = (refl, none)
behind (Some faults) later none = cc

-- what a take is for whose next frame no refusal is due
pub record MayPublish {D : Type 0} (s : TakeSeen D) : Type 0 where
  pub growing : phase_of s ≡ phase.Growing
  pub no_tail : s.tail ≡ false
  pub room : published s < s.config.max_frames
  pub near : published s - acked s < s.config.lag

pub may_publish : {D : Type 0} (s : TakeSeen D) → (phase_of s ≡ phase.Closed → s.tail ≡ true) → publish_refusal s (published s) ≡ None → MayPublish s
may_publish s closed none =
    let first = behind (faults_in s.history) (behind_tail s (published s)) none in
    let tail = passes s.tail _ _ first.1 in
    let turn = passes (not (published s == published s)) _ _ tail.1 in
    let full = passes (nat_le s.config.max_frames (published s)) _ _ turn.1 in
    let lags = passes (nat_le s.config.lag (published s - acked s)) _ _ full.1 in
    record {
      growing = grows (phase_of s) refl closed (not_stopped s.history phase.Growing (λ e. cc) first.0) tail.0;
      no_tail = tail.0;
      room = leb-false s.config.max_frames (published s) full.0;
      near = leb-false s.config.lag (published s - acked s) lags.0;
    }
  where
    grows : (p : Phase) → phase_of s ≡ p → (phase_of s ≡ phase.Closed → s.tail ≡ true) → (phase_of s ≡ phase.Stopped → ⊥) → s.tail ≡ false → p ≡ phase.Growing
    grows phase.Growing is closed stopped none = refl
    grows phase.Closed is closed stopped none = absurd (true≢false (sym (closed is) ∙ none))
    grows phase.Stopped is closed stopped none = absurd (stopped is)

-- the first units of all, and one more
take_next : {A : Type 0} (xs : List A) (n : ℕ) (x : A) → slice_get xs n ≡ Some x → take (suc n) xs ≡ take n xs ++ x ∷ []
take_next [] n x at = cc
take_next (y ∷ xs) zero x at = ap (λ z. z ∷ []) (same_Some _ _ at)
take_next (y ∷ xs) (suc n) x at = ap (λ zs. y ∷ zs) (take_next xs n x at)

first_more : (named : Option (List (List ℕ))) (units : List (List ℕ)) (n : ℕ) (unit : List ℕ) → length units ≡ n → AreFirst named units → IsNumbered named n unit
    → AreFirst named (units ++ unit ∷ [])
first_more None units n unit count first numbered = tt
first_more (Some all) units n unit count first numbered =
    let next : take (suc n) all ≡ take n all ++ unit ∷ [] = take_next all n unit numbered in
    let is : take n all ≡ units = ap (λ (k : ℕ). take k all) (sym count) ∙ sym first in
    let long : length (units ++ unit ∷ []) ≡ suc n = omega (arith, length-append units (unit ∷ []), count) in
    sym (ap (λ (k : ℕ). take k all) long ∙ next ∙ ap (λ (us : List (List ℕ)). us ++ unit ∷ []) is)

-- a property of one element
one : {A : Type 0} (P : A → Type 0) (x : A) → P x → All P (x ∷ [])
one P x p = λ k d l.
    let first : 0 ≡ k = omega (arith, l) in
    subst (λ (n : ℕ). P (get_or (x ∷ []) n d)) first p

file_is : (file : Growing) (cfg : Fields) (places : List Place) (room : ℕ) → file.config ≡ cfg → file.places ≡ places → file.room ≡ room
    → record { config = cfg; places = places; room = room } ≡ file
file_is file cfg places room a b c =
    ap (λ (x : Fields). record { config = x; places = places; room = room }) (sym a)
    ∙ ap (λ (x : List Place). record { config = file.config; places = x; room = room }) (sym b)
    ∙ ap (λ (x : ℕ). record { config = file.config; places = file.places; room = x }) (sym c)

-- which slices are in makes no sound take unsound
pub any_slices : {D : Type 0} (s : TakeSeen D) (old new : Slices) → IsSound (core_of s old) → IsSound (core_of s new)
any_slices s old new sound = record { legal = sound.legal; open_mark = sound.open_mark; closed_mark = sound.closed_mark; level = sound.level }

module _ {L D : Type 0} (layout : LayoutGhosts L) (device : Ghosts D) (named : Fields → Option (List (List ℕ))) where
  -- The frame is written behind its lead, in a take without a tail.
  pub publishes : (parts : TakeParts D) (d : D) (file : Growing) (h : Recorded) (unit : List ℕ) (at : ℕ) {E : Type 0} (done : Unit {0})
      → (k : KeepsTake layout device named (record parts { tail = false })) → MayPublish (seen_of (record parts { tail = false })) → IsSized unit
      → IsNumbered (named parts.file.config) (published (seen_of parts)) unit → at ≡ length (layout.growing parts.file.config k.units)
      → Wrote {E = E} device Essence at (layout.lead parts.file.config k.units (length unit) ++ unit) parts.disk d (Ok done)
      → file.config ≡ parts.file.config → file.places ≡ layout.places_of parts.file.config (k.units ++ unit ∷ []) → file.room ≡ parts.file.room
      → h ≡ record parts.history { entries = parts.history.entries ++ entry.Published (length unit) ∷ [] }
      → KeepsTake layout device named (record parts { disk = d; file = file; history = h; tail = false })
  publishes parts d file h unit at done k may sized numbered place wrote cfg_is places_are room_is is =
      subst (λ (f : Growing). KeepsTake layout device named (record parts { disk = d; file = f; history = h; tail = false }))
      (file_is file cfg (layout.places_of cfg units) parts.file.room cfg_is places_are room_is)
      (subst (λ (r : Recorded). KeepsTake layout device named (record parts { disk = d; file = made_file; history = r; tail = false })) (sym is) (record {
        laws = k.laws;
        rooms = record {
          ranged = k.rooms.ranged;
          records = omega (arith, k.rooms.records, same_commits);
          stop = k.rooms.stop ∙ no-faults entries may.growing ∙ sym (faults-push entries next (no-faults entries may.growing));
          places = k.rooms.places;
          entries = k.rooms.entries;
          buffer = k.rooms.buffer;
        };
        units = units;
        lie = refl;
        stands = record {
          sound = any_slices new (without_frame (published old) (λ frame index. true)) no_slices
              (k.laws.stays (core_of old (λ frame index. true)) (core_of new (without_frame (published old) (λ frame index. true))) (Publish (length unit)) Done
              (is_publish old d (length unit) may.growing may.no_tail may.room may.near sized.some sized.most (λ frame index. true) (λ index l. refl))
              (any_slices old no_slices (λ frame index. true) k.stands.sound));
          are_units = are;
          sized = All-append IsSized k.units (unit ∷ []) k.stands.sized (one IsSized unit sized);
          counted = omega (arith, length-append k.units (unit ∷ []), k.stands.counted, more);
          lengths = lengths-append entries (next ∷ []) ∙ ap (λ (xs : List ℕ). xs ++ length unit ∷ []) k.stands.lengths
              ∙ sym (map-append (λ (u : List ℕ). length u) k.units (unit ∷ []));
          first = first_more (named cfg) k.units (published old) unit k.stands.counted k.stands.first numbered;
          reaches = omega (arith, growth.essence_len);
          begins = table_begins layout device k.laws.lays_out d cfg units (acked new) (commits_in new.history) false parts.commit parts.out growth.table;
          safe = table_safe_told layout device k.laws.lays_out d cfg units (acked new) (commits_in new.history) false parts.commit parts.out growth.table;
        };
        grows = λ e. growth;
        ended = λ e. absurd (not_both _ (phase-push entries next ∙ may.growing) e);
      }))
    where
      cfg : Fields
      cfg = parts.file.config

      entries : List Entry
      entries = parts.history.entries

      next : Entry
      next = entry.Published (length unit)

      units : List (List ℕ)
      units = k.units ++ unit ∷ []

      made_file : Growing
      made_file = record { config = cfg; places = layout.places_of cfg units; room = parts.file.room }

      old : TakeSeen D
      old = seen_of (record parts { tail = false })

      new : TakeSeen D
      new = record old { disk = d; history = entries ++ next ∷ [] }

      not_both : (p : Phase) → p ≡ phase.Growing → p ≡ phase.Closed → ⊥
      not_both p a b = cc

      was : Grows layout device old k.units
      was = k.grows may.growing

      more : published_in (entries ++ next ∷ []) ≡ published_in entries + 1
      more = published-push entries next

      same_acked : acked_in (entries ++ next ∷ []) ≡ acked_in entries
      same_acked = acked-push entries next

      same_commits : commits_in (entries ++ next ∷ []) ≡ commits_in entries
      same_commits = omega (arith, commits-push entries next)

      are : AreUnits (layout.is_unit cfg) cfg.max_frames units
      are = record {
        each = All-append (layout.is_unit cfg) k.units (unit ∷ []) k.stands.are_units.each
            (one (layout.is_unit cfg) unit (k.laws.all_are cfg unit sized.most));
        few = omega (arith, length-append k.units (unit ∷ []), k.stands.counted, may.room);
      }

      bytes : List ℕ
      bytes = layout.lead cfg k.units (length unit) ++ unit

      grown : layout.growing cfg units ≡ layout.growing cfg k.units ++ bytes
      grown = k.laws.lays_out.grows cfg k.units unit

      written : (a b : Disk) → Table layout cfg k.units (acked_in entries) (commits_in entries) false parts.commit parts.out a
          → WritesIn Essence at (length bytes) a b → Writes Essence at bytes a b
          → Table layout cfg units (acked_in entries) (commits_in entries) false parts.commit parts.out b
      written a b t torn wrote =
          let reads = written_at (layout.growing cfg k.units) t.essence_rest bytes a.essence.reads b.essence.reads at t.essence place wrote in
          publish_done layout k.laws.lays_out cfg k.units (acked_in entries) (commits_in entries) parts.commit parts.out unit reads.0 b are
          (publish_torn layout k.laws.lays_out cfg k.units (acked_in entries) (commits_in entries) parts.commit parts.out at (at + length bytes)
          (omega (arith, place)) a b t torn)
          (reads.1 ∙ ap (λ (xs : List ℕ). xs ++ reads.0) (sym grown))

      table : IfTold (device.told d) (Table layout cfg units (acked_in entries) (commits_in entries) false parts.commit parts.out)
      table = lift (device.told parts.disk) (device.told d) _ _ _ was.table (both (device.told parts.disk) (device.told d) _ _ wrote.inside.torn wrote.written)
          (λ a b t steps. written a b t steps.0 steps.1)

      growth : Grows layout device new units
      growth = record {
        essence_len = omega (
          arith,
          wrote.lengths.whole,
          was.essence_len,
          place,
          ap (length {A = ℕ}) grown,
          length-append (layout.growing cfg k.units) bytes,
        );
        commits_len = omega (arith, wrote.lengths.same, was.commits_len, ap (λ (n : ℕ). commits_reach n parts.commit) same_commits);
        due = subst (λ (n : ℕ). Due layout cfg units n false parts.commit) (sym same_acked)
            (more_due layout cfg k.units (unit ∷ []) (acked_in entries) parts.commit was.due);
        own = λ ticket out.
            let mine = was.own ticket out in
            record { is_out = mine.is_out; area = mine.area; made = λ n. wrote.inside.tickets ticket (mine.made n) };
        table = subst (λ (n : ℕ). IfTold (device.told d) (Table layout cfg units n (commits_in new.history) false parts.commit parts.out)) (sym same_acked)
            (subst (λ (n : ℕ). IfTold (device.told d) (Table layout cfg units (acked_in entries) n false parts.commit parts.out)) (sym same_commits) table);
      }

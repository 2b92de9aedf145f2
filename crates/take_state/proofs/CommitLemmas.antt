-- What each call of a commit keeps.
use Rattle.std.proofs.Common.{◌≡◌, ℕ, ◌+◌, ◌-◌, ◌*◌, ◌^◌, ◌≤◌, ◌<◌, max, Bool, true, false, List, [], ◌∷◌, ◌++◌, length, drop, Option, Some, None, Result, Ok, refl, sym, ap, subst, ◌∙◌, arith, append-nil, length-append, true≢false}
use Rattle.std.proofs.lemmas.Option.{none-some}
use Rattle.rec_bytes.specs.Configuration.{Fields}
use Rattle.take_core.specs.Phases.{core_phase}
use Rattle.take_core.specs.Recorded.{Recorded}
use Rattle.take_core.specs.Sound.{IsSound}
use Rattle.take_core.specs.States.{no_slices}
use Rattle.take_core.specs.declared.commit_phase.CommitPhase.{CommitPhase}
use Rattle.take_core.specs.declared.commit_phase.CommitPhase.TheVariants.{Idle, MarkOut, Marked, NoteOut, Noted, GateOut, Opened}
use Rattle.take_core.specs.declared.entry.Entry.{Entry}
use Rattle.take_core.specs.declared.entry.Entry.TheVariants as entry
use Rattle.take_core.specs.declared.event.Event.TheVariants.{BeginCommit, NoteRecord, OpenGate, Acknowledge, WriteTail, Finish}
use Rattle.take_core.specs.declared.mark.Mark.{Mark}
use Rattle.take_core.specs.declared.snapshot.Phase.{Phase}
use Rattle.take_core.specs.declared.snapshot.Phase.TheVariants as phase
use Rattle.take_disk.specs.Calls.{IfTold, Steps, WritesIn, Writes}
use Rattle.take_disk.specs.Held.{Disk, Held, InArea, Changed}
use Rattle.take_disk.specs.declared.area.Area.TheVariants.{Essence, Commits}
use Rattle.take_disk.specs.declared.disk.TakeDisk.{Ghosts}
use Rattle.take_disk.specs.declared.ticket.Ticket.{Ticket}
use Rattle.take_layout.specs.declared.layout.TakeLayout.{Ghosts as LayoutGhosts}
use Rattle.commit_sidecar.specs.Notes.{note_of}
use Rattle.commit_sidecar.specs.Says.{gate_place}
use Rattle.commit_sidecar.specs.Recovers.{IsSafe, file_of}
use Rattle.commit_phases.specs.Goes.{Goes}
use Rattle.commit_phases.specs.Phases.{Due, IsDue, commits_reach}
use Rattle.commit_phases.specs.Table.{Table, AllSafe, IsClosed}
use Rattle.commit_phases.specs.laws.Commits.{acknowledged, begin, due_all, finished, gate_done, gate_torn, note_done, note_torn}
use Rattle.commit_phases.specs.laws.Essence.{publish_torn, tail_done, tail_reads, whole_reads}
use Rattle.commit_phases.specs.laws.Lists.{begins_with}
use Rattle.commit_phases.specs.laws.Records.{note_long}
use Rattle.commit_phases.specs.laws.Runs.{Lengths, all_long}
use Rattle.commit_phases.specs.laws.Safety.{closed_safe, table_safe}
use Rattle.commit_phases.specs.laws.Told.{both, changes, lift, two}
use Rattle.take_state.specs.Events.{core_of, IsEvent}
use Rattle.take_state.specs.Seen.{TakeSeen, published, acked, phase_of, commits_in, lengths_in, faults_in}
use Rattle.take_state.specs.Stands.{Begins, IsTakeOf, IsOwn, Grows, Ended}
use Rattle.take_state.specs.inner.Keeping.{TakeParts, KeepsTake, HasLaws, seen_of}
use Rattle.take_state.specs.inner.Writing.{WritesInside, Wrote}
use Rattle.take_state.proofs.CrashLemmas.{writes_safe}
use Rattle.take_state.proofs.EventLemmas.{is_acknowledge, is_begin, is_finish, is_gate, is_note, is_tail, stays_sound}
use Rattle.take_state.proofs.HistoryLemmas.{acked-push, commits-push, faults-push, lengths-append, no-faults, phase-push, published-push}
use Rattle.take_state.proofs.TakeLemmas.{few_entries, file_longer, goes_on, numbers, stops}

-- a take whose frames are not all durable has no tail
no_tail : (tail : Bool) (durable frames : ℕ) → (tail ≡ true → durable ≡ frames) → durable < frames → tail ≡ false
no_tail false durable frames level behind = refl
no_tail true durable frames level behind = absurd (omega (arith, level refl, behind))

module _ {L D : Type 0} (layout : LayoutGhosts L) (device : Ghosts D) (named : Fields → Option (List (List ℕ))) where
  -- the table of a phase that is known
  pub table_at : (parts : TakeParts D) (units : List (List ℕ)) (commit : CommitPhase) → parts.commit ≡ commit → Grows layout device (seen_of parts) units
      → IfTold (device.told parts.disk)
      (Table layout parts.file.config units (acked (seen_of parts)) (commits_in parts.history.entries) parts.tail commit parts.out)
  table_at parts units commit is grows = subst (λ (p : CommitPhase). IfTold (device.told parts.disk)
      (Table layout parts.file.config units (acked (seen_of parts)) (commits_in parts.history.entries) parts.tail p parts.out)) is grows.table

  reach_at : (parts : TakeParts D) (units : List (List ℕ)) (commit : CommitPhase) → parts.commit ≡ commit → Grows layout device (seen_of parts) units
      → commits_reach (commits_in parts.history.entries) commit ≤ device.length_of parts.disk Commits
  reach_at parts units commit is grows =
      subst (λ (p : CommitPhase). commits_reach (commits_in parts.history.entries) p ≤ device.length_of parts.disk Commits) is grows.commits_len

  due_at : (parts : TakeParts D) (units : List (List ℕ)) (commit : CommitPhase) → parts.commit ≡ commit → Grows layout device (seen_of parts) units
      → Due layout parts.file.config units (acked (seen_of parts)) parts.tail commit
  due_at parts units commit is grows =
      subst (λ (p : CommitPhase). Due layout parts.file.config units (acked (seen_of parts)) parts.tail p) is grows.due

  -- no ticket is out
  none_own : (s : TakeSeen D) → s.out ≡ None → (ticket : Ticket) → s.out ≡ Some ticket → IsOwn device s ticket
  none_own s none ticket is = absurd (none-some ticket (sym none ∙ is))

  pub begun : (parts : TakeParts D) (mark : Mark) → (k : KeepsTake layout device named parts) → phase_of (seen_of parts) ≡ phase.Growing → parts.commit ≡ Idle
      → acked (seen_of parts) < published (seen_of parts) → (len : ℕ) → len ≡ length (layout.growing parts.file.config k.units)
      → mark ≡ record { count = published (seen_of parts); length = len; closed = false }
      → KeepsTake layout device named (record parts { commit = MarkOut mark; out = None })
  begun parts mark k grows idle behind len long is = subst
      (λ (m : Mark). KeepsTake layout device named (record parts { commit = MarkOut m; out = None })) (sym is)
      (goes_on layout device named parts parts.disk parts.history parts.records (MarkOut made) parts.tail None k
      (stays_sound layout k.laws old new BeginCommit (is_begin old len grows idle behind tail_is) k.stands.sound)
      refl k.rooms.records (sym k.rooms.stop) refl refl grows (record {
        essence_len = growth.essence_len;
        commits_len = reach_at parts k.units Idle idle growth;
        due = due;
        own = none_own new refl;
        table = changes (device.told parts.disk) _ _ (table_at parts k.units Idle idle growth)
            (λ held t. begin layout k.laws.lays_out parts.file.config k.units (acked old) (commits_in old.history) parts.tail made parts.out held due t);
      }))
    where
      old : TakeSeen D
      old = seen_of parts

      made : Mark
      made = record { count = published old; length = len; closed = false }

      new : TakeSeen D
      new = record old { commit = MarkOut made; out = None }

      growth : Grows layout device old k.units
      growth = k.grows grows

      tail_is : parts.tail ≡ false
      tail_is = no_tail parts.tail (acked old) (published old) k.stands.sound.level behind

      mark_is : (b : Bool) → b ≡ false → made ≡ record { count = length k.units; length = length (file_of layout b parts.file.config k.units); closed = b }
      mark_is false e = ap (λ (n : ℕ). record { count = n; length = len; closed = false }) (sym k.stands.counted)
          ∙ ap (λ (n : ℕ). record { count = length k.units; length = n; closed = false }) long
      mark_is true e = absurd (true≢false e)

      due : IsDue layout parts.file.config k.units (acked old) parts.tail made
      due = due_all layout parts.file.config k.units (acked old) parts.tail made
          (let n = numbers old k.stands.sound in omega (arith, n.durable, k.stands.counted)) (mark_is parts.tail tail_is)

  -- a write of the commits leaves the essence
  essence_same : (cfg : Fields) (units : List (List ℕ)) (at count : ℕ) (old new : D) → IfTold (device.told old) (Begins layout cfg units)
      → Steps (device.told old) (device.told new) (WritesIn Commits at count) → IfTold (device.told new) (Begins layout cfg units)
  essence_same cfg units at count old new begins steps = lift (device.told old) (device.told new) _ _ _ begins steps (λ a b start step.
      let same : b.essence ≡ a.essence = step.same in
      record { rest = start.rest; reads = ap (λ (h : Held). h.reads) same ∙ start.reads })

  -- the commits are written: the record of a mark
  pub noted : (parts : TakeParts D) (d : D) (mark : Mark) (at : ℕ) {E : Type 0} (done : Unit {0}) → (k : KeepsTake layout device named parts)
      → phase_of (seen_of parts) ≡ phase.Growing → parts.commit ≡ Marked mark → at ≡ gate_place parts.records + 1
      → Wrote {E = E} device Commits at (note_of mark ++ 0 ∷ []) parts.disk d (Ok done)
      → KeepsTake layout device named (record parts { disk = d; commit = NoteOut mark; out = None })
  noted parts d mark at done k grows marked place wrote =
      goes_on layout device named parts d parts.history parts.records (NoteOut mark) parts.tail None k
      (stays_sound layout k.laws old new NoteRecord (is_note old d mark grows marked) k.stands.sound)
      refl k.rooms.records (sym k.rooms.stop) refl refl grows (record {
        essence_len = wrote.lengths.same ∙ growth.essence_len;
        commits_len = omega (arith, wrote.lengths.whole, at_is, note_long mark, reach_at parts k.units (Marked mark) marked growth);
        due = due_at parts k.units (Marked mark) marked growth;
        own = none_own new refl;
        table = lift (device.told parts.disk) (device.told d) _ _ _ (table_at parts k.units (Marked mark) marked growth)
            (both (device.told parts.disk) (device.told d) _ _ wrote.inside.torn wrote.written) (λ a b t steps.
            note_done layout k.laws.lays_out parts.file.config k.units (acked old) (commits_in old.history) parts.tail mark parts.out a b t
            (subst (λ (n : ℕ). WritesIn Commits n (length (note_of mark ++ 0 ∷ [])) a b) at_is steps.0)
            (subst (λ (n : ℕ). Writes Commits n (note_of mark ++ 0 ∷ []) a b) at_is steps.1));
      })
    where
      old : TakeSeen D
      old = seen_of parts

      new : TakeSeen D
      new = record old { disk = d; commit = NoteOut mark; out = None }

      growth : Grows layout device old k.units
      growth = k.grows grows

      at_is : at ≡ gate_place (commits_in parts.history.entries) + 1
      at_is = place ∙ ap (λ (n : ℕ). gate_place n + 1) k.rooms.records

  -- whatever was written there, what a crash leaves is safe
  pub note_safe : (parts : TakeParts D) (mark : Mark) (at : ℕ) (bytes : List ℕ) → (k : KeepsTake layout device named parts)
      → phase_of (seen_of parts) ≡ phase.Growing → parts.commit ≡ Marked mark → at ≡ gate_place parts.records + 1
      → IfTold (device.told parts.disk) (λ held. (written : Disk) → WritesIn Commits at (length bytes) held written
      → AllSafe layout parts.file.config k.units (acked (seen_of parts)) written)
  note_safe parts mark at bytes k grows marked place =
      changes (device.told parts.disk) _ _ (table_at parts k.units (Marked mark) marked (k.grows grows)) (λ held t written torn.
      table_safe layout k.laws.lays_out parts.file.config k.units (acked (seen_of parts)) (commits_in parts.history.entries) parts.tail (Marked mark) parts.out written
      (note_torn layout k.laws.lays_out parts.file.config k.units (acked (seen_of parts)) (commits_in parts.history.entries) parts.tail mark parts.out
      (at + length bytes) held written t
      (subst (λ (n : ℕ). InArea Commits (Changed n (at + length bytes)) held written) (place ∙ ap (λ (n : ℕ). gate_place n + 1) k.rooms.records) torn)))

  -- the gate is opened by one byte
  pub gated : (parts : TakeParts D) (d : D) (mark : Mark) (at : ℕ) {E : Type 0} (done : Unit {0}) → (k : KeepsTake layout device named parts)
      → phase_of (seen_of parts) ≡ phase.Growing → parts.commit ≡ Noted mark → at ≡ gate_place parts.records
      → Wrote {E = E} device Commits at (1 ∷ []) parts.disk d (Ok done)
      → KeepsTake layout device named (record parts { disk = d; commit = GateOut mark; out = None })
  gated parts d mark at done k grows was place wrote =
      goes_on layout device named parts d parts.history parts.records (GateOut mark) parts.tail None k
      (stays_sound layout k.laws old new OpenGate (is_gate old d mark grows was) k.stands.sound)
      refl k.rooms.records (sym k.rooms.stop) refl refl grows (record {
        essence_len = wrote.lengths.same ∙ growth.essence_len;
        commits_len = omega (arith, wrote.lengths.least, reach_at parts k.units (Noted mark) was growth);
        due = due_at parts k.units (Noted mark) was growth;
        own = none_own new refl;
        table = lift (device.told parts.disk) (device.told d) _ _ _ (table_at parts k.units (Noted mark) was growth)
            (both (device.told parts.disk) (device.told d) _ _ wrote.inside.torn wrote.written) (λ a b t steps.
            gate_done layout k.laws.lays_out parts.file.config k.units (acked old) (commits_in old.history) parts.tail mark parts.out a b t
            (subst (λ (n : ℕ). WritesIn Commits n 1 a b) at_is steps.0)
            (subst (λ (n : ℕ). Writes Commits n (1 ∷ []) a b) at_is steps.1));
      })
    where
      old : TakeSeen D
      old = seen_of parts

      new : TakeSeen D
      new = record old { disk = d; commit = GateOut mark; out = None }

      growth : Grows layout device old k.units
      growth = k.grows grows

      at_is : at ≡ gate_place (commits_in parts.history.entries)
      at_is = place ∙ ap (λ (n : ℕ). gate_place n) k.rooms.records

  pub gate_safe : (parts : TakeParts D) (mark : Mark) (at : ℕ) → (k : KeepsTake layout device named parts)
      → phase_of (seen_of parts) ≡ phase.Growing → parts.commit ≡ Noted mark → at ≡ gate_place parts.records
      → IfTold (device.told parts.disk) (λ held. (written : Disk) → WritesIn Commits at 1 held written
      → AllSafe layout parts.file.config k.units (acked (seen_of parts)) written)
  gate_safe parts mark at k grows was place =
      changes (device.told parts.disk) _ _ (table_at parts k.units (Noted mark) was (k.grows grows)) (λ held t written torn.
      gate_torn layout k.laws.lays_out parts.file.config k.units (acked (seen_of parts)) (commits_in parts.history.entries) parts.tail mark parts.out held written t
      (subst (λ (n : ℕ). WritesIn Commits n 1 held written) (place ∙ ap (λ (n : ℕ). gate_place n) k.rooms.records) torn))

  -- A write of the commits has failed: the take is stopped.
  pub commits_stop : (parts : TakeParts D) (d : D) (at count : ℕ) (h : Recorded) (stop : Option ℕ) (faults : ℕ) → (k : KeepsTake layout device named parts)
      → phase_of (seen_of parts) ≡ phase.Growing → 1 ≤ faults → h ≡ record parts.history { entries = parts.history.entries ++ entry.Stopped faults ∷ [] }
      → stop ≡ Some faults → device.length_of d Essence ≡ device.length_of parts.disk Essence → WritesInside device Commits at count parts.disk d
      → IfTold (device.told parts.disk) (λ held. (written : Disk) → WritesIn Commits at count held written
      → AllSafe layout parts.file.config k.units (acked (seen_of parts)) written)
      → KeepsTake layout device named (record parts { disk = d; history = h; stop = stop })
  commits_stop parts d at count h stop faults k grows some is says same inside safe =
      stops layout device named parts d h stop faults k grows some is says (omega (arith, same, k.stands.reaches))
      (essence_same parts.file.config k.units at count parts.disk d k.stands.begins inside.torn)
      (lift (device.told parts.disk) (device.told d) _ _ _ safe inside.torn (λ a b all step. all b step))

  -- the frames of the mark are told to be durable
  pub told_durable : (parts : TakeParts D) (mark : Mark) (h : Recorded) → (k : KeepsTake layout device named parts)
      → phase_of (seen_of parts) ≡ phase.Growing → parts.commit ≡ Opened mark → mark.closed ≡ false
      → h ≡ record parts.history { entries = parts.history.entries ++ entry.Acked mark.count ∷ [] }
      → KeepsTake layout device named (record parts { history = h; records = parts.records + 1; commit = Idle; out = None })
  told_durable parts mark h k grows opened not_closed is = subst
      (λ (r : Recorded). KeepsTake layout device named (record parts { history = r; records = parts.records + 1; commit = Idle; out = None })) (sym is)
      (goes_on layout device named parts parts.disk (record parts.history { entries = entries ++ entry.Acked mark.count ∷ [] }) (parts.records + 1) Idle parts.tail None k
      (stays_sound layout k.laws old new Acknowledge (is_acknowledge old mark grows opened not_closed) k.stands.sound)
      refl (omega (arith, k.rooms.records, more)) (faults-push entries (entry.Acked mark.count) (no-faults entries grows) ∙ sym (no-faults entries grows) ∙ sym k.rooms.stop)
      (omega (arith, published-push entries (entry.Acked mark.count)))
      (lengths-append entries (entry.Acked mark.count ∷ []) ∙ append-nil (lengths_in entries))
      (phase-push entries (entry.Acked mark.count) ∙ grows) (record {
        essence_len = growth.essence_len;
        commits_len = omega (arith, more, reach_at parts k.units (Opened mark) opened growth);
        due = tt;
        own = none_own new refl;
        table = changes (device.told parts.disk) _ _ (table_at parts k.units (Opened mark) opened growth) (λ held t.
            durable held t (acked new) (commits_in new.history) parts.tail (acked-push entries (entry.Acked mark.count)) more (sym due.ended ∙ not_closed));
      }))
    where
      entries : List Entry
      entries = parts.history.entries

      old : TakeSeen D
      old = seen_of parts

      new : TakeSeen D
      new = record old { history = entries ++ entry.Acked mark.count ∷ []; commit = Idle; out = None }

      growth : Grows layout device old k.units
      growth = k.grows grows

      due : IsDue layout parts.file.config k.units (acked old) parts.tail mark
      due = due_at parts k.units (Opened mark) opened growth

      more : commits_in (entries ++ entry.Acked mark.count ∷ []) ≡ commits_in entries + 1
      more = commits-push entries (entry.Acked mark.count)

      durable : (held : Disk) → Table layout parts.file.config k.units (acked old) (commits_in entries) parts.tail (Opened mark) parts.out held
          → (a records : ℕ) (tail : Bool) → a ≡ mark.count → records ≡ commits_in entries + 1 → parts.tail ≡ false
          → Table layout parts.file.config k.units a records parts.tail Idle None held
      durable held t a records tail count number none =
          subst (λ (n : ℕ). Table layout parts.file.config k.units n records parts.tail Idle None held) (sym count)
          (subst (λ (n : ℕ). Table layout parts.file.config k.units mark.count n parts.tail Idle None held) (sym number)
          (subst (λ (b : Bool). Table layout parts.file.config k.units mark.count (commits_in entries + 1) b Idle None held) (sym none)
          (acknowledged layout k.laws.lays_out parts.file.config k.units (acked old) (commits_in entries) mark parts.out held
          (subst (λ (b : Bool). Table layout parts.file.config k.units (acked old) (commits_in entries) b (Opened mark) parts.out held) none t))))

  -- the take is told to be whole
  pub told_whole : (parts : TakeParts D) (mark : Mark) (h : Recorded) → (k : KeepsTake layout device named parts)
      → phase_of (seen_of parts) ≡ phase.Growing → parts.commit ≡ Opened mark → mark.closed ≡ true
      → h ≡ record parts.history { entries = parts.history.entries ++ entry.Closed ∷ [] }
      → KeepsTake layout device named (record parts { history = h; records = parts.records + 1; commit = Idle; out = None })
  told_whole parts mark h k grows opened closed is = subst
      (λ (r : Recorded). KeepsTake layout device named (record parts { history = r; records = parts.records + 1; commit = Idle; out = None })) (sym is) (record {
        laws = k.laws;
        rooms = record {
          ranged = k.rooms.ranged;
          records = omega (arith, k.rooms.records, more);
          stop = k.rooms.stop ∙ no-faults entries grows ∙ sym (faults-push entries entry.Closed (no-faults entries grows));
          places = k.rooms.places;
          entries = k.rooms.entries;
          buffer = k.rooms.buffer;
        };
        units = k.units;
        lie = k.lie;
        stands = record {
          sound = stays_sound layout k.laws old new Finish (is_finish old mark grows opened closed) k.stands.sound;
          are_units = k.stands.are_units;
          sized = k.stands.sized;
          counted = omega (arith, k.stands.counted, published-push entries entry.Closed);
          lengths = lengths-append entries (entry.Closed ∷ []) ∙ append-nil (lengths_in entries) ∙ k.stands.lengths;
          first = k.stands.first;
          reaches = k.stands.reaches;
          begins = k.stands.begins;
          safe = subst (λ (n : ℕ). IfTold (device.told parts.disk) (AllSafe layout parts.file.config k.units n)) (sym (acked-push entries entry.Closed)) k.stands.safe;
        };
        grows = λ e. absurd (not_growing _ (phase-push entries entry.Closed) e);
        ended = λ e. record {
          tail = tail_is;
          closed = changes (device.told parts.disk) _ _ (table_at parts k.units (Opened mark) opened growth) (λ held t.
              subst (λ (n : ℕ). IsClosed layout parts.file.config k.units n held) (sym more)
              (finished layout k.laws.lays_out parts.file.config k.units (acked old) (commits_in entries) mark parts.out held
              (subst (λ (b : Bool). Table layout parts.file.config k.units (acked old) (commits_in entries) b (Opened mark) parts.out held) tail_is t)));
        };
      })
    where
      entries : List Entry
      entries = parts.history.entries

      old : TakeSeen D
      old = seen_of parts

      new : TakeSeen D
      new = record old { history = entries ++ entry.Closed ∷ []; commit = Idle; out = None }

      growth : Grows layout device old k.units
      growth = k.grows grows

      due : IsDue layout parts.file.config k.units (acked old) parts.tail mark
      due = due_at parts k.units (Opened mark) opened growth

      tail_is : parts.tail ≡ true
      tail_is = sym due.ended ∙ closed

      more : commits_in (entries ++ entry.Closed ∷ []) ≡ commits_in entries + 1
      more = commits-push entries entry.Closed

      not_growing : (p : Phase) → p ≡ phase.Closed → p ≡ phase.Growing → ⊥
      not_growing p a b = cc

  -- the essence is written behind the file: the tail
  pub tailed : (parts : TakeParts D) (d : D) (at len : ℕ) (mark : Mark) (tail : List ℕ) {E : Type 0} (done : Unit {0}) → Lengths device
      → (k : KeepsTake layout device named parts) → phase_of (seen_of parts) ≡ phase.Growing → parts.commit ≡ Idle
      → acked (seen_of parts) ≡ published (seen_of parts) → parts.tail ≡ false → at ≡ length (layout.growing parts.file.config k.units)
      → tail ≡ layout.tail parts.file.config k.units → len ≡ device.length_of d Essence → mark ≡ record { count = published (seen_of parts); length = len; closed = true }
      → Wrote {E = E} device Essence at tail parts.disk d (Ok done)
      → KeepsTake layout device named (record parts { disk = d; commit = MarkOut mark; tail = true; out = None })
  tailed parts d at len mark tail done long k grows idle level none place is ends marks wrote = subst
      (λ (m : Mark). KeepsTake layout device named (record parts { disk = d; commit = MarkOut m; tail = true; out = None })) (sym marks)
      (goes_on layout device named parts d parts.history parts.records (MarkOut made) true None k
      (stays_sound layout k.laws old new WriteTail (is_tail old d len grows idle level none) k.stands.sound)
      refl k.rooms.records (sym k.rooms.stop) refl refl grows (record {
        essence_len = sym ends ∙ whole;
        commits_len = omega (arith, wrote.lengths.same, reach_at parts k.units Idle idle growth);
        due = due;
        own = none_own new refl;
        table = lift (device.told parts.disk) (device.told d) _ _ _
            (two (device.told parts.disk) _ _ (λ a. Table layout cfg k.units (acked old) (commits_in old.history) false Idle parts.out a
            × (device.length_of parts.disk Essence ≡ length a.essence.reads)) table (all_long device long parts.disk Essence) (λ held t l. (t, l)))
            (both (device.told parts.disk) (device.told d) _ _ wrote.inside.torn wrote.written) (λ a b t steps. written a b t.0 t.1 steps.0 steps.1);
      }))
    where
      cfg : Fields
      cfg = parts.file.config

      old : TakeSeen D
      old = seen_of parts

      made : Mark
      made = record { count = published old; length = len; closed = true }

      new : TakeSeen D
      new = record old { disk = d; commit = MarkOut made; tail = true; out = None }

      growth : Grows layout device old k.units
      growth = k.grows grows

      file_len : device.length_of parts.disk Essence ≡ length (layout.growing cfg k.units)
      file_len = growth.essence_len ∙ ap (λ (b : Bool). length (file_of layout b cfg k.units)) none

      whole : len ≡ length (layout.closed cfg k.units)
      whole = omega (
        arith,
        ends,
        wrote.lengths.whole,
        file_len,
        place,
        ap (length {A = ℕ}) is,
        ap (length {A = ℕ}) (k.laws.lays_out.closes cfg k.units),
        length-append (layout.growing cfg k.units) (layout.tail cfg k.units),
      )

      made_is : made ≡ record { count = length k.units; length = length (layout.closed cfg k.units); closed = true }
      made_is = ap (λ (n : ℕ). record { count = n; length = len; closed = true }) (sym k.stands.counted)
          ∙ ap (λ (n : ℕ). record { count = length k.units; length = n; closed = true }) whole

      due : IsDue layout cfg k.units (acked old) true made
      due = due_all layout cfg k.units (acked old) true made (omega (arith, level, k.stands.counted)) made_is

      table : IfTold (device.told parts.disk) (Table layout cfg k.units (acked old) (commits_in old.history) false Idle parts.out)
      table = subst (λ (b : Bool). IfTold (device.told parts.disk) (Table layout cfg k.units (acked old) (commits_in old.history) b Idle parts.out)) none
          (table_at parts k.units Idle idle growth)

      written : (a b : Disk) → Table layout cfg k.units (acked old) (commits_in old.history) false Idle parts.out a
          → device.length_of parts.disk Essence ≡ length a.essence.reads → WritesIn Essence at (length tail) a b → Writes Essence at tail a b
          → Table layout cfg k.units (acked old) (commits_in old.history) true (MarkOut made) None b
      written a b t l torn wrote =
          let front = whole_reads layout k.laws.lays_out cfg k.units (acked old) (commits_in old.history) Idle parts.out a t (omega (arith, l, file_len)) in
          let reads = tail_reads layout k.laws.lays_out cfg k.units (acked old) (commits_in old.history) at tail a b place is front wrote in
          tail_done layout k.laws.lays_out cfg k.units (acked old) (commits_in old.history) parts.out made b made_is
          (publish_torn layout k.laws.lays_out cfg k.units (acked old) (commits_in old.history) Idle parts.out at (at + length tail) (omega (arith, place)) a b t torn) reads

  -- whatever was written behind the file, what a crash leaves is safe
  pub behind_safe : (parts : TakeParts D) (at count : ℕ) → (k : KeepsTake layout device named parts) → phase_of (seen_of parts) ≡ phase.Growing
      → parts.tail ≡ false → at ≡ length (layout.growing parts.file.config k.units)
      → IfTold (device.told parts.disk) (λ held. (written : Disk) → WritesIn Essence at count held written
      → AllSafe layout parts.file.config k.units (acked (seen_of parts)) written)
  behind_safe parts at count k grows none place = changes (device.told parts.disk) _ _ (table_behind parts k grows none) (λ held t written torn.
      table_safe layout k.laws.lays_out parts.file.config k.units (acked (seen_of parts)) (commits_in parts.history.entries) false parts.commit parts.out written
      (publish_torn layout k.laws.lays_out parts.file.config k.units (acked (seen_of parts)) (commits_in parts.history.entries) parts.commit parts.out
      at (at + count) (omega (arith, place)) held written t torn))
    where
      table_behind : (parts : TakeParts D) → (k : KeepsTake layout device named parts) → phase_of (seen_of parts) ≡ phase.Growing → parts.tail ≡ false
          → IfTold (device.told parts.disk)
          (Table layout parts.file.config k.units (acked (seen_of parts)) (commits_in parts.history.entries) false parts.commit parts.out)
      table_behind parts k grows none = subst (λ (b : Bool). IfTold (device.told parts.disk)
          (Table layout parts.file.config k.units (acked (seen_of parts)) (commits_in parts.history.entries) b parts.commit parts.out)) none (k.grows grows).table

  -- a write behind the file leaves what the essence begins with
  behind_begins : (cfg : Fields) (units : List (List ℕ)) (at count : ℕ) (old new : D) → at ≡ length (layout.growing cfg units)
      → IfTold (device.told old) (Begins layout cfg units) → Steps (device.told old) (device.told new) (WritesIn Essence at count)
      → IfTold (device.told new) (Begins layout cfg units)
  behind_begins cfg units at count old new place begins steps = lift (device.told old) (device.told new) _ _ _ begins steps (λ a b start step. record {
    rest = drop at b.essence.reads;
    reads = begins_with b.essence.reads a.essence.reads (layout.growing cfg units) start.rest at step.changed.before start.reads (sym place);
  })

  -- A write behind the file has failed: the take is stopped.
  pub behind_stop : (parts : TakeParts D) (d : D) (at count : ℕ) (h : Recorded) (stop : Option ℕ) (faults : ℕ) → (k : KeepsTake layout device named parts)
      → phase_of (seen_of parts) ≡ phase.Growing → 1 ≤ faults → h ≡ record parts.history { entries = parts.history.entries ++ entry.Stopped faults ∷ [] }
      → stop ≡ Some faults → device.length_of parts.disk Essence ≤ device.length_of d Essence → parts.tail ≡ false
      → at ≡ length (layout.growing parts.file.config k.units) → WritesInside device Essence at count parts.disk d
      → KeepsTake layout device named (record parts { disk = d; history = h; stop = stop })
  behind_stop parts d at count h stop faults k grows some is says longer none place inside =
      stops layout device named parts d h stop faults k grows some is says (omega (arith, longer, k.stands.reaches))
      (behind_begins parts.file.config k.units at count parts.disk d place k.stands.begins inside.torn)
      (lift (device.told parts.disk) (device.told d) _ _ _ (behind_safe parts at count k grows none place) inside.torn (λ a b all step. all b step))

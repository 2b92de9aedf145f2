-- What the barriers of a commit keep.
use Rattle.std.proofs.Common.{◌≡◌, ℕ, ◌≤◌, List, [], length, Option, Some, None, refl, sym, ap, subst, ◌∙◌, arith}
use Rattle.std.proofs.lemmas.Option.{none-some, same_Some}
use Rattle.rec_bytes.specs.Configuration.{Fields}
use Rattle.take_core.specs.Phases.{core_phase}
use Rattle.take_core.specs.Sound.{IsSound}
use Rattle.take_core.specs.States.{CoreState, no_slices}
use Rattle.take_core.specs.declared.commit_phase.CommitPhase.{CommitPhase}
use Rattle.take_core.specs.declared.commit_phase.CommitPhase.TheVariants.{Idle, MarkOut, Marked, NoteOut, Noted, GateOut, Opened}
use Rattle.take_core.specs.declared.commit_phase.CorePhase.{CorePhase}
use Rattle.take_core.specs.declared.snapshot.Phase.TheVariants as phase
use Rattle.take_disk.specs.Calls.{IfTold, Steps, Stays}
use Rattle.take_disk.specs.Held.{Disk, InArea, IsBefore, Settled}
use Rattle.take_disk.specs.Tickets.{IsMade, IsNamed, moment_of}
use Rattle.take_disk.specs.declared.area.Area.{Area}
use Rattle.take_disk.specs.declared.area.Area.TheVariants.{Essence, Commits}
use Rattle.take_disk.specs.declared.disk.TakeDisk.{Ghosts}
use Rattle.take_disk.specs.declared.ticket.Ticket.{Ticket}
use Rattle.take_layout.specs.declared.layout.TakeLayout.{Ghosts as LayoutGhosts}
use Rattle.commit_phases.specs.Phases.{Due, IsOut, commits_reach, settled, waits_for}
use Rattle.commit_phases.specs.Table.{Table, AllSafe}
use Rattle.commit_phases.specs.laws.Kept.{settled_due, settled_reach}
use Rattle.commit_phases.specs.laws.Runs.{Pasts, all_past}
use Rattle.commit_phases.specs.laws.Settling.{settle_done, settled_safe, ticket_made}
use Rattle.commit_phases.specs.laws.Told.{lift, same_told, two}
use Rattle.take_state.specs.Events.{core_of}
use Rattle.take_state.specs.Seen.{TakeSeen, acked, phase_of, commits_in}
use Rattle.take_state.specs.Stands.{IsOwn, Grows}
use Rattle.take_state.specs.inner.Keeping.{TakeParts, KeepsTake, seen_of}
use Rattle.take_state.proofs.TakeLemmas.{goes_on}

-- the events of a take see a phase that waits for a barrier as the one behind it
pub same_phase : (commit : CommitPhase) → core_phase (settled commit) ≡ core_phase commit
same_phase Idle = refl
same_phase (MarkOut mark) = refl
same_phase (Marked mark) = refl
same_phase (NoteOut mark) = refl
same_phase (Noted mark) = refl
same_phase (GateOut mark) = refl
same_phase (Opened mark) = refl

module _ {L D : Type 0} (layout : LayoutGhosts L) (device : Ghosts D) (named : Fields → Option (List (List ℕ))) where
  -- a ticket is made
  pub ticketed : (parts : TakeParts D) (d : D) (ticket : Ticket) → Pasts device → (k : KeepsTake layout device named parts)
      → phase_of (seen_of parts) ≡ phase.Growing → IsOut parts.commit → ticket.area ≡ waits_for parts.commit
      → (IsNamed ticket → IsMade (device.moment parts.disk) (device.moment d) ticket × device.made d ticket)
      → device.told d ≡ device.told parts.disk → ((area : Area) → device.length_of d area ≡ device.length_of parts.disk area)
      → KeepsTake layout device named (record parts { disk = d; out = Some ticket })
  ticketed parts d ticket past k grows is_out area made told lengths =
      goes_on layout device named parts d parts.history parts.records parts.commit parts.tail (Some ticket) k k.stands.sound
      refl k.rooms.records (sym k.rooms.stop) refl refl grows (record {
        essence_len = lengths Essence ∙ growth.essence_len;
        commits_len = omega (arith, lengths Commits, growth.commits_len);
        due = growth.due;
        own = λ other is. subst (λ (t : Ticket). IsOwn device new t) (same_Some ticket other is)
            (record { is_out = is_out; area = area; made = λ n. (made n).1 });
        table = same_told (device.told parts.disk) (device.told d) _ told
            (two (device.told parts.disk) _ _ _ growth.table (all_past device past parts.disk (waits_for parts.commit)) (λ held t before.
            ticket_made layout parts.file.config k.units (acked old) (commits_in parts.history.entries) parts.tail parts.commit parts.out ticket
            (device.moment parts.disk) held is_out (λ n. (made n).0.later) before t));
      })
    where
      old : TakeSeen D
      old = seen_of parts

      new : TakeSeen D
      new = record old { disk = d; out = Some ticket }

      growth : Grows layout device old k.units
      growth = k.grows grows

  -- a barrier has run
  pub settles : (parts : TakeParts D) (d : D) (ticket : Ticket) (commit : CommitPhase) → (k : KeepsTake layout device named parts)
      → phase_of (seen_of parts) ≡ phase.Growing → parts.out ≡ Some ticket → IsNamed ticket → commit ≡ settled parts.commit
      → Steps (device.told parts.disk) (device.told d) (InArea ticket.area (Settled (moment_of ticket)))
      → ((area : Area) → device.length_of d area ≡ device.length_of parts.disk area)
      → KeepsTake layout device named (record parts { disk = d; commit = commit; out = None })
  settles parts d ticket commit k grows out is_named is step lengths = subst
      (λ (p : CommitPhase). KeepsTake layout device named (record parts { disk = d; commit = p; out = None })) (sym is)
      (goes_on layout device named parts d parts.history parts.records (settled parts.commit) parts.tail None k
      (subst (λ (p : CorePhase). IsSound (with_phase p)) (sym (same_phase parts.commit)) k.stands.sound)
      refl k.rooms.records (sym k.rooms.stop) refl refl grows (record {
        essence_len = lengths Essence ∙ growth.essence_len;
        commits_len = omega (arith, lengths Commits, growth.commits_len, settled_reach (commits_in parts.history.entries) parts.commit);
        due = settled_due layout parts.file.config k.units (acked old) parts.tail parts.commit growth.due;
        own = λ other e. absurd (none-some other e);
        table = lift (device.told parts.disk) (device.told d) _ _ _ (subst (λ (o : Option Ticket). IfTold (device.told parts.disk)
            (Table layout parts.file.config k.units (acked old) (commits_in parts.history.entries) parts.tail parts.commit o)) out growth.table) step
            (λ a b t settles. settle_done layout parts.file.config k.units (acked old) (commits_in parts.history.entries) parts.tail parts.commit ticket a b
            (growth.own ticket out).area is_named t settles);
      }))
    where
      old : TakeSeen D
      old = seen_of parts

      growth : Grows layout device old k.units
      growth = k.grows grows

      with_phase : CorePhase → CoreState
      with_phase p = record (core_of old no_slices) { commit = p }

  -- what was safe stays safe
  pub settles_safe : (cfg : Fields) (units : List (List ℕ)) (durable : ℕ) (ticket : Ticket) (old new : D) → IfTold (device.told old) (AllSafe layout cfg units durable)
      → Steps (device.told old) (device.told new) (InArea ticket.area (Settled (moment_of ticket))) → IfTold (device.told new) (AllSafe layout cfg units durable)
  settles_safe cfg units durable ticket old new safe step = lift (device.told old) (device.told new) _ _ _ safe step
      (λ a b all settles. settled_safe layout cfg units durable ticket.area (moment_of ticket) a b settles all)

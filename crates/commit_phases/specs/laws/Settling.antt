-- What a barrier, or a sync, does to the table of phases, and what a ticket will keep (own).
use Rattle.std.proofs.Common.{◌≡◌, ℕ, ◌<◌, Bool, List, ◌++◌, length, get_or, refl, sym, ap, subst, ◌∙◌, Option, Some, None}
use Rattle.std.proofs.lemmas.Option.{none-some, same_Some}
use Rattle.rec_bytes.specs.Configuration.{Fields}
use Rattle.take_core.specs.declared.commit_phase.CommitPhase.{CommitPhase}
use Rattle.take_core.specs.declared.commit_phase.CommitPhase.TheVariants.{Idle, MarkOut, Marked, NoteOut, Noted, GateOut, Opened}
use Rattle.take_disk.specs.declared.area.Area.{Area}
use Rattle.take_disk.specs.declared.area.Area.TheVariants.{Essence, Commits}
use Rattle.take_disk.specs.declared.ticket.Ticket.{Ticket}
use Rattle.take_disk.specs.Held.{Moment, IsBefore, joined, Areas, Held, Disk, KeepsPlace, IsImage, Leaves, InArea, Settled, IsPast, in_area}
use Rattle.take_disk.specs.Tickets.{IsNamed, moment_of}
use Rattle.take_layout.specs.declared.layout.TakeLayout.{Ghosts}
use Rattle.commit_sidecar.specs.Says.{head_of, opened}
use Rattle.commit_phases.specs.Phases.{IsKept, WillKeep, IsOut, settled, waits_for, essence_then, commits_then}
use Rattle.commit_phases.specs.Table.{Table, AllSafe, length_to}
use Rattle.commit_phases.specs.laws.Kept.{moved, kept_on, settled_due, settled_bytes}
use Rattle.commit_phases.specs.laws.Moments.{same_moment, later_moment, equal_moment, joined_first, joined_second}

-- what a settled area leaves of both
record Parts (area : Area) (moment : Moment) (old new : Disk) : Type 0 where
  pub essence_reads : new.essence.reads ≡ old.essence.reads
  pub commits_reads : new.commits.reads ≡ old.commits.reads
  pub essence_touched : (place : ℕ) → new.essence.touched place ≡ old.essence.touched place
  pub commits_touched : (place : ℕ) → new.commits.touched place ≡ old.commits.touched place
  pub essence_altered : new.essence.altered ≡ old.essence.altered
  pub commits_altered : new.commits.altered ≡ old.commits.altered
  pub essence_synced : IsBefore (essence_then area moment old.essence.synced) new.essence.synced
  pub commits_synced : IsBefore (commits_then area moment old.commits.synced) new.commits.synced

settle_parts : (area : Area) (moment : Moment) (old new : Disk) → InArea area (Settled moment) old new → Parts area moment old new
settle_parts Essence moment old new step =
    let same : new.commits ≡ old.commits = step.same in
    record {
      essence_reads = step.changed.reads;
      commits_reads = ap (λ (h : Held). h.reads) same;
      essence_touched = step.changed.touched;
      commits_touched = λ place. ap (λ (h : Held). h.touched place) same;
      essence_altered = step.changed.altered;
      commits_altered = ap (λ (h : Held). h.altered) same;
      essence_synced = equal_moment _ _ (sym step.changed.synced);
      commits_synced = equal_moment _ _ (sym (ap (λ (h : Held). h.synced) same));
    }
settle_parts Commits moment old new step =
    let same : new.essence ≡ old.essence = step.same in
    record {
      essence_reads = ap (λ (h : Held). h.reads) same;
      commits_reads = step.changed.reads;
      essence_touched = λ place. ap (λ (h : Held). h.touched place) same;
      commits_touched = step.changed.touched;
      essence_altered = ap (λ (h : Held). h.altered) same;
      commits_altered = step.changed.altered;
      essence_synced = equal_moment _ _ (sym (ap (λ (h : Held). h.synced) same));
      commits_synced = equal_moment _ _ (sym step.changed.synced);
    }

-- what was done up to now is kept up to any moment from now on
now_kept : (touched now moment synced : Moment) → IsBefore touched now → IsBefore now moment → IsBefore touched (joined synced moment)
now_kept touched now moment synced past later =
    later_moment touched moment (joined synced moment) (later_moment touched now moment past later) (joined_second synced moment)

-- so it is all that the next phase asks for
pub keeps_now : (acked_len records : ℕ) (phase : CommitPhase) (now moment : Moment) (held : Disk) → IsOut phase → IsPast now (in_area (waits_for phase) held)
    → IsKept acked_len records phase held held.essence.synced held.commits.synced → IsBefore now moment → WillKeep acked_len records phase held moment
keeps_now acked_len records Idle now moment held is_out past kept later = absurd is_out
keeps_now acked_len records (MarkOut mark) now moment held is_out past kept later = record {
  essence = λ place l. now_kept (held.essence.touched place) now moment held.essence.synced (past.touched place) later;
  commits = kept.commits;
  whole_essence = λ w. now_kept held.essence.altered now moment held.essence.synced past.altered later;
  whole_commits = λ w. absurd w;
}
keeps_now acked_len records (Marked mark) now moment held is_out past kept later = absurd is_out
keeps_now acked_len records (NoteOut mark) now moment held is_out past kept later = record {
  essence = kept.essence;
  commits = λ place l b. now_kept (held.commits.touched place) now moment held.commits.synced (past.touched place) later;
  whole_essence = kept.whole_essence;
  whole_commits = λ w. absurd w;
}
keeps_now acked_len records (Noted mark) now moment held is_out past kept later = absurd is_out
keeps_now acked_len records (GateOut mark) now moment held is_out past kept later = record {
  essence = kept.essence;
  commits = λ place l b. now_kept (held.commits.touched place) now moment held.commits.synced (past.touched place) later;
  whole_essence = kept.whole_essence;
  whole_commits = λ w. now_kept held.commits.altered now moment held.commits.synced past.altered later;
}
keeps_now acked_len records (Opened mark) now moment held is_out past kept later = absurd is_out

module _ {L : Type 0} (layout : Ghosts L) (cfg : Fields) (units : List (List ℕ)) (acked records : ℕ) (tail : Bool) where
  -- What a phase asked for is kept up to a moment: the next phase stands.
  pub settle_with : (phase : CommitPhase) (out : Option Ticket) (moment : Moment) (old new : Disk) → Table layout cfg units acked records tail phase out old
      → WillKeep (length_to layout cfg units acked) records phase old moment → InArea (waits_for phase) (Settled moment) old new
      → Table layout cfg units acked records tail (settled phase) None new
  settle_with phase out moment old new t will step =
      let parts = settle_parts (waits_for phase) moment old new step in
      record {
        is_config = t.is_config;
        are_units = t.are_units;
        few = t.few;
        marks = t.marks;
        follow = t.follow;
        number = t.number;
        counts = t.counts;
        gate = t.gate;
        shut = t.shut;
        essence_rest = t.essence_rest;
        essence = parts.essence_reads ∙ t.essence;
        ends = t.ends;
        commits_rest = t.commits_rest;
        commits = parts.commits_reads ∙ t.commits
            ∙ ap (λ (xs : List ℕ). (head_of cfg ++ (opened t.marks ++ xs)) ++ t.commits_rest) (sym (settled_bytes t.gate phase));
        due = settled_due layout cfg units acked tail phase t.due;
        kept = kept_on _ records (settled phase) old new _ _ new.essence.synced new.commits.synced will
            (λ place l. parts.essence_touched place) (λ place l b. parts.commits_touched place)
            (λ w. parts.essence_altered) (λ w. parts.commits_altered) parts.essence_synced parts.commits_synced;
        will_keep = λ ticket e. absurd (none-some ticket e);
      }

  -- A barrier that has run settles what its ticket was made for. What was written since stays unsettled.
  pub settle_done : (phase : CommitPhase) (ticket : Ticket) (old new : Disk) → ticket.area ≡ waits_for phase → IsNamed ticket
      → Table layout cfg units acked records tail phase (Some ticket) old → InArea ticket.area (Settled (moment_of ticket)) old new
      → Table layout cfg units acked records tail (settled phase) None new
  settle_done phase ticket old new area named t step =
      settle_with phase (Some ticket) (moment_of ticket) old new t (t.will_keep ticket refl named)
      (subst (λ (a : Area). InArea a (Settled (moment_of ticket)) old new) area step)

  -- A sync settles all that was done so far.
  pub sync_done : (phase : CommitPhase) (out : Option Ticket) (now : Moment) (old new : Disk) → IsOut phase → IsPast now (in_area (waits_for phase) old)
      → Table layout cfg units acked records tail phase out old → InArea (waits_for phase) (Settled now) old new
      → Table layout cfg units acked records tail (settled phase) None new
  sync_done phase out now old new is_out past t step =
      settle_with phase out now old new t (keeps_now _ records phase now now old is_out past t.kept (same_moment now)) step

  -- A ticket that is made now will keep all that the next phase asks for.
  pub ticket_made : (phase : CommitPhase) (out : Option Ticket) (ticket : Ticket) (now : Moment) (held : Disk) → IsOut phase
      → (IsNamed ticket → IsBefore now (moment_of ticket)) → IsPast now (in_area (waits_for phase) held)
      → Table layout cfg units acked records tail phase out held → Table layout cfg units acked records tail phase (Some ticket) held
  ticket_made phase out ticket now held is_out later past t = record {
    is_config = t.is_config;
    are_units = t.are_units;
    few = t.few;
    marks = t.marks;
    follow = t.follow;
    number = t.number;
    counts = t.counts;
    gate = t.gate;
    shut = t.shut;
    essence_rest = t.essence_rest;
    essence = t.essence;
    ends = t.ends;
    commits_rest = t.commits_rest;
    commits = t.commits;
    due = t.due;
    kept = t.kept;
    will_keep = λ other is named.
        let same : other ≡ ticket = sym (same_Some ticket other is) in
        subst (λ (x : Ticket). WillKeep (length_to layout cfg units acked) records phase held (moment_of x)) (sym same)
        (keeps_now _ records phase now (moment_of ticket) held is_out past t.kept (later (subst IsNamed same named)));
  }

-- after a sync every place of the area is kept
pub sync_keeps : (now : Moment) (old new : Held) → IsPast now old → Settled now old new → (place : ℕ) → KeepsPlace new place
sync_keeps now old new past step place =
    moved (new.touched place) (old.touched place) now new.synced (step.touched place) (past.touched place)
    (later_moment now (joined old.synced now) new.synced (joined_second old.synced now) (equal_moment _ _ (sym step.synced)))

-- and nothing is unsettled
pub sync_keeps_all : (now : Moment) (old new : Held) → IsPast now old → Settled now old new → IsBefore new.altered new.synced
sync_keeps_all now old new past step =
    moved new.altered old.altered now new.synced step.altered past.altered
    (later_moment now (joined old.synced now) new.synced (joined_second old.synced now) (equal_moment _ _ (sym step.synced)))

-- a settling takes images away, and adds none
image_back : (moment : Moment) (old new : Held) (image : List ℕ) → Settled moment old new → IsImage new image → IsImage old image
image_back moment old new image step is =
    let later : IsBefore old.synced new.synced =
    later_moment old.synced (joined old.synced moment) new.synced (joined_first old.synced moment) (equal_moment _ _ (sym step.synced)) in
    record {
      reaches = λ place l kept. is.reaches place (subst (λ (xs : List ℕ). place < length xs) (sym step.reads) l)
          (moved _ _ _ _ (step.touched place) kept later);
      agrees = λ place l kept. is.agrees place (subst (λ (xs : List ℕ). place < length xs) (sym step.reads) l)
          (moved _ _ _ _ (step.touched place) kept later)
          ∙ ap (λ (xs : List ℕ). get_or xs place 0) step.reads;
      whole = λ kept. is.whole (moved _ _ _ _ step.altered kept later) ∙ step.reads;
    }

pub settled_leaves : (area : Area) (moment : Moment) (old new : Disk) (image : Areas) → InArea area (Settled moment) old new → Leaves new image
    → Leaves old image
settled_leaves Essence moment old new image step leaves = record {
  essence = image_back moment old.essence new.essence image.essence step.changed leaves.essence;
  commits = let same : new.commits ≡ old.commits = step.same in subst (λ (h : Held). IsImage h image.commits) same leaves.commits;
}
settled_leaves Commits moment old new image step leaves = record {
  essence = let same : new.essence ≡ old.essence = step.same in subst (λ (h : Held). IsImage h image.essence) same leaves.essence;
  commits = image_back moment old.commits new.commits image.commits step.changed leaves.commits;
}

-- so what was safe stays safe
pub settled_safe : {L : Type 0} (layout : Ghosts L) (cfg : Fields) (units : List (List ℕ)) (acked : ℕ) (area : Area) (moment : Moment) (old new : Disk)
    → InArea area (Settled moment) old new → AllSafe layout cfg units acked old → AllSafe layout cfg units acked new
settled_safe layout cfg units acked area moment old new step safe image leaves = safe image (settled_leaves area moment old new image step leaves)

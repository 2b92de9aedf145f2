-- What a phase asks to be kept stays so, and a settled phase differs from the one before in nothing else (own).
use Rattle.std.proofs.Common.{◌≡◌, ℕ, ◌<◌, ◌≤◌, Bool, false, List, length, refl, sym, subst, ◌∙◌, true≢false}
use Rattle.rec_bytes.specs.Configuration.{Fields}
use Rattle.take_core.specs.declared.commit_phase.CommitPhase.{CommitPhase}
use Rattle.take_core.specs.declared.commit_phase.CommitPhase.TheVariants.{Idle, MarkOut, Marked, NoteOut, Noted, GateOut, Opened}
use Rattle.take_disk.specs.declared.area.Area.{Area}
use Rattle.take_disk.specs.declared.area.Area.TheVariants.{Essence, Commits}
use Rattle.take_disk.specs.Held.{Moment, IsBefore, Disk, joined}
use Rattle.take_layout.specs.declared.layout.TakeLayout.{Ghosts}
use Rattle.commit_sidecar.specs.Recovers.{file_of}
use Rattle.commit_phases.specs.Layouts.{LaysOut}
use Rattle.commit_phases.specs.Phases.{Due, EssenceIsWhole, CommitsAreWhole, IsBeside, IsKept, settled}
use Rattle.commit_phases.specs.Phases.{behind_records, essence_to, commits_to, commits_reach, essence_then, commits_then}
use Rattle.commit_phases.specs.Table.{length_to}
use Rattle.commit_phases.specs.laws.Moments.{later_moment, joined_first, joined_second, joined_least}
use Rattle.commit_phases.specs.laws.Records.{shorter_whole, due_shorter}

-- the same moment, before a later one
pub moved : (a b c d : Moment) → a ≡ b → IsBefore b c → IsBefore c d → IsBefore a d
moved a b c d same p q = subst (λ (m : Moment). IsBefore m d) (sym same) (later_moment b c d p q)

-- what is kept stays kept, where it isn't touched
pub kept_on : (acked_len records : ℕ) (phase : CommitPhase) (old new : Disk) (essence commits essence_new commits_new : Moment)
    → IsKept acked_len records phase old essence commits
    → ((place : ℕ) → place < essence_to acked_len phase → new.essence.touched place ≡ old.essence.touched place)
    → ((place : ℕ) → place < commits_to records phase → IsBeside records phase place → new.commits.touched place ≡ old.commits.touched place)
    → (EssenceIsWhole phase → new.essence.altered ≡ old.essence.altered) → (CommitsAreWhole phase → new.commits.altered ≡ old.commits.altered)
    → IsBefore essence essence_new → IsBefore commits commits_new → IsKept acked_len records phase new essence_new commits_new
kept_on acked_len records phase old new essence commits essence_new commits_new kept same same_commits whole whole_commits later later_commits = record {
  essence = λ place l. moved _ _ _ _ (same place l) (kept.essence place l) later;
  commits = λ place l b. moved _ _ _ _ (same_commits place l b) (kept.commits place l b) later_commits;
  whole_essence = λ w. moved _ _ _ _ (whole w) (kept.whole_essence w) later;
  whole_commits = λ w. moved _ _ _ _ (whole_commits w) (kept.whole_commits w) later_commits;
}

-- the moments of a ticket, as more is kept
joined_later : (moment old new : Moment) → IsBefore old new → IsBefore (joined old moment) (joined new moment)
joined_later moment old new later =
    joined_least old moment (joined new moment) (later_moment old new (joined new moment) later (joined_first new moment)) (joined_second new moment)

pub essence_later : (area : Area) (moment old new : Moment) → IsBefore old new → IsBefore (essence_then area moment old) (essence_then area moment new)
essence_later Essence moment old new later = joined_later moment old new later
essence_later Commits moment old new later = later

pub commits_later : (area : Area) (moment old new : Moment) → IsBefore old new → IsBefore (commits_then area moment old) (commits_then area moment new)
commits_later Essence moment old new later = later
commits_later Commits moment old new later = joined_later moment old new later

-- a settled phase has the mark of the one before, and the same bytes
pub settled_due : {L : Type 0} (layout : Ghosts L) (cfg : Fields) (units : List (List ℕ)) (acked : ℕ) (tail : Bool) (phase : CommitPhase)
    → Due layout cfg units acked tail phase → Due layout cfg units acked tail (settled phase)
settled_due layout cfg units acked tail Idle due = due
settled_due layout cfg units acked tail (MarkOut mark) due = due
settled_due layout cfg units acked tail (Marked mark) due = due
settled_due layout cfg units acked tail (NoteOut mark) due = due
settled_due layout cfg units acked tail (Noted mark) due = due
settled_due layout cfg units acked tail (GateOut mark) due = due
settled_due layout cfg units acked tail (Opened mark) due = due

pub settled_reach : (records : ℕ) (phase : CommitPhase) → commits_reach records (settled phase) ≡ commits_reach records phase
settled_reach records Idle = refl
settled_reach records (MarkOut mark) = refl
settled_reach records (Marked mark) = refl
settled_reach records (NoteOut mark) = refl
settled_reach records (Noted mark) = refl
settled_reach records (GateOut mark) = refl
settled_reach records (Opened mark) = refl

pub settled_bytes : (gate : ℕ) (phase : CommitPhase) → behind_records gate (settled phase) ≡ behind_records gate phase
settled_bytes gate Idle = refl
settled_bytes gate (MarkOut mark) = refl
settled_bytes gate (Marked mark) = refl
settled_bytes gate (NoteOut mark) = refl
settled_bytes gate (Noted mark) = refl
settled_bytes gate (GateOut mark) = refl
settled_bytes gate (Opened mark) = refl

-- before the tail is written no mark is closed
pub not_whole : {L : Type 0} (layout : Ghosts L) (cfg : Fields) (units : List (List ℕ)) (acked : ℕ) (phase : CommitPhase)
    → Due layout cfg units acked false phase → EssenceIsWhole phase → ⊥
not_whole layout cfg units acked Idle due whole = whole
not_whole layout cfg units acked (MarkOut mark) due whole = whole
not_whole layout cfg units acked (Marked mark) due whole = true≢false (sym whole ∙ due.ended)
not_whole layout cfg units acked (NoteOut mark) due whole = true≢false (sym whole ∙ due.ended)
not_whole layout cfg units acked (Noted mark) due whole = true≢false (sym whole ∙ due.ended)
not_whole layout cfg units acked (GateOut mark) due whole = true≢false (sym whole ∙ due.ended)
not_whole layout cfg units acked (Opened mark) due whole = true≢false (sym whole ∙ due.ended)

-- a phase keeps no more of the essence than the file of the units
pub essence_short : {L : Type 0} (layout : Ghosts L) → LaysOut layout → (cfg : Fields) (units : List (List ℕ)) (acked : ℕ) (tail : Bool) (phase : CommitPhase)
    → Due layout cfg units acked tail phase → essence_to (length_to layout cfg units acked) phase ≤ length (file_of layout tail cfg units)
essence_short layout laws cfg units acked tail Idle due = shorter_whole layout laws cfg tail units acked
essence_short layout laws cfg units acked tail (MarkOut mark) due = shorter_whole layout laws cfg tail units acked
essence_short layout laws cfg units acked tail (Marked mark) due = due_shorter layout laws cfg units acked tail mark due
essence_short layout laws cfg units acked tail (NoteOut mark) due = due_shorter layout laws cfg units acked tail mark due
essence_short layout laws cfg units acked tail (Noted mark) due = due_shorter layout laws cfg units acked tail mark due
essence_short layout laws cfg units acked tail (GateOut mark) due = due_shorter layout laws cfg units acked tail mark due
essence_short layout laws cfg units acked tail (Opened mark) due = due_shorter layout laws cfg units acked tail mark due

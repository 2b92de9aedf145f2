-- What a recovery makes of a take that was stopped.
use Rattle.std.proofs.Common.{◌≡◌, ⊎_elim, ℕ, Bool, List, [], ◌∷◌, ◌++◌, length, take, Option, sym, ap, subst, ◌∙◌, append-nil}
use Rattle.rec_bytes.specs.Configuration.{Fields}
use Rattle.take_core.specs.declared.mark.Mark.{Mark}
use Rattle.take_disk.specs.Held.{Areas, Disk, Leaves}
use Rattle.take_disk.specs.declared.disk.TakeDisk.{Ghosts}
use Rattle.take_layout.specs.declared.layout.TakeLayout.{Ghosts as LayoutGhosts}
use Rattle.commit_sidecar.specs.Says.{Says}
use Rattle.commit_sidecar.specs.Recovers.{IsSafe, Recovers, file_of, mark_of}
use Rattle.commit_phases.specs.Table.{AllSafe}
use Rattle.commit_phases.specs.laws.Moments.{same_moment}
use Rattle.commit_phases.specs.laws.Records.{counts_more}
use Rattle.commit_phases.specs.laws.Runs.{Crashes}
use Rattle.commit_phases.specs.laws.Told.{told_so}
use Rattle.recovery.specs.Crashes.{StaysSafe}
use Rattle.recovery.specs.Recoveries.{KeepsAcked, Leads, WasClosed, as_read, closed_mark}
use Rattle.recovery.specs.declared.answer.Recovered.{Recovered}
use Rattle.recovery.specs.declared.answer.Recovered.TheVariants.{Closed, Already}
use Rattle.take_state.specs.Seen.{TakeSeen, acked}
use Rattle.take_state.specs.Stands.{IsTakeOf}
use Rattle.stopped_takes.specs.Stopped.{Holds, IsLeftOf, IsRecoveredTake, IsSafeFor}

module _ {L : Type 0} (layout : LayoutGhosts L) where
  -- the mark of a take that was closed before
  mark_before : (count len : ℕ) (was : Areas) (now : Disk) (w : WasClosed layout count len was now)
      → mark_of layout w.cfg w.recovers.marks ≡ closed_mark count len
  mark_before count len was now w =
      let r = w.recovers in
      let frames : (mark_of layout w.cfg r.marks).count ≡ count = r.count ∙ sym w.frames_are in
      let long : (mark_of layout w.cfg r.marks).length ≡ len =
      r.length_is ∙ ap (λ (b : Bool). length (file_of layout b w.cfg w.units)) w.was_closed ∙ sym w.len_is in
      let closed = w.was_closed in
      λ i. record { count = frames i; length = long i; closed = closed i }

  -- and its essence
  essence_before : (count len : ℕ) (was : Areas) (now : Disk) (w : WasClosed layout count len was now)
      → now.essence.reads ≡ layout.closed w.cfg w.units
  essence_before count len was now w =
      let r = w.recovers in
      ap (λ (areas : Areas). areas.essence) w.same
      ∙ r.begins
      ∙ ap (λ (b : Bool). file_of layout b w.cfg w.units ++ r.rest) w.was_closed
      ∙ ap (λ (xs : List ℕ). layout.closed w.cfg w.units ++ xs) (r.ends w.was_closed)
      ∙ append-nil (layout.closed w.cfg w.units)

  module _ {D : Type 0} (device : Ghosts D) where
    -- what a crash leaves of a take is safe
    pub left_safe : (named : Option (List (List ℕ))) (seen : TakeSeen D) (image : Areas) → IsLeftOf layout device named seen image
        → IsSafeFor layout device named seen image
    left_safe named seen image left = record {
      units = left.taken.units;
      stands = left.taken.stands;
      safe = told_so (device.told seen.disk) (AllSafe layout seen.config left.taken.units (acked seen)) left.held left.taken.stands.safe left.told image
          left.left;
    }

    -- a disk that holds safe areas, all of which is kept, leaves just these
    all_safe : (cfg : Fields) (units : List (List ℕ)) (durable : ℕ) (image : Areas) (disk : D) (holds : Holds device image disk)
        → IsSafe layout cfg units durable image → AllSafe layout cfg units durable holds.held
    all_safe cfg units durable image disk holds safe other left =
        let essence : other.essence ≡ holds.held.essence.reads = left.essence.whole holds.kept.essence in
        let commits : other.commits ≡ holds.held.commits.reads = left.commits.whole holds.kept.commits in
        let same : other ≡ as_read holds.held = λ i. record { essence = essence i; commits = commits i } in
        subst (λ (areas : Areas). IsSafe layout cfg units durable areas) (sym (same ∙ holds.reads)) safe

    -- and so does a recovery of it, since it began
    pub stays_safe : Crashes device → (cfg : Fields) (units : List (List ℕ)) (durable : ℕ) (image other : Areas) (first disk : D)
        → Holds device image first → IsSafe layout cfg units durable image → StaysSafe layout device first disk
        → device.images_since disk (device.moment first) other → IsSafe layout cfg units durable other
    stays_safe crash cfg units durable image other first disk holds safe stays left =
        let all : AllSafe layout cfg units durable holds.held = all_safe cfg units durable image first holds safe in
        ⊎_elim
        (λ (past : device.images_since first (device.moment first) other). all other (crash first holds.held other holds.told past))
        (λ (is : IsSafe layout cfg units durable other). is)
        (told_so (device.told first) _ holds.held (told_so (device.told first) _ holds.held stays holds.told cfg units durable all) holds.told
        (device.moment first) other (same_moment (device.moment first)) left)

    module _ (one : (areas : Areas) (cfg other : Fields) (units others : List (List ℕ)) → Recovers layout cfg units areas
        → Recovers layout other others areas → (cfg ≡ other) × (units ≡ others))
        (keeps : (cfg : Fields) (units : List (List ℕ)) (durable : ℕ) (was : Areas) (done : Recovered) (now : Disk)
        → IsSafe layout cfg units durable was → Leads layout done was now → KeepsAcked layout cfg units durable done now) where
      -- an answer for safe areas of a take is one of this take
      pub recovered_take : (named : Option (List (List ℕ))) (seen : TakeSeen D) (units : List (List ℕ)) → IsTakeOf layout device named seen units
          → (was : Areas) (done : Recovered) (now : Disk) → IsSafe layout seen.config units (acked seen) was → Leads layout done was now
          → IsRecoveredTake layout device named seen done now
      recovered_take named seen units stands was (Closed count len) now safe leads =
          let same = one was leads.cfg seen.config leads.units (take safe.count units) leads.recovers safe.recovers in
          let marks : List Mark = leads.recovers.marks ++ closed_mark count len ∷ [] in
          record {
            units = units;
            stands = stands;
            keeps = keeps seen.config units (acked seen) was (Closed count len) now safe leads;
            length_is = leads.len_is ∙ ap (length {A = ℕ}) (sym leads.essence);
            marks = marks;
            says = subst (λ (f : Fields). Says now.commits.reads f marks) same.0 leads.commits;
            mark = counts_more layout seen.config leads.recovers.marks (closed_mark count len);
            kept = leads.kept;
          }
      recovered_take named seen units stands was (Already count len) now safe leads =
          let same = one was leads.cfg seen.config leads.units (take safe.count units) leads.recovers safe.recovers in
          let marks : List Mark = leads.recovers.marks in
          let commits : now.commits.reads ≡ was.commits = ap (λ (areas : Areas). areas.commits) leads.same in
          record {
            units = units;
            stands = stands;
            keeps = keeps seen.config units (acked seen) was (Already count len) now safe leads;
            length_is = leads.len_is ∙ ap (length {A = ℕ}) (sym (essence_before count len was now leads));
            marks = marks;
            says = subst (λ (f : Fields). Says now.commits.reads f marks) same.0
                (subst (λ (xs : List ℕ). Says xs leads.cfg marks) (sym commits) leads.recovers.says);
            mark = subst (λ (f : Fields). mark_of layout f marks ≡ closed_mark count len) same.0 (mark_before count len was now leads);
            kept = leads.kept;
          }

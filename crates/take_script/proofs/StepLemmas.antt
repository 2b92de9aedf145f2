-- What stands while nothing happens to a take, and what an entry changes.
use Rattle.std.proofs.Common.{◌≡◌, ℕ, ◌+◌, List, [], ◌∷◌, ◌++◌, cond, arith, take, Option, Some, None, Bool, true, false, ap, subst, refl, ◌∙◌}
use Rattle.std.proofs.lemmas.List.Sums.{sum_by-append}
use Rattle.take_core.specs.History.{is_published, published_in}
use Rattle.take_core.specs.declared.entry.Entry.{Entry}
use Rattle.take_core.specs.declared.entry.Entry.TheVariants as entry
use Rattle.take_core.specs.declared.snapshot.Phase.TheVariants.{Growing}
use Rattle.take_disk.specs.Held.{Areas, Leaves}
use Rattle.take_disk.specs.declared.disk.TakeDisk.{Ghosts}
use Rattle.take_layout.specs.declared.layout.TakeLayout.{Ghosts as LayoutGhosts}
use Rattle.commit_sidecar.specs.Recovers.{IsSafe}
use Rattle.commit_phases.specs.laws.Runs.{Crashes, all_left, goes_none}
use Rattle.commit_phases.specs.laws.Told.{changes}
use Rattle.take_state.specs.Crashes.{CrashesSafely}
use Rattle.take_state.specs.Seen.{TakeSeen, published, acked, phase_of}
use Rattle.take_state.specs.Stands.{IsTaken}
use Rattle.take_script.specs.Steps.{IsCommitted, IsOver, MayEnd}

-- no call at all
pub nothing_crashes : {L D : Type 0} (layout : LayoutGhosts L) (device : Ghosts D) → Crashes device → (named : Option (List (List ℕ))) (s : TakeSeen D)
    → IsTaken layout device named s → CrashesSafely layout device named s s
nothing_crashes layout device crash None s taken = record { during = tt; since = tt }
nothing_crashes layout device crash (Some all) s taken =
    let P : Areas → Type 0 = IsSafe layout s.config (take (published s) all) (acked s) in
    let is : taken.units ≡ take (published s) all = taken.stands.first ∙ ap (λ (k : ℕ). take k all) taken.stands.counted in
    record {
      during = all_left device crash P s.disk (changes (device.told s.disk) _ _ taken.stands.safe (λ held safe.
          subst (λ (units : List (List ℕ)). (image : Areas) → Leaves held image → IsSafe layout s.config units (acked s) image) is safe));
      since = goes_none device P s.disk;
    }

-- a take with nothing to be committed, whose tail may not be written, has its tail
pub over : {D : Type 0} (s : TakeSeen D) → ¬ MayEnd s → IsCommitted s → IsOver s
over s not_now committed = (committed, λ growing. tailed s.tail refl growing)
  where
    tailed : (tail : Bool) → s.tail ≡ tail → phase_of s ≡ Growing → s.tail ≡ true
    tailed true e growing = e
    tailed false e growing = absurd (not_now (record { growing = growing; idle = (committed growing).0; level = (committed growing).1; no_tail = e }))

-- an entry of durable frames publishes none
pub published_behind : (history : List Entry) (count : ℕ) → published_in (history ++ entry.Acked count ∷ []) ≡ published_in history
published_behind history count =
    let more : published_in (history ++ entry.Acked count ∷ []) ≡ published_in history + 0 =
    sum_by-append (λ e. cond {A = ℕ} (is_published e) 1 0) history (entry.Acked count ∷ []) in
    omega arith

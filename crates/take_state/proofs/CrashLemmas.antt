-- What a crash may leave over a call of a take.
use Rattle.std.proofs.Common.{◌≡◌, ◌⊎◌, inl, inr, ⊎_elim, ℕ, ◌≤◌, List, [], ◌++◌, length, take, Option, Some, None, refl, sym, ap, subst, ◌∙◌, arith, take-take}
use Rattle.std.proofs.lemmas.List.{length-take}
use Rattle.rec_bytes.specs.Configuration.{Fields}
use Rattle.take_disk.specs.Calls.{IfTold, Steps, WritesIn}
use Rattle.take_disk.specs.Held.{Moment, IsBefore, Areas, Disk, Leaves}
use Rattle.take_disk.specs.declared.area.Area.{Area}
use Rattle.take_disk.specs.declared.disk.TakeDisk.{Ghosts}
use Rattle.take_layout.specs.declared.layout.TakeLayout.{Ghosts as LayoutGhosts}
use Rattle.commit_sidecar.specs.Recovers.{IsSafe}
use Rattle.commit_phases.specs.Goes.{Goes}
use Rattle.commit_phases.specs.Table.{AllSafe}
use Rattle.commit_phases.specs.laws.Runs.{Crashes, Passes, all_left, goes_none, goes_once, goes_wider, goes_during}
use Rattle.commit_phases.specs.laws.Safety.{safe_wider}
use Rattle.commit_phases.specs.laws.Told.{changes, two}
use Rattle.take_state.specs.Crashes.{CrashesSafely}
use Rattle.take_state.specs.Seen.{TakeSeen, published, acked}
use Rattle.take_state.specs.Stands.{IsTakeOf}
use Rattle.take_state.specs.inner.Writing.{LeavesWritten, WritesInside}

module _ {L D : Type 0} (layout : LayoutGhosts L) (device : Ghosts D) where
  -- units that are the first of all, and safe, are safe among more of them
  wider : (cfg : Fields) (units all : List (List ℕ)) (n more durable : ℕ) (image : Areas) → units ≡ take (length units) all → length units ≡ n → n ≤ more
      → IsSafe layout cfg units durable image → IsSafe layout cfg (take more all) durable image
  wider cfg units all n more durable image first count up safe =
      let is : take n all ≡ units = ap (λ (k : ℕ). take k all) (sym count) ∙ sym first in
      let long : n ≤ length all = fits n all (ap (length {A = List ℕ}) is ∙ count) in
      let same : take n (take more all) ≡ units = take-take n more all up ∙ is in
      safe_wider layout cfg (take more all) n durable durable image (fits_more n more all up long) (omega arith)
      (subst (λ (us : List (List ℕ)). IsSafe layout cfg us durable image) (sym same) safe)
    where
      fits : (n : ℕ) (xs : List (List ℕ)) → length (take n xs) ≡ n → n ≤ length xs
      fits n xs is = omega (arith, is, length-take n xs)

      fits_more : (n more : ℕ) (xs : List (List ℕ)) → n ≤ more → n ≤ length xs → n ≤ length (take more xs)
      fits_more n more xs up long = omega (arith, up, long, length-take more xs)

  -- what a crash may leave over a call
  pub crashes : Crashes device → (named : Option (List (List ℕ))) (s new : TakeSeen D) (units : List (List ℕ)) → IsTakeOf layout device named s units
      → published s ≤ published new → Goes device s.disk new.disk (IsSafe layout s.config units (acked s)) → CrashesSafely layout device named s new
  crashes crash None s new units stands up goes = record { during = tt; since = tt }
  crashes crash (Some all) s new units stands up goes =
      let P : Areas → Type 0 = IsSafe layout s.config (take (published new) all) (acked s) in
      let wide : (image : Areas) → IsSafe layout s.config units (acked s) image → P image =
      λ image safe. wider s.config units all (published s) (published new) (acked s) image stands.first stands.counted up safe in
      let since = goes_wider device (IsSafe layout s.config units (acked s)) P s.disk new.disk wide goes in
      let at_first = all_left device crash P s.disk (changes (device.told s.disk) _ _ stands.safe (λ held all_safe image leaves. wide image (all_safe image leaves))) in
      record { during = goes_during device P s.disk new.disk at_first since; since = since }

  -- a call that writes
  pub writes_safe : (cfg : Fields) (units : List (List ℕ)) (durable : ℕ) (area : Area) (at count : ℕ) (old new : D) → WritesInside device area at count old new
      → IfTold (device.told old) (λ held. (written : Disk) → WritesIn area at count held written → AllSafe layout cfg units durable written)
      → Goes device old new (IsSafe layout cfg units durable)
  writes_safe cfg units durable area at count old new inside safe =
      two (device.told old) _ _ _ inside.left safe (λ held left all moment image before since.
      ⊎_elim
      (λ (past : device.images_since old moment image). inl past)
      (λ (x : LeavesWritten area at count held image). inr (all x.written x.torn image x.left))
      (left moment image before since))

  -- a call that writes nothing
  pub passes_safe : Crashes device → (cfg : Fields) (units : List (List ℕ)) (durable : ℕ) (step : Disk → Disk → Type 0) (old new : D)
      → Steps (device.told old) (device.told new) step → Passes device old new → IfTold (device.told new) (AllSafe layout cfg units durable)
      → Goes device old new (IsSafe layout cfg units durable)
  passes_safe crash cfg units durable step old new steps time safe =
      goes_once device (IsSafe layout cfg units durable) old new step steps time (all_left device crash (IsSafe layout cfg units durable) new safe)

  module _ (named : Fields → Option (List (List ℕ))) where
    -- the same of a take that is shown
    pub shown : (s t new : TakeSeen D) → s ≡ t → CrashesSafely layout device (named s.config) s new → CrashesSafely layout device (named t.config) t new
    shown s t new is safe = subst (λ (v : TakeSeen D). CrashesSafely layout device (named v.config) v new) is safe

    -- a call that doesn't call the disk
    pub silent : Crashes device → (s t new : TakeSeen D) (units : List (List ℕ)) → s ≡ t → IsTakeOf layout device (named s.config) s units
        → published s ≤ published new → new.disk ≡ s.disk → CrashesSafely layout device (named t.config) t new
    silent crash s t new units is stands up same = shown s t new is (crashes crash (named s.config) s new units stands up
        (subst (λ (d : D). Goes device s.disk d (IsSafe layout s.config units (acked s))) (sym same)
        (goes_none device (IsSafe layout s.config units (acked s)) s.disk)))

    -- a call that calls the disk
    pub called : Crashes device → (s t new : TakeSeen D) (units : List (List ℕ)) → s ≡ t → IsTakeOf layout device (named s.config) s units
        → published s ≤ published new → Goes device s.disk new.disk (IsSafe layout s.config units (acked s)) → CrashesSafely layout device (named t.config) t new
    called crash s t new units is stands up goes = shown s t new is (crashes crash (named s.config) s new units stands up goes)

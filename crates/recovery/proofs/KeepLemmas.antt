-- What an answer keeps of the units that were acknowledged.
use Rattle.std.proofs.Common.{◌≡◌, ⊎_elim, ℕ, List, length, take, Some, refl, sym, ap, ◌∙◌, arith, length-take-le}
use Rattle.rec_bytes.specs.Configuration.{Fields}
use Rattle.take_disk.specs.Held.{Areas, Disk}
use Rattle.take_disk.specs.declared.disk.TakeDisk.{Ghosts as DeviceGhosts}
use Rattle.take_layout.specs.declared.layout.TakeLayout.{Ghosts}
use Rattle.commit_sidecar.specs.Recovers.{IsSafe, Recovers}
use Rattle.commit_phases.specs.Table.{AllSafe}
use Rattle.commit_phases.specs.laws.Moments.{same_moment}
use Rattle.commit_phases.specs.laws.Runs.{Crashes}
use Rattle.commit_phases.specs.laws.Told.{told_so}
use Rattle.recovery.specs.Crashes.{StaysSafe}
use Rattle.recovery.specs.Recoveries.{IsClosedFor, KeepsAcked, Leads, as_read, mark_in}
use Rattle.recovery.specs.declared.answer.Recovered.{Recovered}
use Rattle.recovery.proofs.StandLemmas.{closed_now}

module _ {L : Type 0} (layout : Ghosts L)
    (one : (areas : Areas) (cfg other : Fields) (units others : List (List ℕ)) → Recovers layout cfg units areas → Recovers layout other others areas
    → (cfg ≡ other) × (units ≡ others)) where
  -- the closed file of the units that safe areas were recovered to
  closes_first : (cfg : Fields) (units : List (List ℕ)) (acked : ℕ) (was image : Areas) (done : Recovered) (now : Disk) → image ≡ as_read now
      → IsSafe layout cfg units acked was → IsClosedFor layout was done image → KeepsAcked layout cfg units acked done now
  closes_first cfg units acked was image done now is safe c =
      let same = one was c.cfg cfg c.units (take safe.count units) c.were safe.recovers in
      let long : length (take safe.count units) ≡ safe.count = length-take-le safe.count units safe.at_most in
      let count : (mark_in done).count ≡ safe.count =
      sym (ap (λ (m : _). m.count) c.mark) ∙ c.recovers.count ∙ ap (length {A = List ℕ}) same.1 ∙ long in
      record {
        at_least = omega (arith, count, safe.at_least);
        at_most = omega (arith, count, safe.at_most);
        essence = ap (λ (areas : Areas). areas.essence) (sym is)
            ∙ c.essence
            ∙ ap (λ (f : Fields). layout.closed f c.units) same.0
            ∙ ap (λ (us : List (List ℕ)). layout.closed cfg us) same.1
            ∙ ap (λ (n : ℕ). layout.closed cfg (take n units)) (sym count);
      }

  -- so an answer over safe areas
  pub keeps_acked : (cfg : Fields) (units : List (List ℕ)) (acked : ℕ) (was : Areas) (done : Recovered) (now : Disk) → IsSafe layout cfg units acked was
      → Leads layout done was now → KeepsAcked layout cfg units acked done now
  keeps_acked cfg units acked was done now safe leads =
      closes_first cfg units acked was (as_read now) done now refl safe (closed_now layout done was now leads)

-- what a crash may leave since a recovery began at which all was safe
pub left_safe : {L D : Type 0} (layout : Ghosts L) (device : DeviceGhosts D) → Crashes device → (cfg : Fields) (units : List (List ℕ)) (acked : ℕ)
    (first disk : D) (held : Disk) (image : Areas) → device.told first ≡ Some held → AllSafe layout cfg units acked held
    → StaysSafe layout device first disk → device.images_since disk (device.moment first) image → IsSafe layout cfg units acked image
left_safe layout device crash cfg units acked first disk held image told safe stays left =
    ⊎_elim
    (λ (past : device.images_since first (device.moment first) image). safe image (crash first held image told past))
    (λ (is : IsSafe layout cfg units acked image). is)
    (told_so (device.told first) _ held (told_so (device.told first) _ held stays told cfg units acked safe) told (device.moment first) image
    (same_moment (device.moment first)) left)

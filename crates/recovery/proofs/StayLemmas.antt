-- What a crash may leave over the parts of a recovery.
use Rattle.std.proofs.Common.{◌≡◌, inl, inr, ⊎_elim, true, ℕ, length, Option, Some, None, refl, sym, subst}
use Rattle.rec_bytes.specs.Configuration.{Fields}
use Rattle.take_core.specs.declared.mark.Mark.{Mark}
use Rattle.take_disk.specs.Held.{IsBefore, Areas, Disk, Leaves}
use Rattle.take_disk.specs.Calls.{IfTold, Steps}
use Rattle.take_disk.specs.declared.disk.TakeDisk.{Ghosts}
use Rattle.take_layout.specs.Growing.{Growing}
use Rattle.take_layout.specs.declared.layout.TakeLayout.{Ghosts as LayoutGhosts}
use Rattle.commit_sidecar.specs.Recovers.{Recovers, IsSafe}
use Rattle.commit_phases.specs.Layouts.{LaysOut}
use Rattle.commit_phases.specs.Table.{AllSafe}
use Rattle.commit_phases.specs.laws.Found.{found_first, found_wider, safe_all, all_safe}
use Rattle.commit_phases.specs.laws.Moments.{later_moment}
use Rattle.commit_phases.specs.laws.Runs.{goes_wider}
use Rattle.commit_phases.specs.laws.Told.{known, same_told, told_so}
use Rattle.essence_walk.specs.Rests.{Rests}
use Rattle.recovery.specs.Crashes.{StaysSafe, StaysOne}
use Rattle.recovery.specs.Recoveries.{AreKept, WasClosed, as_read}
use Rattle.recovery.specs.inner.Found.{ClosesSafely, IsFound, IsReady}
use Rattle.recovery.specs.inner.Settles.{Settles, SettlesAll}
use Rattle.recovery.proofs.FoundLemmas.{found_recovers, was_closed}

-- who tells goes on telling, by a step
tells_on : (x y : Option Disk) (step : Disk → Disk → Type 0) → Steps x y step → (old : Disk) → x ≡ Some old → (new : Disk) × (y ≡ Some new) × step old new
tells_on x y step steps old is = go y (subst (λ (z : Option Disk). Steps z y step) is steps)
  where
    go : (y : Option Disk) → Steps (Some old) y step → (new : Disk) × (y ≡ Some new) × step old new
    go None s = absurd s
    go (Some new) s = (new, refl, s)

-- all that a crash leaves of what is kept is as it is read
pub kept_image : (held : Disk) → AreKept held → (image : Areas) → Leaves held image → image ≡ as_read held
kept_image held kept image leaves = λ i. record { essence = leaves.essence.whole kept.essence i; commits = leaves.commits.whole kept.commits i }

module _ {L D : Type 0} (layout : LayoutGhosts L) (device : Ghosts D) where
  -- while a disk rests, what is safe stays so
  pub rests_safe : (first now : D) → Rests device first now → StaysSafe layout device first now
  rests_safe first now rests = known (device.told first) _ (λ held is cfg units acked safe. known (device.told first) _ (λ again same moment image before left.
      ⊎_elim
      (λ (past : device.images_since first moment image). inl past)
      (λ (leaves : Leaves held image). inr (safe image leaves))
      (told_so (device.told first) _ held rests is moment image before left)))

  -- a disk that was settled and then rests rested all the while
  pub rests_settled : (first mid now : D) → Steps (device.told first) (device.told mid) Settles → IsBefore (device.moment first) (device.moment mid)
      → Rests device first mid → Rests device mid now → Rests device first now
  rests_settled first mid now steps later one two = known (device.told first) _ (λ held is moment image before left.
      let on = tells_on (device.told first) (device.told mid) Settles steps held is in
      ⊎_elim
      (λ (past : device.images_since mid moment image). told_so (device.told first) _ held one is moment image before past)
      (λ (leaves : Leaves on.0 image). inr (on.2.fewer image leaves))
      (told_so (device.told mid) _ on.0 two on.1 moment image (later_moment moment _ _ before later) left))

  -- and what was safe stays so while what was found is closed
  pub closes_safe : LaysOut layout → (file : Growing) (gate : ℕ) (mark : Mark) (first mid now : D) → Steps (device.told first) (device.told mid) Settles
      → IsBefore (device.moment first) (device.moment mid) → Rests device first mid → IfTold (device.told mid) (IsReady layout file gate mark)
      → ClosesSafely layout device file gate mark mid now → StaysSafe layout device first now
  closes_safe laws file gate mark first mid now steps later rests ready closes =
      known (device.told first) _ (λ held is cfg units acked safe. known (device.told first) _ (λ again same moment image before left.
      let on = tells_on (device.told first) (device.told mid) Settles steps held is in
      let found = (told_so (device.told mid) _ on.0 ready on.1).found in
      let still : AllSafe layout cfg units acked on.0 = λ image leaves. safe image (on.2.fewer image leaves) in
      let one = found_first layout laws cfg file.config units found.units acked on.0 still (found_recovers layout file gate mark (as_read on.0) found) in
      let goes = told_so (device.told mid) _ on.0 (told_so (device.told mid) _ on.0 closes on.1 found) on.1 in
      ⊎_elim
      (λ (past : device.images_since mid moment image).
      ⊎_elim
      (λ (older : device.images_since first moment image). inl older)
      (λ (leaves : Leaves held image). inr (safe image leaves))
      (told_so (device.told first) _ held rests is moment image before past))
      (λ (has : IsSafe layout file.config found.units (length found.units) image).
      inr (found_wider layout cfg units found.units acked image one.1
      (subst (λ (f : Fields). IsSafe layout f found.units (length found.units) image) one.0 has)))
      (goes moment image (later_moment moment _ _ before later) left)))

  -- where all is kept at the start, what stays safe is recovered to the same units
  pub stays_one : (first now : D) → StaysSafe layout device first now → StaysOne layout device first now
  stays_one first now stays = known (device.told first) _ (λ held is cfg units kept recovers.
      let safe : AllSafe layout cfg units (length units) held = λ image leaves.
      all_safe layout cfg units image (subst (λ (areas : Areas). Recovers layout cfg units areas) (sym (kept_image held kept image leaves)) recovers) in
      goes_wider device (IsSafe layout cfg units (length units)) (Recovers layout cfg units) first now (λ image s. safe_all layout cfg units image s)
      (told_so (device.told first) _ held stays is cfg units (length units) safe))

-- where both areas are settled and the disk is read on, the first step still holds
pub then_same : {T : Type 0} (x y z : Option T) (step : T → T → Type 0) → Steps x y step → z ≡ y → Steps x z step
then_same {T} x y z step steps same = subst (λ (w : Option T). Steps x w step) (sym same) steps

module _ {L : Type 0} (layout : LayoutGhosts L) (file : Growing) (gate : ℕ) (mark : Mark) where
  -- what is found then is ready to be closed
  pub found_ready : (x y z : Option Disk) → Steps x y SettlesAll → IfTold y (λ held. IsFound layout file gate mark (as_read held)) → z ≡ y
      → IfTold z (IsReady layout file gate mark)
  found_ready x y z steps found same = same_told y z _ same (go x y steps found)
    where
      go : (x y : Option Disk) → Steps x y SettlesAll → IfTold y (λ held. IsFound layout file gate mark (as_read held))
          → IfTold y (IsReady layout file gate mark)
      go None None s f = tt
      go None (Some new) s f = absurd s
      go (Some old) None s f = absurd s
      go (Some old) (Some new) s f = record { found = f; essence = s.essence; commits = s.commits }

  -- or closed already
  pub found_closed : (x y z : Option Disk) → mark.closed ≡ true → Steps x y SettlesAll → IfTold y (λ held. IsFound layout file gate mark (as_read held)) → z ≡ y
      → Steps x z (λ old new. WasClosed layout mark.count mark.length (as_read old) new)
  found_closed x y z ended steps found same = then_same x y z _ (go x y steps found) same
    where
      go : (x y : Option Disk) → Steps x y SettlesAll → IfTold y (λ held. IsFound layout file gate mark (as_read held))
          → Steps x y (λ old new. WasClosed layout mark.count mark.length (as_read old) new)
      go None None s f = tt
      go None (Some new) s f = absurd s
      go (Some old) None s f = absurd s
      go (Some old) (Some new) s f = subst (λ (areas : Areas). WasClosed layout mark.count mark.length areas new) s.settles.same
          (was_closed layout file gate mark new ended (record { found = f; essence = s.essence; commits = s.commits }))

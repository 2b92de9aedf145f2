-- What it takes to keep all of both areas.
use Rattle.std.proofs.Common.{◌≡◌, ◌⊎◌, Option, Some, None, refl, sym, subst, ◌∙◌}
use Rattle.take_disk.specs.declared.area.Area.{Area}
use Rattle.take_disk.specs.declared.area.Area.TheVariants.{Essence, Commits}
use Rattle.take_disk.specs.Held.{Moment, IsBefore, Areas, Disk, Leaves, InArea, Settled, IsPast}
use Rattle.take_disk.specs.Calls.{IfTold, Steps}
use Rattle.take_disk.specs.declared.disk.TakeDisk.{Ghosts}
use Rattle.commit_phases.specs.laws.Told.{weaker}
use Rattle.commit_phases.specs.laws.Runs.{Crashes, Passes, all_left, Run, then}
use Rattle.commit_phases.specs.laws.Settling.{settled_leaves, sync_keeps, sync_keeps_all}
use Rattle.essence_walk.specs.Rests.{Rests}
use Rattle.recovery.specs.Recoveries.{as_read}
use Rattle.recovery.specs.inner.Settles.{IsKept, Settles, SettlesAll}

-- a sync keeps what is read
sync_settles : (area : Area) (moment : Moment) (old new : Disk) → InArea area (Settled moment) old new → Settles old new
sync_settles area moment old new step = record {
  same = same area step;
  fewer = λ image leaves. settled_leaves area moment old new image step leaves;
}
  where
    same : (area : Area) → InArea area (Settled moment) old new → as_read new ≡ as_read old
    same Essence step = λ i. record { essence = step.changed.reads i; commits = (step.same i).reads }
    same Commits step = λ i. record { essence = (step.same i).reads; commits = step.changed.reads i }

pub syncs : (area : Area) (moment : Moment) (x y : Option Disk) → Steps x y (InArea area (Settled moment)) → Steps x y Settles
syncs area moment x y steps = weaker x y _ Settles steps (λ old new step. sync_settles area moment old new step)

-- so does no step, and one behind another
pub same_settles : (x y : Option Disk) → y ≡ x → Steps x y Settles
same_settles x y e = subst (λ (z : Option Disk). Steps x z Settles) (sym e) (here x)
  where
    here : (x : Option Disk) → Steps x x Settles
    here None = tt
    here (Some old) = record { same = refl; fewer = λ image leaves. leaves }

pub settles_more : (x y z : Option Disk) → Steps x y Settles → Steps y z Settles → Steps x z Settles
settles_more None None None one two = tt
settles_more None None (Some new) one two = absurd two
settles_more None (Some mid) z one two = absurd one
settles_more (Some old) None z one two = absurd one
settles_more (Some old) (Some mid) None one two = absurd two
settles_more (Some old) (Some mid) (Some new) one two = record {
  same = two.same ∙ one.same;
  fewer = λ image leaves. one.fewer image (two.fewer image leaves);
}

-- two syncs keep all of both areas
pub both_kept : (x y z : Option Disk) (now later : Moment) → IfTold x (λ held. IsPast now held.essence) → IfTold y (λ held. IsPast later held.commits)
    → Steps x y (InArea Essence (Settled now)) → Steps y z (InArea Commits (Settled later)) → Steps x z SettlesAll
both_kept None None None now later p q one two = tt
both_kept None None (Some new) now later p q one two = absurd two
both_kept None (Some mid) z now later p q one two = absurd one
both_kept (Some old) None z now later p q one two = absurd one
both_kept (Some old) (Some mid) None now later p q one two = absurd two
both_kept (Some old) (Some mid) (Some new) now later p q one two =
    let first = sync_settles Essence now old mid one in
    let next = sync_settles Commits later mid new two in
    let same : new.essence ≡ mid.essence = two.same in
    let kept : IsKept mid.essence = record {
      each = sync_keeps now old.essence mid.essence p one.changed;
      whole = sync_keeps_all now old.essence mid.essence p one.changed;
    } in
    record {
      settles = record { same = next.same ∙ first.same; fewer = λ image leaves. first.fewer image (next.fewer image leaves) };
      essence = subst IsKept (sym same) kept;
      commits = record {
        each = sync_keeps later mid.commits new.commits q two.changed;
        whole = sync_keeps_all later mid.commits new.commits q two.changed;
      };
    }

module _ {D : Type 0} (device : Ghosts D) (crash : Crashes device) where
  -- what a disk that is read as the first leaves, the first might have left
  abbrev pub Back : D → Areas → Type 0
  Back first image = IfTold (device.told first) (λ held. Leaves held image)

  -- a call more
  pub settles_then : (first mid new : D) → Run device (Back first) first mid → Steps (device.told mid) (device.told new) Settles
      → Steps (device.told first) (device.told new) Settles → Passes device mid new → Run device (Back first) first new
  settles_then first mid new run step all time =
      then device (Back first) first mid new Settles run step time (all_left device crash (Back first) new (back (device.told first) (device.told new) all))
    where
      back : (x y : Option Disk) → Steps x y Settles → IfTold y (λ held. (image : Areas) → Leaves held image → IfTold x (λ old. Leaves old image))
      back None None s = tt
      back None (Some new) s = absurd s
      back (Some old) None s = absurd s
      back (Some old) (Some new) s = s.fewer

  -- over a run of such calls the disk rests
  pub run_rests : (first new : D) → Run device (Back first) first new → Rests device first new
  run_rests first new run = go (device.told first) run.goes
    where
      go : (x : Option Disk) → IfTold x (λ held. (moment : Moment) (image : Areas) → IsBefore moment (device.moment first)
          → device.images_since new moment image → device.images_since first moment image ⊎ IfTold x (λ old. Leaves old image))
          → IfTold x (λ held. (moment : Moment) (image : Areas) → IsBefore moment (device.moment first)
          → device.images_since new moment image → device.images_since first moment image ⊎ Leaves held image)
      go None all = tt
      go (Some held) all = all

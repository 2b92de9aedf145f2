-- What crashes leave over any number of calls of a disk (own).
use Rattle.std.proofs.Common.{◌≡◌, ◌⊎◌, inl, inr, ⊎_elim, length, Option, Some, None, refl}
use Rattle.take_disk.specs.declared.area.Area.{Area}
use Rattle.take_disk.specs.Held.{Moment, IsBefore, Areas, Disk, Leaves, IsPast, in_area}
use Rattle.take_disk.specs.Calls.{IfTold, Steps, Elapses}
use Rattle.take_disk.specs.declared.disk.TakeDisk.{Ghosts}
use Rattle.commit_phases.specs.Goes.{IsLeft, AllLeft, Goes}
use Rattle.commit_phases.specs.laws.Moments.{same_moment, later_moment}
use Rattle.commit_phases.specs.laws.Told.{known, changes, two, still, tells}

-- a crash now leaves an image of what the disk holds: the law `crash` of every disk
abbrev pub Crashes : {D : Type 0} → Ghosts D → Type 0
Crashes {D} device = (d : D) (disk : Disk) (image : Areas) → device.told d ≡ Some disk → device.images_since d (device.moment d) image → Leaves disk image

-- nothing was written or cut later than now: the law `past`
abbrev pub Pasts : {D : Type 0} → Ghosts D → Type 0
Pasts {D} device = (d : D) (disk : Disk) (area : Area) → device.told d ≡ Some disk → IsPast (device.moment d) (in_area area disk)

-- the lengths are those of what is read: the law `long`
abbrev pub Lengths : {D : Type 0} → Ghosts D → Type 0
Lengths {D} device = (d : D) (disk : Disk) (area : Area) → device.told d ≡ Some disk → device.length_of d area ≡ length ((in_area area disk).reads)

-- time goes on over a call
abbrev pub Passes : {D : Type 0} → Ghosts D → D → D → Type 0
Passes device old new =
    Elapses (device.moment old) (device.moment new) (device.images_since old) (device.images_since new) (device.made old) (device.made new)

-- all images of what is held have a property, where it is told
abbrev pub AllHave : {D : Type 0} → Ghosts D → D → (Areas → Type 0) → Type 0
AllHave device disk P = IfTold (device.told disk) (λ held. (image : Areas) → Leaves held image → P image)

module _ {D : Type 0} (device : Ghosts D) where
  -- so has all that a crash now may leave
  pub all_left : Crashes device → (P : Areas → Type 0) (d : D) → AllHave device d P → AllLeft device d P
  all_left crash P d all = go (device.told d) refl all
    where
      go : (x : Option Disk) → device.told d ≡ x → IfTold x (λ held. (image : Areas) → Leaves held image → P image)
          → IfTold x (λ held. (image : Areas) → IsLeft device d image → P image)
      go None e all = tt
      go (Some held) e all = λ image left. all image (crash d held image e left)

  -- these laws, where the disk tells what it holds
  pub all_past : Pasts device → (d : D) (area : Area) → IfTold (device.told d) (λ held. IsPast (device.moment d) (in_area area held))
  all_past past d area = known (device.told d) _ (λ held e. past d held area e)

  pub all_long : Lengths device → (d : D) (area : Area) → IfTold (device.told d) (λ held. device.length_of d area ≡ length ((in_area area held).reads))
  all_long long d area = known (device.told d) _ (λ held e. long d held area e)

  -- no call at all
  pub goes_none : (P : Areas → Type 0) (d : D) → Goes device d d P
  goes_none P d = go (device.told d)
    where
      go : (x : Option Disk) → IfTold x (λ held. (moment : Moment) (image : Areas) → IsBefore moment (device.moment d)
          → device.images_since d moment image → device.images_since d moment image ⊎ P image)
      go None = tt
      go (Some held) = λ moment image before left. inl left

  -- one call, after which all that a crash may leave has the property
  pub goes_once : (P : Areas → Type 0) (old new : D) (step : Disk → Disk → Type 0) → Steps (device.told old) (device.told new) step → Passes device old new
      → AllLeft device new P → Goes device old new P
  goes_once P old new step steps time all = go (device.told old) (device.told new) steps all
    where
      go : (x y : Option Disk) → Steps x y step → IfTold y (λ held. (image : Areas) → IsLeft device new image → P image)
          → IfTold x (λ held. (moment : Moment) (image : Areas) → IsBefore moment (device.moment old)
          → device.images_since new moment image → device.images_since old moment image ⊎ P image)
      go None y steps all = tt
      go (Some held) None steps all = absurd steps
      go (Some held) (Some now) steps all = λ moment image before left.
          ⊎_elim
          (λ (past : device.images_since old moment image). inl past)
          (λ (here : IsLeft device new image). inr (all image here))
          (time.nothing_else moment image before left)

  -- two parts, one after the other
  pub goes_more : (P : Areas → Type 0) (first mid new : D) (step : Disk → Disk → Type 0) → IsBefore (device.moment first) (device.moment mid)
      → Steps (device.told first) (device.told mid) step → Goes device first mid P → Goes device mid new P → Goes device first new P
  goes_more P first mid new step later steps one two = go (device.told first) (device.told mid) steps one two
    where
      go : (x y : Option Disk) → Steps x y step
          → IfTold x (λ held. (moment : Moment) (image : Areas) → IsBefore moment (device.moment first)
          → device.images_since mid moment image → device.images_since first moment image ⊎ P image)
          → IfTold y (λ held. (moment : Moment) (image : Areas) → IsBefore moment (device.moment mid)
          → device.images_since new moment image → device.images_since mid moment image ⊎ P image)
          → IfTold x (λ held. (moment : Moment) (image : Areas) → IsBefore moment (device.moment first)
          → device.images_since new moment image → device.images_since first moment image ⊎ P image)
      go None y steps one two = tt
      go (Some held) None steps one two = absurd steps
      go (Some held) (Some now) steps one two = λ moment image before left.
          ⊎_elim
          (λ (past : device.images_since mid moment image). one moment image before past)
          (λ (has : P image). inr has)
          (two moment image (later_moment moment (device.moment first) (device.moment mid) before later) left)

  -- for a property that follows
  pub goes_wider : (P Q : Areas → Type 0) (first now : D) → ((image : Areas) → P image → Q image) → Goes device first now P → Goes device first now Q
  goes_wider P Q first now f goes = changes (device.told first) _ _ goes (λ held g moment image before left.
      ⊎_elim (λ (past : device.images_since first moment image). inl past) (λ (has : P image). inr (f image has)) (g moment image before left))

  -- What a crash may leave since the first moment has the property, if all had it then.
  pub goes_during : (P : Areas → Type 0) (first now : D) → AllLeft device first P → Goes device first now P
      → IfTold (device.told first) (λ held. (image : Areas) → device.images_since now (device.moment first) image → P image)
  goes_during P first now all goes = two (device.told first) _ _ _ all goes (λ held a g image left.
      ⊎_elim
      (λ (past : device.images_since first (device.moment first) image). a image past)
      (λ (has : P image). has)
      (g (device.moment first) image (same_moment (device.moment first)) left))

  -- A run of calls: its time, what crashes leave over it, and that who tells goes on telling.
  pub record Run (P : Areas → Type 0) (first now : D) : Type 0 where
    pub later : IsBefore (device.moment first) (device.moment now)
    pub goes : Goes device first now P
    pub telling : Steps (device.told first) (device.told now) (λ old new. Unit {0})

  -- before the first call
  pub begun : (P : Areas → Type 0) (first : D) → Run P first first
  begun P first = record {
    later = same_moment (device.moment first);
    goes = goes_none P first;
    telling = still (device.told first);
  }

  -- one call more
  pub then : (P : Areas → Type 0) (first mid new : D) (step : Disk → Disk → Type 0) → Run P first mid → Steps (device.told mid) (device.told new) step
      → Passes device mid new → AllLeft device new P → Run P first new
  then P first mid new step run steps time all = record {
    later = later_moment (device.moment first) (device.moment mid) (device.moment new) run.later time.later;
    goes = goes_more P first mid new _ run.later run.telling run.goes (goes_once P mid new step steps time all);
    telling = tells (device.told first) (device.told mid) (device.told new) step run.telling steps;
  }

  -- another run
  pub goes_on : (P : Areas → Type 0) (first mid new : D) → Run P first mid → Run P mid new → Run P first new
  goes_on P first mid new run next = record {
    later = later_moment (device.moment first) (device.moment mid) (device.moment new) run.later next.later;
    goes = goes_more P first mid new _ run.later run.telling run.goes next.goes;
    telling = tells (device.told first) (device.told mid) (device.told new) _ run.telling next.telling;
  }

  -- for a property that follows
  pub widened : (P Q : Areas → Type 0) (first now : D) → ((image : Areas) → P image → Q image) → Run P first now → Run Q first now
  widened P Q first now f run = record { later = run.later; goes = goes_wider P Q first now f run.goes; telling = run.telling }

-- A disk rests over no call, over one that changes nothing, and over two parts where it rests over each (own). The crates above
-- cite this.
use Rattle.std.proofs.Common.{◌≡◌, ◌⊎◌, inl, inr, ⊎_elim, refl, sym, ◌∙◌, subst, arith, Option, Some, None}
use Rattle.take_disk.specs.declared.ticket.Ticket.{Ticket}
use Rattle.take_disk.specs.Held.{Moment, IsBefore, Areas, Disk, Leaves}
use Rattle.take_disk.specs.Calls.{IfTold, Elapses}
use Rattle.take_disk.specs.declared.disk.TakeDisk.{Ghosts}
use Rattle.essence_walk.specs.Rests.{Rests}

later_moment : (a b c : Moment) → IsBefore a b → IsBefore b c → IsBefore a c
later_moment a b c p q =
    let p_first = p.first in let p_second = p.second in let q_first = q.first in let q_second = q.second in
    record { first = omega arith; second = omega arith }

-- what is left since, by the value that is told at first
abbrev RestsBy : Moment → (Moment → Areas → Type 0) → (Moment → Areas → Type 0) → Option Disk → Type 0
RestsBy before past since told =
    IfTold told (λ held. (moment : Moment) (image : Areas) → IsBefore moment before → since moment image → past moment image ⊎ Leaves held image)

module _ {D : Type 0} (device : Ghosts D) where
  pub rests_none : (d : D) → Rests device d d
  rests_none d = go (device.told d)
    where
      go : (told : Option Disk) → RestsBy (device.moment d) (device.images_since d) (device.images_since d) told
      go None = tt
      go (Some held) = λ moment image before left. inl left

  pub rests_once : ((d : D) (held : Disk) (image : Areas) → device.told d ≡ Some held → device.images_since d (device.moment d) image → Leaves held image)
      → (first now : D) → device.told now ≡ device.told first
      → Elapses (device.moment first) (device.moment now) (device.images_since first) (device.images_since now) (device.made first) (device.made now)
      → Rests device first now
  rests_once crash first now same time = go (device.told first) refl
    where
      go : (told : Option Disk) → device.told first ≡ told → RestsBy (device.moment first) (device.images_since first) (device.images_since now) told
      go None is = tt
      go (Some held) is = λ moment image before left.
          ⊎_elim
          (λ (x : device.images_since first moment image). inl x)
          (λ (x : device.images_since now (device.moment now) image). inr (crash now held image (same ∙ is) x))
          (time.nothing_else moment image before left)

  pub rests_more : (first mid now : D) → device.told mid ≡ device.told first → IsBefore (device.moment first) (device.moment mid)
      → Rests device first mid → Rests device mid now → Rests device first now
  rests_more first mid now same later one two =
      go (device.told first) one (subst (λ told. RestsBy (device.moment mid) (device.images_since mid) (device.images_since now) told) same two)
    where
      go : (told : Option Disk) → RestsBy (device.moment first) (device.images_since first) (device.images_since mid) told
          → RestsBy (device.moment mid) (device.images_since mid) (device.images_since now) told
          → RestsBy (device.moment first) (device.images_since first) (device.images_since now) told
      go None one two = tt
      go (Some held) one two = λ moment image before left.
          ⊎_elim
          (λ (x : device.images_since mid moment image). one moment image before x)
          (λ (x : Leaves held image). inr x)
          (two moment image (later_moment moment _ _ before later) left)

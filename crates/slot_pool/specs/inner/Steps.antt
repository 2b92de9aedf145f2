-- What is done to the free slots of a block (own).
use Rattle.std.specs.Prelude.{◌≡◌, ℕ, ◌*◌, ◌<◌, List, [], ◌∷◌, length, get_or, slice_set, Option, Some, None}
use denote.RawPtr.{◌+ₚ◌}
use Rattle.slot_pool.specs.declared.bytes.Bytes.{Bytes}
use Rattle.slot_pool.specs.declared.free_slots.FreeSlots.{FreeSlots}

-- the slot at the place is free
abbrev pub IsFree : List (Option (List ℕ)) → ℕ → Type 0
IsFree slots place = (xs : List ℕ) × (get_or slots place None ≡ Some xs)

-- the bytes are those of the slot at the place
pub record IsSlotAt (owner : FreeSlots) (place : ℕ) (bytes : Bytes) : Type 0 where
  pub within : place < length owner.slots
  pub some : 0 < owner.size
  pub lies : bytes.at ≡ owner.at +ₚ place * owner.size
  pub long : length bytes.written ≡ owner.size

-- the slot at the place, which was free, leaves with its bytes
pub record TakesOut (old new : FreeSlots) (place : ℕ) (bytes : Bytes) : Type 0 where
  pub lies : bytes.at ≡ old.at +ₚ place * old.size
  pub was : get_or old.slots place None ≡ Some bytes.written
  pub long : length bytes.written ≡ old.size
  pub same_at : new.at ≡ old.at
  pub same_size : new.size ≡ old.size
  pub slots : new.slots ≡ slice_set old.slots place None

-- the slot at the place, which was live, comes back with its bytes
pub record PutsIn (old new : FreeSlots) (place : ℕ) (bytes : Bytes) : Type 0 where
  pub was : get_or old.slots place None ≡ None
  pub same_at : new.at ≡ old.at
  pub same_size : new.size ≡ old.size
  pub slots : new.slots ≡ slice_set old.slots place (Some bytes.written)

-- every slot is free
abbrev pub AreFree : List (Option (List ℕ)) → Type 0
AreFree [] = Unit {0}
AreFree (None ∷ slots) = ⊥
AreFree (Some xs ∷ slots) = AreFree slots

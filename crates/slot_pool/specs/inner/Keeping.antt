-- What a block, a slot and a pool keep (own).
use Rattle.std.specs.Prelude.{◌≡◌, ℕ, ◌*◌, ◌^◌, ◌<◌, ◌≤◌, Bool, true, false, List, map, length, Option, Some, None}
use denote.RawPtr.{Ptr, InBlock, ◌+ₚ◌}
use Rattle.slot_pool.specs.Pools.{free_count}
use Rattle.slot_pool.specs.Slots.{BlockName}
use Rattle.slot_pool.specs.inner.Heap.{IsRightTo}
use Rattle.slot_pool.specs.inner.Links.{IsListOf}
use Rattle.slot_pool.specs.declared.bytes.Allocation.{Allocation}
use Rattle.slot_pool.specs.declared.bytes.Bytes.{Bytes}
use Rattle.slot_pool.specs.declared.free_slots.FreeSlots.{FreeSlots}

-- a block that was written whole
pub record IsBlock (at : Ptr) (slots size : ℕ) (bytes : Bytes) (right : Allocation) : Type 0 where
  pub few : slots < 2 ^ 32
  pub roomy : 8 ≤ size
  pub small : slots * size < 2 ^ 63
  pub placed : InBlock at
  pub lies : bytes.at ≡ at
  pub long : length bytes.written ≡ slots * size
  pub whole : bytes.room ≡ 0
  pub frees : IsRightTo at (slots * size) right

-- the bytes of the slot at the place, which begin at `at`
pub record IsSlotOf (block : BlockName) (place size : ℕ) (at : Ptr) (bytes : Bytes) : Type 0 where
  pub within : place < block.slots
  pub sized : size ≡ block.size
  pub roomy : 8 ≤ size
  pub begins : at ≡ bytes.at
  pub lies : bytes.at ≡ block.at +ₚ place * size
  pub long : length bytes.written ≡ size

-- for each slot, whether it is free
abbrev pub is_free : Option (List ℕ) → Bool
is_free (Some xs) = true
is_free None = false

abbrev pub are_free : List (Option (List ℕ)) → List Bool
are_free slots = map is_free slots

-- the free slots are those of the block
pub record AreSlotsOf (block : BlockName) (owner : FreeSlots) : Type 0 where
  pub lie : owner.at ≡ block.at
  pub sized : owner.size ≡ block.size
  pub count : length owner.slots ≡ block.slots
  pub roomy : 8 ≤ block.size
  pub placed : InBlock block.at
  pub small : block.slots * block.size < 2 ^ 63

pub record IsPool (block : BlockName) (at : Ptr) (slots size free first : ℕ) (owner : FreeSlots) (right : Allocation) : Type 0 where
  pub named : block ≡ record { at = at; slots = slots; size = size }
  pub few : slots < 2 ^ 32
  pub owned : AreSlotsOf block owner
  pub counted : free ≡ free_count (are_free owner.slots)
  pub listed : IsListOf owner.slots first free
  pub frees : IsRightTo at (slots * size) right

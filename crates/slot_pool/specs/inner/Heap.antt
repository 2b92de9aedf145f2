-- Blocks of the heap (own).
use Rattle.std.specs.Prelude.{◌≡◌, ℕ, []}
use denote.RawPtr.{Ptr, InBlock}
use Rattle.slot_pool.specs.declared.bytes.Allocation.{Allocation}
use Rattle.slot_pool.specs.declared.bytes.Bytes.{Bytes}

-- the right to free a block of so many bytes
abbrev pub IsRightTo : Ptr → ℕ → Allocation → Type 0
IsRightTo at len right = (right.at ≡ at) × (right.len ≡ len)

-- a block that was just taken: no byte of it was written
pub record IsNew (len : ℕ) (at : Ptr) (bytes : Bytes) (right : Allocation) : Type 0 where
  pub placed : InBlock at
  pub lies : bytes.at ≡ at
  pub empty : bytes.written ≡ []
  pub room : bytes.room ≡ len
  pub frees : IsRightTo at len right

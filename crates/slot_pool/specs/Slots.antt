-- A block, the slots that it is cut into, and what is seen of one (own).
use Rattle.std.specs.Prelude.{◌≡◌, ℕ, ◌+◌, ◌*◌, ◌<◌, List}
use denote.RawPtr.{Ptr, null_ptr, ◌+ₚ◌}

-- where a block begins, how many slots it has, and of how many bytes each is
pub record BlockName : Type 0 where
  pub at : Ptr
  pub slots : ℕ
  pub size : ℕ

-- what a name that no block has says
abbrev pub no_block : BlockName
no_block = record { at = null_ptr; slots = 0; size = 0 }

-- a slot: its place among those of the block, counted from 0, and its bytes
pub record SlotSeen : Type 0 where
  pub place : ℕ
  pub bytes : List ℕ

-- the address is that of one of the bytes of the block's slot at the place
abbrev pub IsByteOf : BlockName → ℕ → Ptr → Type 0
IsByteOf block place byte = (k : ℕ) × (k < block.size) × (byte ≡ block.at +ₚ (place * block.size + k))

-- What an owner of bytes owns, and what a `&` to it shows (own).
use Rattle.std.specs.Prelude.{◌≡◌, ℕ, ◌+◌, ◌^◌, ◌<◌, List, length}
use base.Fraction.{full_share}
use base.Fml.{Lft, Fml, ffalse, fsep, flt, froom}
use mir.Syntax.{w8, ty_int, ty_array}
use denote.Builtin.{u8}
use denote.RawPtr.{Ptr, block_ptr, null_ptr, ◌+ₚ◌}
use denote.RawPtr.Bytes.{bytes}
use denote.Sharing.{beside, said}
use denote.Slice.{elements_shared}
use Rattle.std.specs.Global.{Global}
use Rattle.std_heap.specs.contracts.GlobalAllocator.TheImpl.{ghosts}

-- the bytes that were written and the room behind them are fewer than 2 ^ 63
abbrev pub fits : List ℕ → ℕ → Fml
fits written room = flt (length written + room) (2 ^ 63)

-- the bytes that were written, from `at` on, and room for more right behind them
abbrev pub bytes_own : Ptr → List ℕ → ℕ → Fml
bytes_own (block_ptr b o) written room =
    fsep (fits written room) (fsep (bytes full_share written b o) (froom (ty_array (ty_int w8) room) b (o + length written)))
bytes_own null_ptr written room = ffalse

abbrev pub bytes_lent : Ptr → List ℕ → ℕ → Lft → Fml
bytes_lent (block_ptr b o) written room = beside (said (fits written room)) (elements_shared u8 written b o)
bytes_lent null_ptr written room = said ffalse

-- the heap's handle, which is one value
abbrev pub heap : Global
heap = record { memory = record { seal = tt } }

-- the heap's right to free a block of so many bytes
abbrev pub allocation_owns : Ptr → ℕ → Fml
allocation_owns at len = ghosts.dealloc_token heap (ty_array (ty_int w8) len) at

-- the address is that of one of the bytes that were written
abbrev pub IsByteIn : Ptr → List ℕ → Ptr → Type 0
IsByteIn at written byte = (k : ℕ) × (k < length written) × (byte ≡ at +ₚ k)

-- no address is that of a byte of both
abbrev pub AreApart : Ptr → List ℕ → Ptr → List ℕ → Type 0
AreApart first xs second ys = (byte : Ptr) → IsByteIn first xs byte → IsByteIn second ys byte → ⊥

-- What the owner of a block's free slots owns (own).
use Rattle.std.specs.Prelude.{ℕ, zero, suc, ◌+◌, ◌*◌, ◌^◌, List, [], ◌∷◌, length, take, drop, Option, Some, None}
use base.Fraction.{full_share}
use base.Fml.{Fml, ftrue, ffalse, fsep, feq, flt}
use denote.RawPtr.{Ptr, block_ptr, null_ptr}
use denote.RawPtr.Bytes.{bytes}

-- the bytes of a slot that is free, and nothing of one that is live
abbrev pub slot_own : ℕ → ℕ → ℕ → Option (List ℕ) → Fml
slot_own size b o (Some xs) = fsep (feq ℕ (length xs) size) (bytes full_share xs b o)
slot_own size b o None = ftrue

-- slots side by side
abbrev pub slots_own : ℕ → ℕ → ℕ → List (Option (List ℕ)) → Fml
slots_own size b o [] = ftrue
slots_own size b o (slot ∷ slots) = fsep (slot_own size b o slot) (slots_own size b (o + size) slots)

abbrev pub free_slots_own : Ptr → ℕ → List (Option (List ℕ)) → Fml
free_slots_own (block_ptr b o) size slots = fsep (flt (length slots * size) (2 ^ 63)) (slots_own size b o slots)
free_slots_own null_ptr size slots = ffalse

-- bytes as so many slots, all of them free
abbrev pub slots_of : ℕ → ℕ → List ℕ → List (Option (List ℕ))
slots_of zero size bytes = []
slots_of (suc count) size bytes = Some (take size bytes) ∷ slots_of count size (drop size bytes)

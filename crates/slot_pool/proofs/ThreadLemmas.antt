-- What bytes, free slots and the right to free a block own may go to another thread.
use Rattle.std.specs.Prelude.{ℕ, ◌+◌, List, [], ◌∷◌, Option, Some, None}
use base.Fraction.{full_share}
use base.Shift.{Keyless}
use denote.Builtin.{u8}
use denote.Param.Send.{IsSend, IsSync, Common, AllSend, part_keyless, owning_send, struct_send, struct_sync, sendable}
use denote.RawPtr.{Ptr, block_ptr, null_ptr}
use denote.RawPtr.Bytes.{bytes}
use denote.Slice.{elements_shared}
use denote.Struct.Owning.{shape, fields, to}
use denote.Struct.Struct.{exits_of}
use Rattle.std.proofs.Crossing.{frees}
use Rattle.std_alloc.proofs.SendSync.{quiet}
use Rattle.slot_pool.specs.inner.FreeSlots.{slots_own, free_slots_own}
use Rattle.slot_pool.specs.inner.Owned.{heap, bytes_own, bytes_lent}
use Rattle.slot_pool.specs.contracts.bytes.Allocation as L
use Rattle.slot_pool.specs.contracts.bytes.Bytes as B
use Rattle.slot_pool.specs.contracts.free_slots.FreeSlots as F

byte_send : IsSend u8
byte_send = search sendable

byte_sync : IsSync u8
byte_sync = search sendable

bytes_keyless : (xs : List ℕ) (b o : ℕ) → Keyless (bytes full_share xs b o)
bytes_keyless [] b o = tt
bytes_keyless (x ∷ xs) b o = (part_keyless u8 byte_send full_share x b o, bytes_keyless xs b (o + 1))

owner_keyless : (at : Ptr) (written : List ℕ) (room : ℕ) → Keyless (bytes_own at written room)
owner_keyless (block_ptr b o) written room = (tt, (bytes_keyless written b o, tt))
owner_keyless null_ptr written room = tt

shown_common : (xs : List ℕ) (b o : ℕ) → Common (elements_shared u8 xs b o)
shown_common [] b o κ = tt
shown_common (x ∷ xs) b o κ = (byte_sync.shared x b o κ, shown_common xs b (o + 1) κ)

lent_common : (at : Ptr) (written : List ℕ) (room : ℕ) → Common (bytes_lent at written room)
lent_common (block_ptr b o) written room κ = (tt, shown_common written b o κ)
lent_common null_ptr written room κ = tt

slots_keyless : (size b o : ℕ) (slots : List (Option (List ℕ))) → Keyless (slots_own size b o slots)
slots_keyless size b o [] = tt
slots_keyless size b o (None ∷ slots) = (tt, slots_keyless size b (o + size) slots)
slots_keyless size b o (Some xs ∷ slots) = ((tt, bytes_keyless xs b o), slots_keyless size b (o + size) slots)

free_slots_keyless : (at : Ptr) (size : ℕ) (slots : List (Option (List ℕ))) → Keyless (free_slots_own at size slots)
free_slots_keyless (block_ptr b o) size slots = (tt, slots_keyless size b o slots)
free_slots_keyless null_ptr size slots = tt

pub bytes_send : IsSend B.the_row
bytes_send = let O = B.the_type in let all : AllSend (fields O) = tt in
    owning_send O all (λ d. owner_keyless d.at d.written d.room) (λ k. quiet (to O) (exits_of k (fields O)) ((struct_send (shape O) all).leaving k))

pub bytes_sync : IsSync B.the_row
bytes_sync = let O = B.the_type in record { shared = λ d b o κ. ((struct_sync (shape O) tt).shared (to O d) b o κ, lent_common d.at d.written d.room κ) }

pub allocation_send : IsSend L.the_row
allocation_send = let O = L.the_type in let all : AllSend (fields O) = tt in
    owning_send O all (λ d. frees.frees heap _ d.at) (λ k. quiet (to O) (exits_of k (fields O)) ((struct_send (shape O) all).leaving k))

pub free_slots_send : IsSend F.the_row
free_slots_send = let O = F.the_type in let all : AllSend (fields O) = tt in
    owning_send O all (λ d. free_slots_keyless d.at d.size d.slots) (λ k. quiet (to O) (exits_of k (fields O)) ((struct_send (shape O) all).leaving k))

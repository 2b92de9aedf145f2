-- A pool when it is made, after a slot was taken and after one was given back, and when it is closed.
use Rattle.std.proofs.Common.{◌≡◌, ℕ, zero, suc, ◌+◌, ◌-◌, ◌*◌, ◌^◌, ◌<◌, ◌≤◌, List, ◌∷◌, length, get_or, set, replicate, refl, sym, ap, subst, ◌∙◌, arith, Some, None, true, false, length-set}
use Rattle.std.proofs.lemmas.List.{length-map}
use lib.ListN.{drop}
use Rattle.byteorder.specs.Endian.{big_number}
use denote.RawPtr.{Ptr, block_ptr, null_ptr, ◌+ₚ◌}
use Rattle.slot_pool.specs.Pools.{free_count, live_count, Takes, Gives}
use Rattle.slot_pool.specs.Slots.{BlockName, IsByteOf}
use Rattle.slot_pool.specs.inner.FreeSlots.{slots_of}
use Rattle.slot_pool.specs.inner.Keeping.{is_free, are_free, AreSlotsOf, IsBlock, IsPool, IsSlotOf}
use Rattle.slot_pool.specs.inner.Heap.{IsRightTo}
use Rattle.slot_pool.specs.inner.Owned.{IsByteIn}
use Rattle.slot_pool.specs.inner.Links.{AreLinked, IsListOf, below}
use Rattle.slot_pool.specs.inner.Steps.{AreFree}
use Rattle.slot_pool.specs.declared.bytes.Allocation.{Allocation}
use Rattle.slot_pool.specs.declared.bytes.Bytes.{Bytes}
use Rattle.slot_pool.specs.declared.free_slots.FreeSlots.{FreeSlots}
use Rattle.slot_pool.proofs.CountLemmas.{are_free_set, free_at, live_at, taken_count, given_count, adds_up, free_of_all, all_are_free}
use Rattle.slot_pool.proofs.LinkLemmas.{shorter, longer, below_length}
use Rattle.slot_pool.proofs.SlotLemmas.{Room, slots_of_length}

pub takes : (slots new : List Room) (place : ℕ) (bytes : List ℕ) → get_or slots place None ≡ Some bytes → new ≡ set slots place None → Takes (are_free slots) place (are_free new)
takes slots new place bytes at is =
    let free = free_at slots place ∙ ap is_free at in let made = ap are_free is ∙ are_free_set slots place None in
    let old = are_free slots in let fewer : free_count (are_free new) + 1 ≡ free_count old = omega (arith, ap free_count made, taken_count old place free) in
    record { was_free = free; is_live = made; fewer_free = fewer; more_live = omega (arith, fewer, adds_up old, adds_up (are_free new), ap length made, length-set old place false) }

pub gives : (slots new : List Room) (place : ℕ) (bytes : List ℕ) → place < length slots → get_or slots place None ≡ None → new ≡ set slots place (Some bytes) → Gives (are_free slots) place (are_free new)
gives slots new place bytes within out is =
    let live = live_at slots place within out in let made = ap are_free is ∙ are_free_set slots place (Some bytes) in
    let old = are_free slots in let more = ap free_count made ∙ given_count old place live in
    record { was_live = live; is_free = made; more_free = more; fewer_live = omega (arith, more, adds_up old, adds_up (are_free new), ap length made, length-set old place true) }

module _ (block : BlockName) (at : Ptr) (slots size free first : ℕ) (owner : FreeSlots) (right : Allocation) (is : IsPool block at slots size free first owner right) where
  pub number : block.slots ≡ slots
  number = ap (λ (b : BlockName). b.slots) is.named

  pub in_all : free + live_count (are_free owner.slots) ≡ block.slots
  in_all = ap (λ n. n + live_count (are_free owner.slots)) is.counted ∙ adds_up (are_free owner.slots) ∙ length-map owner.slots is_free ∙ is.owned.count

  pub taken : (new : FreeSlots) (bytes : List ℕ) (next : ℕ) → 0 < free → get_or owner.slots first None ≡ Some bytes → AreSlotsOf block new → new.slots ≡ set owner.slots first None → next ≡ big_number 8 bytes
      → IsPool block at slots size (free - 1) next new right
  taken new bytes next some there owned made says =
      let step = takes owner.slots new.slots first bytes there made in
      record {
        named = is.named;
        few = is.few;
        owned = owned;
        counted = omega (arith, is.counted, step.fewer_free, some);
        listed = subst (λ l. IsListOf l next (free - 1)) (sym made) (shorter owner.slots first free next bytes there says some is.listed);
        frees = is.frees;
      }

  pub given : (new : FreeSlots) (place : ℕ) (bytes : List ℕ) → place < block.slots → get_or owner.slots place None ≡ None → AreSlotsOf block new → new.slots ≡ set owner.slots place (Some bytes) → big_number 8 bytes ≡ first
      → IsPool block at slots size (free + 1) place new right
  given new place bytes within out owned made says =
      let inside : place < length owner.slots = omega (arith, within, is.owned.count) in
      let step = gives owner.slots new.slots place bytes inside out made in
      record {
        named = is.named;
        few = is.few;
        owned = owned;
        counted = omega (arith, is.counted, step.more_free);
        listed = subst (λ l. IsListOf l place (free + 1)) (sym made) (longer owner.slots place first free bytes out inside says is.listed);
        frees = is.frees;
      }

  -- where a slot is live, one more may be free
  pub one_fits : (place : ℕ) → place < block.slots → get_or owner.slots place None ≡ None → free + 1 < 2 ^ 32
  one_fits place within out =
      let inside : place < length owner.slots = omega (arith, within, is.owned.count) in
      let more = given_count (are_free owner.slots) place (live_at owner.slots place inside out) in
      let all = adds_up (set (are_free owner.slots) place true) in
      omega (arith, is.counted, more, all, length-set (are_free owner.slots) place true, length-map owner.slots is_free, is.owned.count, number, is.few)

  pub closes : slots ≤ free → AreFree owner.slots
  closes most = all_are_free owner.slots (omega (arith, is.counted, adds_up (are_free owner.slots), length-map owner.slots is_free, is.owned.count, number, most))

  pub none_live : slots ≤ free → live_count (are_free owner.slots) ≡ 0
  none_live most = omega (arith, in_all, number, most)

  pub some_live : free < slots → live_count (are_free owner.slots) ≡ 0 → ⊥
  some_live less none = omega (arith, in_all, number, less, none)

-- a pool of which every slot is free
pub all_are_listed : (block : BlockName) (at : Ptr) (slots size first : ℕ) (owner : FreeSlots) (right : Allocation) → block ≡ record { at = at; slots = slots; size = size } → slots < 2 ^ 32 → AreSlotsOf block owner
    → are_free owner.slots ≡ replicate slots true → AreLinked owner.slots first (below slots) → IsRightTo at (slots * size) right → IsPool block at slots size slots first owner right
all_are_listed block at slots size first owner right named few owned free linked frees = record {
  named = named;
  few = few;
  owned = owned;
  counted = sym (ap free_count free ∙ free_of_all slots);
  listed = (below slots, linked, below_length slots);
  frees = frees;
}

pub each_free : (count size : ℕ) (xs : List ℕ) → are_free (slots_of count size xs) ≡ replicate count true
each_free zero size xs = refl
each_free (suc count) size xs = ap (λ l. true ∷ l) (each_free count size (drop size xs))

-- the slots of a block that was cut
pub cut_slots : (block : BlockName) (at : Ptr) (slots size : ℕ) (bytes : Bytes) (right : Allocation) (owner : FreeSlots) → block ≡ record { at = at; slots = slots; size = size } → IsBlock at slots size bytes right
    → owner.at ≡ bytes.at → owner.size ≡ size → owner.slots ≡ slots_of slots size bytes.written → AreSlotsOf block owner
cut_slots block at slots size bytes right owner named is lies sized made = subst (λ b. AreSlotsOf b owner) (sym named) (record {
  lie = lies ∙ is.lies;
  sized = sized;
  count = ap length made ∙ slots_of_length slots size bytes.written;
  roomy = is.roomy;
  placed = is.placed;
  small = is.small;
})

twice_on : (p : Ptr) (m n : ℕ) → p +ₚ (m + n) ≡ p +ₚ m +ₚ n
twice_on (block_ptr b o) m n = let same : o + (m + n) ≡ o + m + n = omega arith in ap (block_ptr b) same
twice_on null_ptr m n = refl

-- a byte of the slot is one of those that its owner has
pub byte_of_slot : (block : BlockName) (place size : ℕ) (at : Ptr) (bytes : Bytes) → IsSlotOf block place size at bytes → (byte : Ptr) → IsByteOf block place byte → IsByteIn bytes.at bytes.written byte
byte_of_slot block place size at bytes is byte (k, within, lies) =
    let start : block.at +ₚ (place * block.size) ≡ bytes.at = ap (λ n. block.at +ₚ (place * n)) (sym is.sized) ∙ sym is.lies in
    (k, omega (arith, within, is.long, is.sized), lies ∙ twice_on block.at (place * block.size) k ∙ ap (λ (p : Ptr). p +ₚ k) start)

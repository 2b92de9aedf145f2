-- What a slot ends as, once a `&mut` to its bytes has ended (own).
use Rattle.std.specs.Prelude.{ℕ, List, length}
use Rattle.std.specs.Borrow.{Fml, RattleType, MutBor, Array, Lends, u8}
use Rattle.std.specs.List.{refill}
use Rattle.slot_pool.specs.Slots.{SlotSeen}
use Rattle.slot_pool.specs.declared.slot.PoolName.{Ghosts}
use Rattle.slot_pool.specs.contracts.slot.Slot.{the_row}

-- the same slot, with other bytes, as many as it has
abbrev pub with_bytes : SlotSeen → List ℕ → SlotSeen
with_bytes slot bytes = record { place = slot.place; bytes = refill (length slot.bytes) slot.bytes bytes }

-- the slot's bytes end as those of what was lent
abbrev pub lends_bytes : (P : RattleType) → Ghosts P.Denot → MutBor SlotSeen → MutBor (List ℕ) → Fml
lends_bytes P named slot lent = Lends (the_row P named) (Array u8 0) slot lent (with_bytes slot.now)

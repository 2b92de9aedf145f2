-- What bytes end as, once a `&mut` to them has ended (own).
use Rattle.std.specs.Prelude.{List, ℕ, length}
use Rattle.std.specs.Borrow.{Fml, MutBor, Array, Lends, u8}
use Rattle.std.specs.List.{refill}
use Rattle.slot_pool.specs.declared.bytes.Bytes.{Bytes}
use Rattle.slot_pool.specs.contracts.bytes.Bytes.{the_row}

-- the same places, with other bytes
abbrev pub rewritten : Bytes → List ℕ → Bytes
rewritten old bytes = record { at = old.at; written = refill (length old.written) old.written bytes; room = old.room }

abbrev pub lends_all : MutBor Bytes → MutBor (List ℕ) → Fml
lends_all owner lent = Lends the_row (Array u8 0) owner lent (rewritten owner.now)

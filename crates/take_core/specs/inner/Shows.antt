-- The numbers that memory keeps beside a history.
use Rattle.std.specs.Prelude.{◌≡◌, ℕ, List}
use Rattle.take_core.specs.History.{published_in, acked_in, phase_in}
use Rattle.take_core.specs.declared.entry.Entry.{Entry}
use Rattle.take_core.specs.declared.snapshot.Phase.{Phase}

-- the numbers are those that the entries show
pub record Shows (entries : List Entry) (published acked : ℕ) (phase : Phase) : Type 0 where
  pub frames : published ≡ published_in entries
  pub durable : acked ≡ acked_in entries
  pub going : phase ≡ phase_in entries

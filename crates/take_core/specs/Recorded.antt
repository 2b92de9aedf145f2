-- A history in memory (own). docs/ARCHITECTURE.md, "The events of a take".
use Rattle.std.specs.Prelude.{ℕ, List}
use Rattle.take_core.specs.declared.entry.Entry.{Entry}

-- the entries, and the number for which memory was taken
pub record Recorded : Type 0 where
  pub entries : List Entry
  pub room : ℕ

-- What memory keeps of the growing file of a take (own). docs/ARCHITECTURE.md, "A take's file".
use Rattle.std.specs.Prelude.{ℕ, List}
use Rattle.rec_bytes.specs.Configuration.{Fields}
use Rattle.take_layout.specs.declared.place.Place.{Place}

-- the take's configuration, where the units lie that the file has, and the number of places that memory was taken for
pub record Growing : Type 0 where
  pub config : Fields
  pub places : List Place
  pub room : ℕ

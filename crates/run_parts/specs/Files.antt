-- The file of a take that is being written (own). docs/ARCHITECTURE.md, "A take's file".
use Rattle.std.specs.Prelude.{List}
use Rattle.rec_bytes.specs.Configuration.{Fields}
use Rattle.take_layout.specs.declared.place.Place.{Place}

-- a file that is being written: the take's configuration, and where the units lie that it has
pub record Growing : Type 0 where
  pub config : Fields
  pub places : List Place

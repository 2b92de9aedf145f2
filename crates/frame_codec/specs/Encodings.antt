-- What an encoder of frames shows (own).
use Rattle.std.specs.Prelude.{ℕ, List}
use Rattle.rec_bytes.specs.Configuration.{Fields}

-- the configuration, and the bytes of the frame that was written last
pub record Encoding : Type 0 where
  pub config : Fields
  pub frame : List ℕ

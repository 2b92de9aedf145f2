-- What a writer has put of bits that are wanted (own).
use Rattle.std.specs.Prelude.{◌≡◌, ◌≤◌, ℕ, List, ◌++◌, length}
use Rattle.bit_io.specs.declared.writer.BitWriter.{BitWriter}
use Rattle.bit_io.specs.Written.{Puts, room}

-- a front of the bits is put, and of the rest this holds
pub record Wrote (start now : BitWriter) (remains : List ℕ → Type 0) (whole : List ℕ) : Type 0 where
  pub done : List ℕ
  pub rest : List ℕ
  pub put : Puts start now done
  pub fits : length done ≤ room start
  pub tail : remains rest
  pub joined : whole ≡ done ++ rest

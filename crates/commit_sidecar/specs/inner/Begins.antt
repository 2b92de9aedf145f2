-- What reading a record sees.
use Rattle.std.specs.Prelude.{◌≡◌, List, ℕ, ◌++◌}
use Rattle.take_core.specs.declared.mark.Mark.{Mark}
use Rattle.commit_sidecar.specs.Notes.{note_of, Fits}

-- the bytes begin with the note of a mark
pub record BeginsNote (bytes : List ℕ) (mark : Mark) : Type 0 where
  pub fits : Fits mark
  pub rest : List ℕ
  pub is : bytes ≡ note_of mark ++ rest

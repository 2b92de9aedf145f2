-- An item of which something is kept (own). Private functions alone cite this.
use Rattle.std.specs.Prelude.{◌≡◌, ℕ, List}
use Rattle.mxf_op1a.specs.Contents.{Placed}
use Rattle.mxf_op1a.specs.Whole.{StandsIn}
use Rattle.mxf_reader.specs.declared.mark.Mark.{Mark}
use Rattle.mxf_reader.specs.inner.Marks.{mark_of}

-- an item stands in a file, and this is kept of it
pub record IsMarkOf (bytes : List ℕ) (m : Mark) (p : Placed) : Type 0 where
  pub stands : StandsIn bytes p
  pub is : m ≡ mark_of p

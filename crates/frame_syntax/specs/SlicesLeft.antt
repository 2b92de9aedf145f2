-- The slices of a frame that are left to be read. docs/formats/frames.md, "Frames".
use Rattle.std.specs.Prelude.{ℕ, List}
use Rattle.frame_syntax.specs.Pictures.{Span}

-- a frame's bytes, and those of its slices that are left
pub record SlicesLeft : Type 0 where
  pub bytes : List ℕ
  pub left : List Span

-- these slices are left of these bytes
abbrev pub slices_left : List ℕ → List Span → SlicesLeft
slices_left bytes left = record { bytes = bytes; left = left }

-- A set of the metadata as it stands in a file (SMPTE ST 377-1). docs/FORMATS.md, "Metadata".
use Rattle.std.specs.Prelude.{ℕ, List}
use Rattle.local_sets.specs.Sets.{RawItem}

-- its kind, which is a byte of its key, and its items
pub record RawSet : Type 0 where
  pub kind : ℕ
  pub items : List RawItem

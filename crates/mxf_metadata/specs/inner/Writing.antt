-- Sets that stand at a place (own).
use Rattle.std.specs.Prelude.{◌≡◌, ℕ, ◌+◌, List, length}
use Rattle.std.specs.List.{flat_map}
use Rattle.rec_bytes.specs.Places.{with_bytes}
use Rattle.mxf_metadata.specs.Metadata.{Set, set_bytes}

-- the sets were written at a place, one behind the other, up to this end, and every other byte is as it was
pub record Written (old : List ℕ) (at : ℕ) (sets : List Set) (end : ℕ) (now : List ℕ) : Type 0 where
  pub place : end ≡ at + length (flat_map set_bytes sets)
  pub bytes : now ≡ with_bytes old at (flat_map set_bytes sets)

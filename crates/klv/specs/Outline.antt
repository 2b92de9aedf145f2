-- Bytes as items, as far as they go (own). docs/FORMATS.md, "Items".
use Rattle.std.specs.Prelude.{◌≡◌, ◌⊎◌, ℕ, List, [], ◌++◌}
use Rattle.std.specs.List.{flat_map, AllByRecursion}
use Rattle.klv.specs.Items.{Item, IsItem, spelled}
use Rattle.klv.specs.Reads.{HasItemAt}

-- the bytes are these items and a rest: nothing, or bytes at whose front no item stands
pub record Outline (bytes : List ℕ) : Type 0 where
  pub items : List Item
  pub each : AllByRecursion IsItem items
  pub rest : List ℕ
  pub bytes_are : bytes ≡ flat_map spelled items ++ rest
  pub ends : (rest ≡ []) ⊎ ¬ HasItemAt rest 0

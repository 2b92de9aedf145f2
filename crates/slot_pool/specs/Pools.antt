-- A pool as callers see it, a list that says for each slot whether it is free, and what its calls change (own).
use Rattle.std.specs.Prelude.{◌≡◌, ℕ, ◌+◌, Bool, true, false, List, [], ◌∷◌, get_or, slice_set}

-- how many slots are free
unfoldable pub free_count : List Bool → ℕ
free_count [] = 0
free_count (true ∷ slots) = free_count slots + 1
free_count (false ∷ slots) = free_count slots

-- how many are live
unfoldable pub live_count : List Bool → ℕ
live_count [] = 0
live_count (true ∷ slots) = live_count slots
live_count (false ∷ slots) = live_count slots + 1

-- the slot at the place was free, and is live now; every other is as it was
pub record Takes (old : List Bool) (place : ℕ) (new : List Bool) : Type 0 where
  pub was_free : get_or old place false ≡ true
  pub is_live : new ≡ slice_set old place false
  pub fewer_free : free_count new + 1 ≡ free_count old
  pub more_live : live_count new ≡ live_count old + 1

-- the slot at the place was live, and is free now; every other is as it was
pub record Gives (old : List Bool) (place : ℕ) (new : List Bool) : Type 0 where
  pub was_live : get_or old place true ≡ false
  pub is_free : new ≡ slice_set old place true
  pub more_free : free_count new ≡ free_count old + 1
  pub fewer_live : live_count new + 1 ≡ live_count old

-- What a source has given and has left, where it tells them (own). docs/ARCHITECTURE.md, "The outside".
use Rattle.std.specs.Prelude.{◌≡◌, ℕ, ◌<◌, ◌≤◌, List, [], ◌++◌, length, take, drop}
use Rattle.std.specs.Prelude.{Option, Some, None, Result, Ok, Err}

-- the bytes given and the bytes left
pub record Told : Type 0 where
  pub given : List ℕ
  pub left : List ℕ

-- the bytes told are those of the feed, and both tell or neither does
abbrev pub IsOf : Option (List ℕ) → Option Told → Type 0
IsOf None None = Unit {0}
IsOf None (Some told) = ⊥
IsOf (Some bytes) None = ⊥
IsOf (Some bytes) (Some told) = told.given ++ told.left ≡ bytes

-- n more bytes were given
abbrev pub after : ℕ → Told → Told
after n told = record { given = told.given ++ take n told.left; left = drop n told.left }

-- n bytes went to the front of the buffer; none only where nothing is left
pub record Gives (n : ℕ) (old : Told) (new : Option Told) (out : List ℕ) : Type 0 where
  pub most : n ≤ length old.left
  pub moved : new ≡ Some (after n old)
  pub bytes : take n out ≡ take n old.left
  pub ended : n ≡ 0 → 0 < length out → old.left ≡ []

-- what a read does to what is told: who doesn't tell goes on not telling, and a failed read gives nothing
abbrev pub Reads : {E : Type 0} → Option Told → Option Told → Result ℕ E → List ℕ → Type 0
Reads None new result out = new ≡ None
Reads (Some old) new (Ok n) out = Gives n old new out
Reads (Some old) new (Err e) out = new ≡ Some old

-- so many of the bytes were given, and the others are left
abbrev pub told_from : ℕ → List ℕ → Option Told
told_from at bytes = Some (record { given = take at bytes; left = drop at bytes })

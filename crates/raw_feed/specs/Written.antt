-- What a sink has taken, where it tells it (own). docs/ARCHITECTURE.md, "The outside".
use Rattle.std.specs.Prelude.{◌≡◌, ◌<◌, ℕ, List, ◌++◌, length, take, Option, Some, None, Result, Ok, Err}

-- one write took the front of a piece, and a failed one nothing
abbrev pub Takes : {E : Type 0} → Option (List ℕ) → Option (List ℕ) → Result ℕ E → List ℕ → Type 0
Takes None new result piece = new ≡ None
Takes (Some old) new (Ok n) piece = new ≡ Some (old ++ take n piece)
Takes (Some old) new (Err e) piece = new ≡ Some old

-- a piece was written: all of it, or where the sink failed a front that lacks a byte at least
abbrev pub Writes : {E : Type 0} → Option (List ℕ) → Option (List ℕ) → Result (Unit {0}) E → List ℕ → Type 0
Writes None new result piece = new ≡ None
Writes (Some old) new (Ok done) piece = new ≡ Some (old ++ piece)
Writes (Some old) new (Err e) piece =
    (front back : List ℕ) × (piece ≡ front ++ back) × (new ≡ Some (old ++ front)) × (0 < length back)

-- What a run adds to a sink (own). docs/ARCHITECTURE.md, "The run".
use Rattle.std.specs.Prelude.{◌≡◌, ◌≢◌, ℕ, List, [], ◌++◌, Option, Some, None}

-- a sink that tells has these bytes more
abbrev pub Gains : Option (List ℕ) → Option (List ℕ) → List ℕ → Type 0
Gains None now written = now ≡ None
Gains (Some old) now written = now ≡ Some (old ++ written)

-- a sink that tells lacks some of the bytes that were for it: these
abbrev pub Lacks : Option (List ℕ) → List ℕ → Type 0
Lacks None missing = Unit {0}
Lacks (Some old) missing = missing ≢ []

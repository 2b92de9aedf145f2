-- Half steps by sizes and signs (own).
use Rattle.std.specs.Prelude.{◌≡◌, ℕ, ℤ, List, slice_index}
use Rattle.prores_scan.specs.HalfSteps.{IsSized, half_steps_of}

-- the half steps of whatever coefficient has the size and the sign at a place
pub record IsWeighed (sizes signs : List ℕ) (n weight half_steps : ℕ) : Type 0 where
  pub value : (g : ℤ) → IsSized g (slice_index sizes n) (slice_index signs n) → half_steps ≡ half_steps_of g weight

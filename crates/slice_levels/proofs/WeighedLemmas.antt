-- Half steps by sizes and signs.
use Rattle.std.proofs.Common.{◌≡◌, ℕ, ◌+◌, ◌*◌, sym, subst, List}
use Rattle.slice_levels.specs.inner.Weighed.{IsWeighed}

-- the same half steps at the same place by the same weight
pub weighed_as : (sizes signs : List ℕ) (p q weight divisor given value lane : ℕ) → p ≡ q → divisor ≡ weight → value ≡ given
    → IsWeighed sizes signs (8 * p + lane) divisor given → IsWeighed sizes signs (8 * q + lane) weight value
weighed_as sizes signs p q weight divisor given value lane place same kept weighed =
    subst (λ (n : ℕ). IsWeighed sizes signs (8 * q + lane) weight n) (sym kept)
    (subst (λ (n : ℕ). IsWeighed sizes signs (8 * q + lane) n given) same
    (subst (λ (n : ℕ). IsWeighed sizes signs (8 * n + lane) divisor given) place weighed))

-- Lemmas on specs/Levels.antt.
use Rattle.std.proofs.Common.{◌≡◌, ℕ, ◌+◌, ◌/◌, ◌^◌, ◌<◌, ◌≤◌, arith, pos, ◌*ℤ◌, to_z, of_z, w64, FitsSigned, List, true, ltb, slice_index_or}
use Rattle.std.specs.Prelude.{ℤ}
use Rattle.std.specs.Int.RustNames.{unsigned_abs}
use Rattle.std.proofs.lemmas.Int.{to_z-of_z, fits_signed_mul, fits_signed_from_abs}
use Rattle.std.proofs.lemmas.Nat.{div_below}
use Rattle.std.proofs.lemmas.Bool.{agree_below, agree_below_at, ltb-true}
use Rattle.prores_scan.specs.Levels.{nearest_quotient}

-- the quotient of a coefficient is small
pub quotient_small : (size step : ℕ) → size < 2 ^ 41 → 2 ^ 27 ≤ step → nearest_quotient size step < 2 ^ 31
quotient_small size step small least = div_below (size + step / 2) step (2 ^ 31) (omega arith) (omega arith)

-- what the code multiplies is the product, where both factors are small
pub multiplied : (level given : ℤ) (factor : ℕ) → unsigned_abs level < 2 ^ 40 → factor ≤ 2 ^ 17 → given ≡ pos factor
    → to_z w64 (of_z w64 (to_z w64 (of_z w64 level) *ℤ to_z w64 (of_z w64 given))) ≡ level *ℤ pos factor
multiplied level given factor small low e =
    let level_fits = fits_signed_from_abs w64 level (omega arith) in
    let factor_fits : FitsSigned w64 (pos factor) = fits_signed_from_abs w64 (pos factor) (omega arith) in
    let fits = fits_signed_mul w64 level (pos factor) (2 ^ 40) (2 ^ 17) (omega arith) (omega arith) (omega arith) in
    rw e (simp to_z-of_z)

-- written-out numbers are small, by computation
pub small_sizes : (zs : List ℤ) (bound count : ℕ)
    → agree_below (λ n. ltb (unsigned_abs (slice_index_or zs n (pos 0))) bound) (λ n. true) count ≡ true
    → (n : ℕ) → n < count → unsigned_abs (slice_index_or zs n (pos 0)) < bound
small_sizes zs bound count test n h =
    ltb-true _ _ (agree_below_at (λ n. ltb (unsigned_abs (slice_index_or zs n (pos 0))) bound) (λ n. true) count n test h)

use Rattle.std.proofs.Common.{◌≡◌, ◌≢◌, ℕ, zero, suc, ℤ, pos, neg_ℤ, ◌/◌, ◌%◌, ◌==◌, ◌≤◌, ◌<◌, List, [], ◌∷◌, length, take, refl, sym, ap, arith, if◌then◌else◌, slice_index}
use Rattle.std.proofs.lemmas.List.{length-map, take-map}
use Rattle.std.specs.Int.RustNames.{unsigned_abs}
use Rattle.prores_scan.specs.ScaledLevels.{signed_of}
use Rattle.slice_parts.specs.Pairs.{sign_bit}
use Rattle.slice_parts.specs.Component.{signed_levels, level_at}

-- the level of the number at a place; behind the last both are 0
pub signed_at : (numbers : List ℕ) (k : ℕ) → level_at (signed_levels numbers) k ≡ signed_of (slice_index numbers k)
signed_at [] k = refl
signed_at (n ∷ numbers) zero = refl
signed_at (n ∷ numbers) (suc k) = signed_at numbers k

-- as many levels as numbers
pub signed_long : (numbers : List ℕ) → length (signed_levels numbers) ≡ length numbers
signed_long numbers = length-map numbers signed_of

-- the numbers 0 and 1 both mean 0
pub zero_of : (n : ℕ) → n ≤ 1 → signed_of n ≡ pos 0
zero_of zero h = refl
zero_of (suc zero) h = refl
zero_of (suc (suc n)) h = absurd (omega (arith, h))

-- the sign by the last bit, the size above it
pub record IsSigned (n : ℕ) (level : ℤ) : Type 0 where
  pub some : level ≢ pos 0
  pub size : unsigned_abs level ≡ n / 2
  pub sign : sign_bit level ≡ n % 2

pub signed_is : (n : ℕ) → 2 ≤ n → IsSigned n (signed_of n)
signed_is n h =
    let is = cases (n / 2) (n % 2) (omega (arith, h)) (omega arith) in
    record { some = is.0; size = is.1; sign = is.2 }
  where
    cases : (half bit : ℕ) → 1 ≤ half → bit < 2 → (some : (if bit == 0 then pos half else neg_ℤ (pos half)) ≢ pos 0) × (unsigned_abs (if bit == 0 then pos half else neg_ℤ (pos half)) ≡ half) × (sign_bit (if bit == 0 then pos half else neg_ℤ (pos half)) ≡ bit)
    cases zero bit some small = absurd (omega (arith, some))
    cases (suc half) zero some small = ((λ e. absurd (omega (arith, ap unsigned_abs e))), refl, refl)
    cases (suc half) (suc zero) some small = ((λ e. absurd (omega (arith, ap sign_bit e))), refl, refl)
    cases (suc half) (suc (suc bit)) some small = absurd (omega (arith, small))

-- the levels of the first numbers are the first levels
pub signed_front : (n : ℕ) (numbers : List ℕ) → signed_levels (take n numbers) ≡ take n (signed_levels numbers)
signed_front n numbers = sym (take-map signed_of n numbers)

-- Laws of levels and their products: proved here, for proofs to cite.
use Rattle.std.proofs.Common.{◌≡◌, ℕ, zero, suc, ◌+◌, ◌-◌, ◌*◌, ◌/◌, ◌%◌, ◌^◌, ◌<◌, ◌≤◌, refl, ap, ◌∙◌, arith, pos, negsuc, ◌*ℤ◌, neg_ℤ}
use Rattle.std.specs.Prelude.{ℤ}
use Rattle.std.specs.Int.RustNames.{unsigned_abs}
use Rattle.std.proofs.lemmas.Int.{ints}
use Rattle.std.proofs.lemmas.Nat.{mul-le, div-add-mod', mod_below}
use Rattle.std.proofs.Math.Nat.{mul_assoc, mul_left_comm}
use Rattle.prores_scan.specs.Levels.{step_of, with_sign_of, nearest_quotient, level_of, product_of, distance, IsNearest}

-- a size with a sign has that size
pub abs-with_sign_of : (g : ℤ) (size : ℕ) → unsigned_abs (with_sign_of g size) ≡ size
abs-with_sign_of (pos n) size = refl
abs-with_sign_of (negsuc n) zero = refl
abs-with_sign_of (negsuc n) (suc size) = refl

-- a size with a minus, times a step
neg_pos-mul : (size step : ℕ) → neg_ℤ (pos size) *ℤ pos step ≡ neg_ℤ (pos (size * step))
neg_pos-mul zero step = omega (arith, ints)
neg_pos-mul (suc size) step = refl

-- how far a coefficient is from that of a level of its own sign
distance-with_sign_of : (g : ℤ) (step size : ℕ)
    → distance g step (with_sign_of g size) ≡ (unsigned_abs g - size * step) + (size * step - unsigned_abs g)
distance-with_sign_of (pos n) step size = omega (arith, ints)
distance-with_sign_of (negsuc n) step size = rw neg_pos-mul (omega (arith, ints))

-- a step's half, twice
step_even : (weight scale : ℕ) → (half : ℕ) × (step_of weight scale ≡ 2 * half)
step_even weight scale =
    let double : 2 ^ 26 * weight ≡ 2 * (2 ^ 25 * weight) = omega arith in
    (2 ^ 25 * weight * scale, ap (λ (n : ℕ). n * scale) double ∙ mul_assoc 2 (2 ^ 25 * weight) scale)

-- rounding the size is rounding the coefficient
level_is_nearest : (g : ℤ) (step half size : ℕ) → 0 < step → step ≡ 2 * half → size ≡ nearest_quotient (unsigned_abs g) step
    → IsNearest g step (with_sign_of g size)
level_is_nearest g step half size positive even e =
    let n = unsigned_abs g in
    let split : size * step + (n + step / 2) % step ≡ n + step / 2 = rw e (div-add-mod' (n + step / 2) step) in
    let below : (n + step / 2) % step < step = mod_below (n + step / 2) step positive in
    let far = distance-with_sign_of g step size in
    let same = abs-with_sign_of g size in
    record {
      nearest = omega (arith, far, split, below, even);
      away = λ tie. rw same (omega (arith, far, split, below, even, tie));
    }

-- a level is the nearest
pub level_of_is_nearest : (g : ℤ) (weight scale : ℕ) → 1 ≤ weight → 1 ≤ scale → IsNearest g (step_of weight scale) (level_of g weight scale)
level_of_is_nearest g weight scale some more =
    let even = step_even weight scale in
    let positive : 2 ^ 26 * 1 ≤ 2 ^ 26 * weight * scale = mul-le (2 ^ 26) 1 (2 ^ 26 * weight) scale (omega arith) more in
    level_is_nearest g (step_of weight scale) even.0 (nearest_quotient (unsigned_abs g) (step_of weight scale)) (omega arith) even.1 refl

-- a product has the sizes of its level, weight and scale
pub abs-product_of : (level : ℤ) (weight scale : ℕ) → unsigned_abs (product_of level weight scale) ≡ unsigned_abs level * (weight * scale)
abs-product_of (pos n) weight scale = refl
abs-product_of (negsuc n) weight scale = omega (arith, ints)

-- a size that rounds to the nearest is at most half a step too great
size_is_near : (g : ℤ) (step size : ℕ) → 2 * distance g step (with_sign_of g size) ≤ step → 2 * (size * step) ≤ 2 * unsigned_abs g + step
size_is_near g step size near = omega (arith, near, distance-with_sign_of g step size)

-- the product of a coefficient's own level is at most half a weight and scale above the coefficient over 2 ^ 26
pub own_product_is_near : (g : ℤ) (weight scale : ℕ) → 1 ≤ weight → 1 ≤ scale
    → 2 ^ 26 * unsigned_abs (product_of (level_of g weight scale) weight scale) ≤ unsigned_abs g + 2 ^ 25 * (weight * scale)
own_product_is_near g weight scale some more =
    let step = step_of weight scale in
    let size = nearest_quotient (unsigned_abs g) step in
    let near = size_is_near g step size (level_of_is_nearest g weight scale some more).nearest in
    let whole : size * step ≡ 2 ^ 26 * (size * (weight * scale)) =
    ap (λ n. size * n) (mul_assoc (2 ^ 26) weight scale) ∙ mul_left_comm size (2 ^ 26) (weight * scale) in
    let half : step ≡ 2 ^ 26 * (weight * scale) = mul_assoc (2 ^ 26) weight scale in
    rw (abs-product_of (level_of g weight scale) weight scale, abs-with_sign_of g size) (omega (arith, near, whole, half))

-- the products of our own levels have 16 bits: a coefficient of samples is 512 * 46344 ^ 2 at most, and a weight of ours 18
pub own_products_are_small : (g : ℤ) (weight scale : ℕ)
    → unsigned_abs g ≤ 512 * 46344 ^ 2 → 4 ≤ weight → weight ≤ 18 → 1 ≤ scale → scale ≤ 512
    → unsigned_abs (product_of (level_of g weight scale) weight scale) < 2 ^ 15
own_products_are_small g weight scale small least most some few =
    let near = own_product_is_near g weight scale (omega arith) some in
    let product : weight * scale ≤ 18 * 512 = mul-le weight scale 18 512 most few in
    omega (arith, near, product, small)

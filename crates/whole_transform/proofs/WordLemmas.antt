-- Numbers of a width of bits that are kept as they are.
use Rattle.std.proofs.Common.{◌≡◌, ◌∙◌, ◌≤◌, ◌<◌, ◌+◌, ◌*◌, ◌^◌, ℕ, ℤ, pos, negsuc, ◌+ℤ◌, ◌-ℤ◌, ◌*ℤ◌, sym, subst, arith, lit≤, w16, w32, to_z, of_z, FitsSigned}
use Rattle.std.specs.Int.{Width}
use mir.Val.{hbits}
use Rattle.std.specs.Int.RustNames.{unsigned_abs}
use Rattle.std.proofs.lemmas.Int.{ints, to_z-of_z, fits_signed_from_abs}
use Rattle.whole_transform.proofs.SumLemmas.{abs-mul-le}

-- a number of less than half the range of a width is a number of that width
pub small_fits : (w : Width) (x : ℤ) (m : ℕ) → m < 2 ^ hbits w → unsigned_abs x ≤ m → FitsSigned w x
small_fits w x m lt small = fits_signed_from_abs w x (omega arith)

-- it is kept as it is
pub kept : (w : Width) (x : ℤ) (m : ℕ) → m < 2 ^ hbits w → unsigned_abs x ≤ m → to_z w (of_z w x) ≡ x
kept w x m lt small = to_z-of_z w x (small_fits w x m lt small)

pub kept_small : (w : Width) (x : ℤ) (m : ℕ) → m < 2 ^ hbits w → unsigned_abs x ≤ m → unsigned_abs (to_z w (of_z w x)) ≤ m
kept_small w x m lt small = let fits = small_fits w x m lt small in simp to_z-of_z small

-- the code's sum and difference
pub sum_kept : (w : Width) (x y : ℤ) (m : ℕ) → m + m < 2 ^ hbits w → unsigned_abs x ≤ m → unsigned_abs y ≤ m →
    to_z w (of_z w (to_z w (of_z w x) +ℤ to_z w (of_z w y))) ≡ x +ℤ y
sum_kept w x y m lt p q =
    let x_fits = small_fits w x m (omega arith) p in
    let y_fits = small_fits w y m (omega arith) q in
    let fits : FitsSigned w (x +ℤ y) = small_fits w _ (m + m) lt (omega (arith, ints)) in
    simp to_z-of_z

pub difference_kept : (w : Width) (x y : ℤ) (m : ℕ) → m + m < 2 ^ hbits w → unsigned_abs x ≤ m → unsigned_abs y ≤ m →
    to_z w (of_z w (to_z w (of_z w x) -ℤ to_z w (of_z w y))) ≡ x -ℤ y
difference_kept w x y m lt p q =
    let x_fits = small_fits w x m (omega arith) p in
    let y_fits = small_fits w y m (omega arith) q in
    let fits : FitsSigned w (x -ℤ y) = small_fits w _ (m + m) lt (omega (arith, ints)) in
    simp to_z-of_z

pub sum_small : (w : Width) (x y : ℤ) (m : ℕ) → m + m < 2 ^ hbits w → unsigned_abs x ≤ m → unsigned_abs y ≤ m →
    unsigned_abs (to_z w (of_z w (to_z w (of_z w x) +ℤ to_z w (of_z w y)))) ≤ m + m
sum_small w x y m lt p q = rw (sum_kept w x y m lt p q) (omega (arith, ints))

pub difference_small : (w : Width) (x y : ℤ) (m : ℕ) → m + m < 2 ^ hbits w → unsigned_abs x ≤ m → unsigned_abs y ≤ m →
    unsigned_abs (to_z w (of_z w (to_z w (of_z w x) -ℤ to_z w (of_z w y)))) ≤ m + m
difference_small w x y m lt p q = rw (difference_kept w x y m lt p q) (omega (arith, ints))

-- the code's sum, where the sizes together are small
pub sum_kept_by : (w : Width) (x y : ℤ) → unsigned_abs x + unsigned_abs y < 2 ^ hbits w →
    to_z w (of_z w (to_z w (of_z w x) +ℤ to_z w (of_z w y))) ≡ x +ℤ y
sum_kept_by w x y lt =
    let x_fits : FitsSigned w x = fits_signed_from_abs w x (omega arith) in
    let y_fits : FitsSigned w y = fits_signed_from_abs w y (omega arith) in
    let fits : FitsSigned w (x +ℤ y) = fits_signed_from_abs w _ (omega (arith, ints)) in
    simp to_z-of_z

-- a number of one width in a greater one
pub widened : (v w : Width) (x r : ℤ) → 2 ^ hbits v ≤ 2 ^ hbits w → FitsSigned v x → r ≡ to_z v (of_z v x) → to_z w (of_z w r) ≡ x
widened v w x r le fits e =
    let same : r ≡ x = e ∙ to_z-of_z v x fits in
    let wide : FitsSigned w x = record { sfits = omega (arith, fits.sfits) } in
    subst (λ (z : ℤ). to_z w (of_z w z) ≡ x) (sym same) (to_z-of_z w x wide)

-- the size of a 16-bit number
pub size_of_16 : (x : ℤ) → FitsSigned w16 x → unsigned_abs x ≤ 2 ^ 15
size_of_16 (pos n) fits = omega (arith, fits.sfits)
size_of_16 (negsuc n) fits = omega (arith, fits.sfits)

pub widened_small : (x r : ℤ) → FitsSigned w16 x → r ≡ to_z w16 (of_z w16 x) → unsigned_abs (to_z w32 (of_z w32 r)) ≤ 2 ^ 15
widened_small x r fits e = subst (λ (z : ℤ). unsigned_abs z ≤ 2 ^ 15) (sym (widened w16 w32 x r (lit≤ tt) fits e)) (size_of_16 x fits)

-- a sum of halves, part by part
pub joined_kept : {a b c d : ℤ} → a ≡ b → c ≡ d → pos 65536 *ℤ a +ℤ c ≡ pos 65536 *ℤ b +ℤ d
joined_kept p q = cc

-- two products of a number up to 8035 in size and a small one, and their sum
pub record Products (w : Width) (size : ℕ) (p a q b : ℤ) : Type 0 where
  pub first_fits : FitsSigned w (p *ℤ a)
  pub second_fits : FitsSigned w (q *ℤ b)
  pub sum_fits : FitsSigned w (p *ℤ a +ℤ q *ℤ b)
  pub small : unsigned_abs (p *ℤ a +ℤ q *ℤ b) ≤ 2 * (8035 * size)

pub products_of : (w : Width) (size : ℕ) (p a q b : ℤ) → 2 * (8035 * size) < 2 ^ hbits w →
    (unsigned_abs p ≤ 8035) × (unsigned_abs a ≤ size) → (unsigned_abs q ≤ 8035) × (unsigned_abs b ≤ size) → Products w size p a q b
products_of w size p a q b lt first second =
    let first_small = abs-mul-le p a 8035 size first.0 first.1 in
    let second_small = abs-mul-le q b 8035 size second.0 second.1 in
    let small : unsigned_abs (p *ℤ a +ℤ q *ℤ b) ≤ 2 * (8035 * size) = omega (arith, ints) in
    record {
      first_fits = fits_signed_from_abs w _ (omega arith);
      second_fits = fits_signed_from_abs w _ (omega arith);
      sum_fits = fits_signed_from_abs w _ (omega arith);
      small = small;
    }

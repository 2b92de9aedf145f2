-- Laws of the sums over a block: proved here, for proofs to cite.
use Rattle.std.proofs.Common.{◌≡◌, ℕ, zero, suc, ◌+◌, ◌*◌, ◌^◌, ◌<◌, ◌≤◌, lit≤, refl, sym, ap, ◌∙◌, arith, ℤ, ◌*ℤ◌}
use Rattle.std.specs.Int.RustNames.{unsigned_abs}
use Rattle.std.proofs.lemmas.Int.{ints, unsigned_abs-mul}
use Rattle.std.proofs.Math.Nat.{add-mul, mul-add, mul-le-mul_left}
use Rattle.whole_transform.specs.Sums.{sum_to}
use Rattle.whole_transform.specs.Transform.{basis, cosine, turn, forward_sum, inverse_sum}
use Rattle.slice_levels.specs.laws.EntryLaws.{below_eight}

-- equal terms have equal sums
pub sum_ext : (n : ℕ) (f g : ℕ → ℤ) → ((k : ℕ) → k < n → f k ≡ g k) → sum_to n f ≡ sum_to n g
unfolding sum_to
sum_ext zero f g same = refl
sum_ext (suc n) f g same = cc (sum_ext n f g (λ k lt. same k (omega arith)), same n (omega arith))

-- the inverse sum reads eight rows and columns alone
pub inverse_ext : (f g : ℕ → ℕ → ℤ) (y x : ℕ) → ((v u : ℕ) → v < 8 → u < 8 → f v u ≡ g v u) → inverse_sum f y x ≡ inverse_sum g y x
unfolding inverse_sum
inverse_ext f g y x same =
    sum_ext 8 (λ v. sum_to 8 (λ u. (basis v y *ℤ basis u x) *ℤ f v u)) (λ v. sum_to 8 (λ u. (basis v y *ℤ basis u x) *ℤ g v u))
    (λ v v_lt. sum_ext 8 (λ u. (basis v y *ℤ basis u x) *ℤ f v u) (λ u. (basis v y *ℤ basis u x) *ℤ g v u)
    (λ u u_lt. ap (λ (z : ℤ). (basis v y *ℤ basis u x) *ℤ z) (same v u v_lt u_lt)))

-- so does the forward sum
pub forward_ext : (f g : ℕ → ℕ → ℤ) (v u : ℕ) → ((y x : ℕ) → y < 8 → x < 8 → f y x ≡ g y x) → forward_sum f v u ≡ forward_sum g v u
unfolding forward_sum
forward_ext f g v u same =
    sum_ext 8 (λ y. sum_to 8 (λ x. (basis v y *ℤ basis u x) *ℤ f y x)) (λ y. sum_to 8 (λ x. (basis v y *ℤ basis u x) *ℤ g y x))
    (λ y y_lt. sum_ext 8 (λ x. (basis v y *ℤ basis u x) *ℤ f y x) (λ x. (basis v y *ℤ basis u x) *ℤ g y x)
    (λ x x_lt. ap (λ (z : ℤ). (basis v y *ℤ basis u x) *ℤ z) (same y x y_lt x_lt)))

-- f 0 + .. + f (n - 1) of natural numbers
unfoldable total : ℕ → (ℕ → ℕ) → ℕ
total zero f = 0
total (suc n) f = total n f + f n

-- the size of a sum is at most the sum of the sizes
sum_bound : (n : ℕ) (f : ℕ → ℤ) (bound : ℕ → ℕ) → ((k : ℕ) → k < n → unsigned_abs (f k) ≤ bound k) → unsigned_abs (sum_to n f) ≤ total n bound
unfolding sum_to total
sum_bound zero f bound small = lit≤ tt
sum_bound (suc n) f bound small =
    let before = sum_bound n f bound (λ k lt. small k (omega arith)) in
    let last = small n (omega arith) in
    omega (arith, ints)

-- a number that stands in each term
total_times : (n c : ℕ) (f : ℕ → ℕ) → total n (λ k. f k * c) ≡ total n f * c
unfolding total
total_times zero c f = omega arith
total_times (suc n) c f = rw (total_times n c f) (sym (add-mul (total n f) (f n) c))

times_total : (n c : ℕ) (f : ℕ → ℕ) → total n (λ k. c * f k) ≡ c * total n f
unfolding total
times_total zero c f = omega arith
times_total (suc n) c f = rw (times_total n c f) (sym (mul-add c (total n f) (f n)))

-- the sizes of a basis number at the eight places
basis_total : (u : ℕ) → u < 8 → total 8 (λ x. unsigned_abs (basis u x)) ≤ 46344
unfolding total basis turn cosine
basis_total u lt = below_eight (λ i. total 8 (λ x. unsigned_abs (basis i x)) ≤ 46344)
    (lit≤ tt) (lit≤ tt) (lit≤ tt) (lit≤ tt) (lit≤ tt) (lit≤ tt) (lit≤ tt) (lit≤ tt) u lt

-- the size of a term
term_small : (a b s : ℤ) → unsigned_abs s ≤ 512 → unsigned_abs ((a *ℤ b) *ℤ s) ≤ (unsigned_abs a * unsigned_abs b) * 512
term_small a b s small =
    let whole : unsigned_abs ((a *ℤ b) *ℤ s) ≡ (unsigned_abs a * unsigned_abs b) * unsigned_abs s =
    unsigned_abs-mul (a *ℤ b) s ∙ ap (λ (n : ℕ). n * unsigned_abs s) (unsigned_abs-mul a b) in
    rw whole (mul-le-mul_left (unsigned_abs a * unsigned_abs b) small)

-- the size of a sum over a row
row_small : (a : ℤ) (u : ℕ) (s : ℕ → ℤ) → u < 8 → ((x : ℕ) → x < 8 → unsigned_abs (s x) ≤ 512)
    → unsigned_abs (sum_to 8 (λ x. (a *ℤ basis u x) *ℤ s x)) ≤ (unsigned_abs a * 46344) * 512
row_small a u s lt small =
    let sizes = sum_bound 8 (λ x. (a *ℤ basis u x) *ℤ s x) (λ x. (unsigned_abs a * unsigned_abs (basis u x)) * 512) (λ x x_lt. term_small a (basis u x) (s x) (small x x_lt)) in
    let whole : total 8 (λ x. (unsigned_abs a * unsigned_abs (basis u x)) * 512) ≡ (unsigned_abs a * total 8 (λ x. unsigned_abs (basis u x))) * 512 =
    total_times 8 512 (λ x. unsigned_abs a * unsigned_abs (basis u x))
    ∙ ap (λ (n : ℕ). n * 512) (times_total 8 (unsigned_abs a) (λ x. unsigned_abs (basis u x))) in
    let few : unsigned_abs a * total 8 (λ x. unsigned_abs (basis u x)) ≤ unsigned_abs a * 46344 = mul-le-mul_left (unsigned_abs a) (basis_total u lt) in
    omega (arith, sizes, whole, few)

-- a coefficient of samples that are at most 512 away from 512
pub forward_small : (f : ℕ → ℕ → ℤ) (v u : ℕ) → v < 8 → u < 8 → ((y x : ℕ) → y < 8 → x < 8 → unsigned_abs (f y x) ≤ 512)
    → unsigned_abs (forward_sum f v u) ≤ 512 * 46344 ^ 2
unfolding forward_sum
forward_small f v u v_lt u_lt small =
    let sizes = sum_bound 8 (λ y. sum_to 8 (λ x. (basis v y *ℤ basis u x) *ℤ f y x)) (λ y. (unsigned_abs (basis v y) * 46344) * 512)
    (λ y y_lt. row_small (basis v y) u (f y) u_lt (λ x x_lt. small y x y_lt x_lt)) in
    let whole : total 8 (λ y. (unsigned_abs (basis v y) * 46344) * 512) ≡ (total 8 (λ y. unsigned_abs (basis v y)) * 46344) * 512 =
    total_times 8 512 (λ y. unsigned_abs (basis v y) * 46344)
    ∙ ap (λ (n : ℕ). n * 512) (total_times 8 46344 (λ y. unsigned_abs (basis v y))) in
    omega (arith, sizes, whole, basis_total v v_lt)

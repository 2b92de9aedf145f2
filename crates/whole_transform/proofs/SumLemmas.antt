-- Products and sums of whole numbers with a sign.
use Rattle.std.proofs.Common.{◌≡◌, add-one, ℕ, zero, suc, ◌+◌, ◌*◌, ◌≤◌, ◌<◌, lit≤, refl, sym, ap, ◌∙◌, arith, ℤ, pos, ◌+ℤ◌, ◌*ℤ◌, List, slice_index}
use Rattle.std.specs.Int.RustNames.{unsigned_abs}
use Rattle.std.proofs.lemmas.Int.{ints, unsigned_abs-mul}
use Rattle.std.proofs.Math.Nat.{mul-le-mul}
use Rattle.std.proofs.Math.IntN.{*ℤ_comm}
use borrow.Author.Differences.{up, down, same_in, product_is, sum_is_lem}
use Rattle.whole_transform.specs.Sums.{sum_to}
use Rattle.whole_transform.specs.Transform.{lane_centred}

-- the size of a product
pub abs-mul-le : (a b : ℤ) (m n : ℕ) → unsigned_abs a ≤ m → unsigned_abs b ≤ n → unsigned_abs (a *ℤ b) ≤ m * n
abs-mul-le a b m n p q = let e = unsigned_abs-mul a b in let le : unsigned_abs a * unsigned_abs b ≤ m * n = mul-le-mul p q in omega arith

-- four terms by pairs
pub sum_by_pairs : (f : ℕ → ℤ) → (f 0 +ℤ f 1) +ℤ (f 2 +ℤ f 3) ≡ sum_to 4 f
unfolding sum_to
sum_by_pairs f = omega (arith, ints)

-- one term more
pub sum_more : (n : ℕ) (f : ℕ → ℤ) → sum_to (n + 1) f ≡ sum_to n f +ℤ f n
unfolding sum_to
sum_more n f = ap (λ (k : ℕ). sum_to k f) (add-one n)

-- equal terms have equal sums
pub sum_ext : (n : ℕ) (f g : ℕ → ℤ) → ((k : ℕ) → k < n → f k ≡ g k) → sum_to n f ≡ sum_to n g
unfolding sum_to
sum_ext zero f g same = refl
sum_ext (suc n) f g same = cc (sum_ext n f g (λ k lt. same k (omega arith)), same n (omega arith))

-- so have equal values with the same factors
pub sum_of_equal : (n : ℕ) (b f g : ℕ → ℤ) → ((k : ℕ) → k < n → f k ≡ g k) → sum_to n (λ k. b k *ℤ f k) ≡ sum_to n (λ k. b k *ℤ g k)
sum_of_equal n b f g same = sum_ext n (λ k. b k *ℤ f k) (λ k. b k *ℤ g k) (λ k lt. ap (λ (z : ℤ). b k *ℤ z) (same k lt))

-- four terms over values that are equal, one by one
pub sum_of_four : (b v w : ℕ → ℤ) → v 0 ≡ w 0 → v 1 ≡ w 1 → v 2 ≡ w 2 → v 3 ≡ w 3 → sum_to 4 (λ k. b k *ℤ v k) ≡ sum_to 4 (λ k. b k *ℤ w k)
unfolding sum_to
sum_of_four b v w zeroth first second third = cc (zeroth, first, second, third)

pub mul_assoc : (a b c : ℤ) → (a *ℤ b) *ℤ c ≡ a *ℤ (b *ℤ c)
mul_assoc a b c =
    let ab = product_is a b in
    let bc = product_is b c in
    let by = λ (k : ℕ) (m n : ℕ) (e : m ≡ n). ap (λ x. x * k) e in
    let left = product_is (a *ℤ b) c in
    let right = product_is a (b *ℤ c) in
    let ups : up ((a *ℤ b) *ℤ c) ≡ up (a *ℤ (b *ℤ c)) =
    omega (arith, by (up c) _ _ ab.0, by (down c) _ _ ab.1, by (up a) _ _ bc.0, by (down a) _ _ bc.1) in
    let downs : down ((a *ℤ b) *ℤ c) ≡ down (a *ℤ (b *ℤ c)) =
    omega (arith, by (down c) _ _ ab.0, by (up c) _ _ ab.1, by (down a) _ _ bc.0, by (up a) _ _ bc.1) in
    same_in _ _ (λ i. ups i + sym downs i)

pub mul_add : (a b c : ℤ) → a *ℤ (b +ℤ c) ≡ (a *ℤ b) +ℤ (a *ℤ c)
mul_add a b c =
    let s = sum_is_lem b c in
    let by = λ (k : ℕ) (m n : ℕ) (e : m ≡ n). ap (λ x. x * k) e in
    omega (arith, ints, product_is a (b +ℤ c), by (up a) _ _ s, by (down a) _ _ s)

-- a sum of sums of two terms
pub sum_add : (n : ℕ) (f g : ℕ → ℤ) → sum_to n (λ k. f k +ℤ g k) ≡ sum_to n f +ℤ sum_to n g
unfolding sum_to
sum_add zero f g = refl
sum_add (suc n) f g = let h = sum_add n f g in omega (arith, ints)

-- a number that stands in each term
pub sum_scale : (n : ℕ) (c : ℤ) (f : ℕ → ℤ) → sum_to n (λ k. c *ℤ f k) ≡ c *ℤ sum_to n f
unfolding sum_to
sum_scale zero c f = omega (arith, ints)
sum_scale (suc n) c f = rw (sum_scale n c f) (sym (mul_add c (sum_to n f) (f n)))

pub sum_zero : (n : ℕ) → sum_to n (λ k. pos 0) ≡ pos 0
unfolding sum_to
sum_zero zero = refl
sum_zero (suc n) = let h = sum_zero n in omega (arith, ints)

-- the order of two sums
pub sum_swap : (m n : ℕ) (f : ℕ → ℕ → ℤ) → sum_to m (λ i. sum_to n (λ j. f i j)) ≡ sum_to n (λ j. sum_to m (λ i. f i j))
unfolding sum_to
sum_swap zero n f = sym (sum_zero n)
sum_swap (suc m) n f = rw (sum_swap m n f) (sym (sum_add n (λ j. sum_to m (λ i. f i j)) (λ j. f m j)))

-- f 0 + .. + f (n - 1) of natural numbers
unfoldable pub total : ℕ → (ℕ → ℕ) → ℕ
total zero f = 0
total (suc n) f = total n f + f n

-- the size of a sum is at most the sum of the sizes
pub sum_bound : (n : ℕ) (f : ℕ → ℤ) (bound : ℕ → ℕ) → ((k : ℕ) → k < n → unsigned_abs (f k) ≤ bound k) → unsigned_abs (sum_to n f) ≤ total n bound
unfolding sum_to total
sum_bound zero f bound small = lit≤ tt
sum_bound (suc n) f bound small =
    let before = sum_bound n f bound (λ k lt. small k (omega arith)) in
    let last = small n (omega arith) in
    omega (arith, ints)

-- columns first, then rows: for every pair of widths, two lists of numbers and a table
pub columns_then_rows : (m n : ℕ) (a b : ℕ → ℤ) (f : ℕ → ℕ → ℤ) →
    sum_to n (λ x. b x *ℤ sum_to m (λ y. a y *ℤ f y x)) ≡ sum_to m (λ y. sum_to n (λ x. (a y *ℤ b x) *ℤ f y x))
columns_then_rows m n a b f =
    sum_ext n (λ x. b x *ℤ sum_to m (λ y. a y *ℤ f y x)) (λ x. sum_to m (λ y. (a y *ℤ b x) *ℤ f y x))
    (λ x lt. sym (sum_scale m (b x) (λ y. a y *ℤ f y x))
    ∙ sum_ext m (λ y. b x *ℤ (a y *ℤ f y x)) (λ y. (a y *ℤ b x) *ℤ f y x)
    (λ y lower. sym (mul_assoc (b x) (a y) (f y x)) ∙ ap (λ (z : ℤ). z *ℤ f y x) (*ℤ_comm (b x) (a y))))
    ∙ sum_swap n m (λ x y. (a y *ℤ b x) *ℤ f y x)

-- rows first, then columns
pub rows_then_columns : (m n : ℕ) (a b : ℕ → ℤ) (f : ℕ → ℕ → ℤ) →
    sum_to m (λ y. a y *ℤ sum_to n (λ x. b x *ℤ f y x)) ≡ sum_to m (λ y. sum_to n (λ x. (a y *ℤ b x) *ℤ f y x))
rows_then_columns m n a b f =
    sum_ext m (λ y. a y *ℤ sum_to n (λ x. b x *ℤ f y x)) (λ y. sum_to n (λ x. (a y *ℤ b x) *ℤ f y x))
    (λ y lt. sym (sum_scale n (a y) (λ x. b x *ℤ f y x))
    ∙ sum_ext n (λ x. a y *ℤ (b x *ℤ f y x)) (λ x. (a y *ℤ b x) *ℤ f y x) (λ x lower. sym (mul_assoc (a y) (b x) (f y x))))

-- a sample below 1024 is at most 512 away from 512
pub lane_centred_small : (samples : List ℕ) (b y x : ℕ) → slice_index samples (64 * y + (8 * x + b)) < 1024 → unsigned_abs (lane_centred samples b y x) ≤ 512
lane_centred_small samples b y x lt = omega (arith, ints)

-- a sum over numbers in two parts, the first over c
pub sum_split : (n : ℕ) (c : ℤ) (b f g h : ℕ → ℤ) → ((k : ℕ) → k < n → f k ≡ c *ℤ g k +ℤ h k) →
    sum_to n (λ k. b k *ℤ f k) ≡ c *ℤ sum_to n (λ k. b k *ℤ g k) +ℤ sum_to n (λ k. b k *ℤ h k)
sum_split n c b f g h same =
    sum_ext n (λ k. b k *ℤ f k) (λ k. c *ℤ (b k *ℤ g k) +ℤ b k *ℤ h k)
    (λ k lt. ap (λ (z : ℤ). b k *ℤ z) (same k lt)
    ∙ mul_add (b k) (c *ℤ g k) (h k)
    ∙ ap (λ (z : ℤ). z +ℤ b k *ℤ h k) (sym (mul_assoc (b k) c (g k)) ∙ ap (λ (z : ℤ). z *ℤ g k) (*ℤ_comm (b k) c) ∙ mul_assoc c (b k) (g k)))
    ∙ sum_add n (λ k. c *ℤ (b k *ℤ g k)) (λ k. b k *ℤ h k)
    ∙ ap (λ (z : ℤ). z +ℤ sum_to n (λ k. b k *ℤ h k)) (sum_scale n c (λ k. b k *ℤ g k))

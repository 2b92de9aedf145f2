-- The sizes in a slice table.
use Rattle.std.proofs.Common.{◌≡◌, ℕ, zero, suc, ◌+◌, ◌*◌, ◌<◌, List, length, get_or, take, drop, sum, refl, ap, ◌∙◌, arith}
use Rattle.std.proofs.lemmas.List.{drop-drop}
use Rattle.std.proofs.lemmas.List.Sums.{sum_by_more}
use Rattle.byteorder.specs.Endian.{big_number}
use Rattle.frame_syntax.specs.Pictures.{slice_sizes}

-- there are as many as were asked for
pub length-slice_sizes : (n : ℕ) (bytes : List ℕ) → length (slice_sizes n bytes) ≡ n
unfolding slice_sizes
length-slice_sizes zero bytes = refl
length-slice_sizes (suc n) bytes = ap suc (length-slice_sizes n (drop 2 bytes))

-- each stands two bytes behind the one before
pub size_at : (n : ℕ) (bytes : List ℕ) (k : ℕ) → k < n → get_or (slice_sizes n bytes) k 0 ≡ big_number 2 (drop (2 * k) bytes)
unfolding slice_sizes
size_at zero bytes k h = absurd (omega (arith, h))
size_at (suc n) bytes zero h = refl
size_at (suc n) bytes (suc k) h =
    size_at n (drop 2 bytes) k (omega (arith, h)) ∙ ap (big_number 2) (drop-drop (2 * k) 2 bytes ∙ ap (λ j. drop j bytes) (omega arith))

-- the sum of one more
pub sum_next : (n : ℕ) (bytes : List ℕ) (k : ℕ) → k < n
    → sum (take (k + 1) (slice_sizes n bytes)) ≡ sum (take k (slice_sizes n bytes)) + big_number 2 (drop (2 * k) bytes)
sum_next n bytes k h =
    sum_by_more (λ x. x) (slice_sizes n bytes) k 0 (omega (arith, h, length-slice_sizes n bytes))
    ∙ ap (λ x. sum (take k (slice_sizes n bytes)) + x) (size_at n bytes k h)

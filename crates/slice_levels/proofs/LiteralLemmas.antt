-- Written-out blocks and levels, which tests have.
use Rattle.std.proofs.Common.{◌≡◌, ℕ, zero, suc, ◌<◌, arith, List, [], ◌∷◌, true, ltb, replicate, pos, slice_index, slice_index_or}
use Rattle.std.specs.Prelude.{ℤ}
use Rattle.std.specs.Int.RustNames.{unsigned_abs}
use Rattle.std.proofs.lemmas.Bool.{agree_below, agree_below_at, ltb-true}
use Rattle.slice_levels.specs.Coefficients.{AreSamples}

-- written-out numbers are small, by computation
pub small_sizes : (zs : List ℤ) (bound count : ℕ)
    → agree_below (λ n. ltb (unsigned_abs (slice_index_or zs n (pos 0))) bound) (λ n. true) count ≡ true
    → (n : ℕ) → n < count → unsigned_abs (slice_index_or zs n (pos 0)) < bound
small_sizes zs bound count test n h =
    ltb-true _ _ (agree_below_at (λ n. ltb (unsigned_abs (slice_index_or zs n (pos 0))) bound) (λ n. true) count n test h)

-- one value in so many places
flat_small : (count value p : ℕ) → value < 1024 → slice_index (replicate count value) p < 1024
flat_small zero value p lt = omega arith
flat_small (suc count) value zero lt = lt
flat_small (suc count) value (suc p) lt = flat_small count value p lt

-- four blocks of one value each
pub flat_blocks : (u v w x : ℕ) → u < 1024 → v < 1024 → w < 1024 → x < 1024
    → AreSamples (replicate 64 u ∷ replicate 64 v ∷ replicate 64 w ∷ replicate 64 x ∷ [])
flat_blocks u v w x a b c d zero p b_lt p_lt = flat_small 64 u p a
flat_blocks u v w x a b c d (suc zero) p b_lt p_lt = flat_small 64 v p b
flat_blocks u v w x a b c d (suc (suc zero)) p b_lt p_lt = flat_small 64 w p c
flat_blocks u v w x a b c d (suc (suc (suc zero))) p b_lt p_lt = flat_small 64 x p d
flat_blocks u v w x a b c d (suc (suc (suc (suc n)))) p b_lt p_lt = absurd (omega arith)

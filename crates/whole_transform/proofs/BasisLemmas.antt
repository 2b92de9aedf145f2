-- The table of the basis.
use Rattle.std.proofs.Common.{◌≡◌, ◌+◌, ◌*◌, ◌<◌, ◌≤◌, ℕ, refl, lit≤}
use Rattle.std.specs.Int.RustNames.{unsigned_abs}
use Rattle.whole_transform.specs.Sums.{at}
use Rattle.whole_transform.specs.Transform.{basis, turn, cosine}
use Rattle.whole_transform.specs.declared.basis.TheConstants.{BASIS}
use Rattle.whole_transform.proofs.EachLemmas.{below_eight}

pub is_number : (k : ℕ) → k < 8 → (x : ℕ) → x < 8 → at BASIS (8 * k + x) ≡ basis k x
unfolding basis turn cosine
is_number = below_eight (λ k. (x : ℕ) → x < 8 → at BASIS (8 * k + x) ≡ basis k x)
    (below_eight (λ x. at BASIS (8 * 0 + x) ≡ basis 0 x) refl refl refl refl refl refl refl refl)
    (below_eight (λ x. at BASIS (8 * 1 + x) ≡ basis 1 x) refl refl refl refl refl refl refl refl)
    (below_eight (λ x. at BASIS (8 * 2 + x) ≡ basis 2 x) refl refl refl refl refl refl refl refl)
    (below_eight (λ x. at BASIS (8 * 3 + x) ≡ basis 3 x) refl refl refl refl refl refl refl refl)
    (below_eight (λ x. at BASIS (8 * 4 + x) ≡ basis 4 x) refl refl refl refl refl refl refl refl)
    (below_eight (λ x. at BASIS (8 * 5 + x) ≡ basis 5 x) refl refl refl refl refl refl refl refl)
    (below_eight (λ x. at BASIS (8 * 6 + x) ≡ basis 6 x) refl refl refl refl refl refl refl refl)
    (below_eight (λ x. at BASIS (8 * 7 + x) ≡ basis 7 x) refl refl refl refl refl refl refl refl)

-- the greatest number is that at 1 / 16 of half a turn
pub number_small : (k : ℕ) → k < 8 → (x : ℕ) → x < 8 → unsigned_abs (basis k x) ≤ 8035
unfolding basis turn cosine
number_small = below_eight (λ k. (x : ℕ) → x < 8 → unsigned_abs (basis k x) ≤ 8035)
    (below_eight (λ x. unsigned_abs (basis 0 x) ≤ 8035) (lit≤ tt) (lit≤ tt) (lit≤ tt) (lit≤ tt) (lit≤ tt) (lit≤ tt) (lit≤ tt) (lit≤ tt))
    (below_eight (λ x. unsigned_abs (basis 1 x) ≤ 8035) (lit≤ tt) (lit≤ tt) (lit≤ tt) (lit≤ tt) (lit≤ tt) (lit≤ tt) (lit≤ tt) (lit≤ tt))
    (below_eight (λ x. unsigned_abs (basis 2 x) ≤ 8035) (lit≤ tt) (lit≤ tt) (lit≤ tt) (lit≤ tt) (lit≤ tt) (lit≤ tt) (lit≤ tt) (lit≤ tt))
    (below_eight (λ x. unsigned_abs (basis 3 x) ≤ 8035) (lit≤ tt) (lit≤ tt) (lit≤ tt) (lit≤ tt) (lit≤ tt) (lit≤ tt) (lit≤ tt) (lit≤ tt))
    (below_eight (λ x. unsigned_abs (basis 4 x) ≤ 8035) (lit≤ tt) (lit≤ tt) (lit≤ tt) (lit≤ tt) (lit≤ tt) (lit≤ tt) (lit≤ tt) (lit≤ tt))
    (below_eight (λ x. unsigned_abs (basis 5 x) ≤ 8035) (lit≤ tt) (lit≤ tt) (lit≤ tt) (lit≤ tt) (lit≤ tt) (lit≤ tt) (lit≤ tt) (lit≤ tt))
    (below_eight (λ x. unsigned_abs (basis 6 x) ≤ 8035) (lit≤ tt) (lit≤ tt) (lit≤ tt) (lit≤ tt) (lit≤ tt) (lit≤ tt) (lit≤ tt) (lit≤ tt))
    (below_eight (λ x. unsigned_abs (basis 7 x) ≤ 8035) (lit≤ tt) (lit≤ tt) (lit≤ tt) (lit≤ tt) (lit≤ tt) (lit≤ tt) (lit≤ tt) (lit≤ tt))

-- Half steps that are put one by one.
use Rattle.std.proofs.Common.{◌≡◌, ◌≢◌, ◌⊎◌, inl, inr, ℕ, ◌<◌, ◌^◌, List, length, set, replicate, slice_index, subst, sym, arith}
use Rattle.std.proofs.lemmas.Bool.{cases_eq}
use Rattle.std.proofs.lemmas.List.{get_or-set_same, get_or-set_other, get_or-replicate, length-replicate, length-set}
use Rattle.prores_scan.specs.HalfSteps.{AreShort}

pub short_set : (xs : List ℕ) (i v : ℕ) → AreShort xs → v < 2 ^ 15 → AreShort (set xs i v)
short_set xs i v short small k lt = cases (cases_eq k i)
  where
    inside : k < length xs
    inside = omega (arith, lt, length-set xs i v)

    cases : (k ≡ i) ⊎ (k ≢ i) → slice_index (set xs i v) k < 2 ^ 15
    cases (inl same) = subst (λ (n : ℕ). slice_index (set xs i v) n < 2 ^ 15) (sym same) (omega (arith, small, get_or-set_same xs i v 0 (omega (arith, same, inside))))
    cases (inr other) = omega (arith, short k inside, get_or-set_other xs i k v 0 other)

pub short_none : (n : ℕ) → AreShort (replicate n 0)
short_none n k lt =
    let zero : ℕ = 0 in
    let long : length (replicate n zero) ≡ n = length-replicate n zero in
    let same : slice_index (replicate n zero) k ≡ 0 = get_or-replicate n k zero zero (omega (arith, lt, long)) in
    omega (arith, same)

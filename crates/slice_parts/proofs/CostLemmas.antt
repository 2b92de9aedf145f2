-- What the words of marks count of an entry is no more than the bound does.
use Rattle.std.proofs.Common.{◌≡◌, ◌⊎◌, inl, inr, ℕ, zero, suc, ◌+◌, ◌≤◌, ◌<◌, arith, refl}
use Rattle.std.proofs.lemmas.Bool.{cases_lt}
use Rattle.slice_parts.specs.Bound.{reaches, least_run, least_size}
use Rattle.slice_parts.specs.inner.Counted.{cost, gap, passed}

-- a size that is one more reaches a limit that is one more
shifted : (limit n : ℕ) → reaches (suc limit) (suc n) ≤ reaches limit n
shifted limit n = cases (cases_lt n limit)
  where
    cases : (n < limit) ⊎ (limit ≤ n) → reaches (suc limit) (suc n) ≤ reaches limit n
    cases (inl lt) = grind (arith, lt)
    cases (inr le) = grind (arith, le)

passed_ten : (size : ℕ)
    → passed 10 size ≡ 0 + reaches 2 size + reaches 3 size + reaches 5 size + reaches 7 size + reaches 13 size + reaches 15 size + reaches 29 size + reaches 31 size + reaches 61 size + reaches 63 size
passed_ten size = refl

-- 1 where a size isn't 0
abbrev pub marked : ℕ → ℕ
marked zero = 0
marked (suc n) = 1

pub cost_low : (size run : ℕ)
    → marked size + marked size + marked size + gap 1 size run + gap 2 size run + gap 3 size run + gap 6 size run + gap 8 size run + gap 16 size run + passed 10 size ≤ cost run size
unfolding least_size least_run
cost_low zero run = omega arith
cost_low (suc n) run =
    omega (arith, passed_ten (suc n), shifted 1 n, shifted 2 n, shifted 4 n, shifted 6 n, shifted 12 n, shifted 14 n, shifted 28 n, shifted 30 n, shifted 60 n, shifted 62 n)

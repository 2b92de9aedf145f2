-- Laws of weights and scales: proved here, for proofs to cite.
use Rattle.std.proofs.Common.{ℕ, ◌+◌, ◌-◌, ◌*◌, ◌/◌, ◌<◌, ◌≤◌, ◌≡◌, Bool, true, false, arith, refl, ⊎_elim}
use Rattle.std.specs.Prelude.{◌==◌, if◌then◌else◌}
use Rattle.std.proofs.lemmas.Bool.{cases_lt, le-leb, lt-leb}
use Rattle.prores_scan.specs.WeightsAndScales.{scale_of, weight_at}

pub scale_of_low : (index : ℕ) → index ≤ 128 → scale_of index ≡ index
scale_of_low index low = rw (le-leb index 128 low) refl

pub scale_of_high : (index : ℕ) → 128 < index → scale_of index ≡ 128 + 4 * (index - 128)
scale_of_high index high = rw (lt-leb index 128 high) refl

-- an index's scale is 1 to 512
pub scale_is_some : (index : ℕ) → 1 ≤ index → 1 ≤ scale_of index
scale_is_some index some =
    ⊎_elim (λ high. omega (arith, scale_of_high index high)) (λ low. omega (arith, scale_of_low index low, some)) (cases_lt 128 index)

pub scale_is_small : (index : ℕ) → index ≤ 224 → scale_of index ≤ 512
scale_is_small index most =
    ⊎_elim (λ high. omega (arith, scale_of_high index high, most)) (λ low. omega (arith, scale_of_low index low)) (cases_lt 128 index)

-- scales rise with the index
pub scales_rise : (from to : ℕ) → from ≤ to → scale_of from ≤ scale_of to
scales_rise from to order =
    ⊎_elim
    (λ high. omega (arith, order, scale_of_high from high, scale_of_high to (omega arith)))
    (λ low. ⊎_elim
    (λ above. omega (arith, scale_of_low from low, scale_of_high to above))
    (λ below. omega (arith, order, scale_of_low from low, scale_of_low to below))
    (cases_lt 128 to))
    (cases_lt 128 from)

-- a weight of any kind is 4 to 18
pub weight_is_some : (kind : ℕ) (chroma : Bool) (row column : ℕ) → 4 ≤ weight_at kind chroma row column
weight_is_some kind chroma row column = either (kind == 0) chroma
  where
    either : (plain other : Bool) → 4 ≤ (if plain then 4 else (if other then 4 + row + column else 4 + (row + column) / 2))
    either true other = omega arith
    either false true = omega arith
    either false false = omega arith

pub weight_is_small : (kind : ℕ) (chroma : Bool) (row column : ℕ) → row < 8 → column < 8 → weight_at kind chroma row column ≤ 18
weight_is_small kind chroma row column upper left = either (kind == 0) chroma
  where
    either : (plain other : Bool) → (if plain then 4 else (if other then 4 + row + column else 4 + (row + column) / 2)) ≤ 18
    either true other = omega arith
    either false true = omega arith
    either false false = omega arith

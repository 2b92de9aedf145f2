-- Laws of a part's levels and of their products: proved here, for proofs to cite.
use Rattle.std.proofs.Common.{◌≡◌, ℕ, ◌+◌, ◌*◌, ◌/◌, ◌%◌, ◌^◌, ◌<◌, ◌≤◌, sym, subst, ◌∙◌, arith, ℤ, pos, List, [], map, length, get_or, slice_index}
use Rattle.std.specs.Int.RustNames.{unsigned_abs}
use Rattle.std.proofs.lemmas.Int.{ints}
use Rattle.std.proofs.lemmas.List.{ext_get_or, get_or-map, length-map}
use Rattle.prores_scan.specs.declared.scans.Scan.{Scan}
use Rattle.prores_scan.specs.Levels.{product_of}
use Rattle.prores_scan.specs.ScaledLevels.{AreLevels, signed_of}
use Rattle.prores_scan.specs.Scans.{place_of}
use Rattle.prores_scan.specs.WeightsAndScales.{AreSmall}
use Rattle.prores_scan.specs.HalfSteps.{AreShort}
use Rattle.prores_scan.specs.laws.HalfStepLaws.{half_steps_are_short}
use Rattle.std.proofs.lemmas.Nat.{mul-le}
use Rattle.std.proofs.Math.Nat.{mul-le-mul_left}
use Rattle.prores_scan.specs.laws.LevelLaws.{abs-product_of, own_products_are_small}
use Rattle.whole_transform.specs.Sums.{at}
use Rattle.whole_transform.specs.Transform.{centred}
use Rattle.slice_levels.specs.Coefficients.{AreSamples, AreWeighable, AreHalfStepsOf, AreLevelsOf, coefficient}
use Rattle.slice_levels.specs.Interleaved.{entry_of, weight_of}
use Rattle.slice_levels.specs.Products.{InRange, product_at}
use Rattle.slice_levels.specs.laws.EntryLaws.{at_each_entry, entry_within}
use Rattle.slice_levels.specs.laws.PlaceLaws.{place_below}
use Rattle.slice_levels.specs.laws.SumLaws.{forward_small}

-- the levels that the half steps of blocks tell at a scale are those of the blocks
pub levels_of_half_steps : (scan : Scan) (weights : List ℕ) (scale : ℕ) (blocks : List (List ℕ)) (half_steps numbers : List ℕ)
    → length half_steps ≡ 64 * length blocks → length numbers ≡ length half_steps → AreWeighable weights
    → AreHalfStepsOf scan weights blocks half_steps → AreLevels half_steps scale numbers
    → AreLevelsOf scan weights scale blocks (map signed_of numbers)
levels_of_half_steps scan weights scale blocks half_steps numbers long same large are levels = record {
  long = length-map numbers signed_of ∙ (same ∙ long);
  each = λ b k b_lt k_lt.
      let n = entry_of (length blocks) k b in
      let within = entry_within (length blocks) b k b_lt k_lt in
      let some = large (place_of scan k) (place_below scan k k_lt) in
      get_or-map signed_of numbers n 0 (pos 0) (omega arith)
      ∙ levels n (omega arith) (coefficient scan (get_or blocks b []) k) (weight_of scan weights k) (omega arith) (are b k b_lt k_lt);
}

-- blocks have one list of levels
pub levels_are_one : (scan : Scan) (weights : List ℕ) (scale : ℕ) (blocks : List (List ℕ)) (xs ys : List ℤ)
    → AreLevelsOf scan weights scale blocks xs → AreLevelsOf scan weights scale blocks ys → xs ≡ ys
levels_are_one scan weights scale blocks xs ys first second =
    ext_get_or (pos 0) xs ys (first.long ∙ sym second.long)
    (λ n lt. at_each_entry (λ (i : ℕ). at xs i ≡ at ys i) (length blocks) n
    (λ b k b_lt k_lt. first.each b k b_lt k_lt ∙ sym (second.each b k b_lt k_lt)) (omega (arith, lt, first.long)))

-- a sample of ten bits is at most 512 away from 512
centred_small : (block : List ℕ) (y x : ℕ) → slice_index block (8 * y + x) < 1024 → unsigned_abs (centred block y x) ≤ 512
centred_small block y x lt = omega (arith, ints)

-- a coefficient of a block of samples
pub coefficient_small : (scan : Scan) (block : List ℕ) (k : ℕ) → k < 64 → ((p : ℕ) → p < 64 → slice_index block p < 1024)
    → unsigned_abs (coefficient scan block k) ≤ 512 * 46344 ^ 2
coefficient_small scan block k lt samples =
    let place = place_below scan k lt in
    forward_small (centred block) (place_of scan k / 8) (place_of scan k % 8) (omega arith) (omega arith)
    (λ y x y_lt x_lt. centred_small block y x (samples (8 * y + x) (omega arith)))

-- the products of blocks' own levels have 16 bits
pub own_products_have_16_bits : (scan : Scan) (weights : List ℕ) (scale : ℕ) (blocks : List (List ℕ)) (levels : List ℤ)
    → AreSamples blocks → AreSmall weights → 1 ≤ scale → scale ≤ 512 → AreLevelsOf scan weights scale blocks levels
    → (b k : ℕ) → b < length blocks → k < 64 → unsigned_abs (product_at scan weights scale (length blocks) levels k b) < 2 ^ 15
own_products_have_16_bits scan weights scale blocks levels samples small some few are b k b_lt k_lt =
    let weight = small (place_of scan k) (place_below scan k k_lt) in
    subst (λ (z : ℤ). unsigned_abs (product_of z (weight_of scan weights k) scale) < 2 ^ 15) (sym (are.each b k b_lt k_lt))
    (own_products_are_small (coefficient scan (get_or blocks b []) k) (weight_of scan weights k) scale
    (coefficient_small scan (get_or blocks b []) k k_lt (λ p p_lt. samples b p b_lt p_lt)) weight.0 weight.1 some few)

-- so they are in range
pub own_levels_are_in_range : (scan : Scan) (weights : List ℕ) (scale : ℕ) (blocks : List (List ℕ)) (levels : List ℤ)
    → AreSamples blocks → AreSmall weights → 1 ≤ scale → scale ≤ 512 → AreLevelsOf scan weights scale blocks levels
    → InRange scan weights scale (length blocks) levels
own_levels_are_in_range scan weights scale blocks levels samples small some few are b k b_lt k_lt =
    let bits = own_products_have_16_bits scan weights scale blocks levels samples small some few are b k b_lt k_lt in
    omega (arith, bits)

-- the half steps of blocks of samples have 15 bits
pub short_half_steps : (scan : Scan) (weights : List ℕ) (blocks : List (List ℕ)) (half_steps : List ℕ)
    → AreSamples blocks → AreWeighable weights → length half_steps ≡ 64 * length blocks → AreHalfStepsOf scan weights blocks half_steps → AreShort half_steps
short_half_steps scan weights blocks half_steps samples large long are n lt =
    at_each_entry (λ (i : ℕ). slice_index half_steps i < 2 ^ 15) (length blocks) n
    (λ b k b_lt k_lt.
    let small = coefficient_small scan (get_or blocks b []) k k_lt (λ p p_lt. samples b p b_lt p_lt) in
    subst (λ (v : ℕ). v < 2 ^ 15) (sym (are b k b_lt k_lt))
    (half_steps_are_short (coefficient scan (get_or blocks b []) k) (weight_of scan weights k) (large (place_of scan k) (place_below scan k k_lt)) (omega arith)))
    (omega arith)

-- a level of at least four times its size in product is small
size_from_product : (level : ℤ) (weight scale bound : ℕ) → 4 ≤ weight → 1 ≤ scale → unsigned_abs (product_of level weight scale) < 4 * bound
    → unsigned_abs level < bound
size_from_product level weight scale bound least some small =
    let factor : 4 * 1 ≤ weight * scale = mul-le 4 1 weight scale least some in
    let product : unsigned_abs level * 4 ≤ unsigned_abs level * (weight * scale) = mul-le-mul_left (unsigned_abs level) (omega arith) in
    omega (arith, small, product, abs-product_of level weight scale)

-- blocks' own levels are below 2 ^ 13 in size
pub own_levels_are_small : (scan : Scan) (weights : List ℕ) (scale : ℕ) (blocks : List (List ℕ)) (levels : List ℤ)
    → AreSamples blocks → AreSmall weights → 1 ≤ scale → scale ≤ 512 → AreLevelsOf scan weights scale blocks levels
    → (n : ℕ) → n < length levels → unsigned_abs (at levels n) < 2 ^ 13
own_levels_are_small scan weights scale blocks levels samples small some few are n lt =
    at_each_entry (λ (i : ℕ). unsigned_abs (at levels i) < 2 ^ 13) (length blocks) n
    (λ b k b_lt k_lt. size_from_product (at levels (entry_of (length blocks) k b)) (weight_of scan weights k) scale (2 ^ 13)
    (small (place_of scan k) (place_below scan k k_lt)).0 some
    (own_products_have_16_bits scan weights scale blocks levels samples small some few are b k b_lt k_lt))
    (omega (arith, lt, are.long))

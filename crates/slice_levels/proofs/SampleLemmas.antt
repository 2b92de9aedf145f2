-- Samples that products give.
use Rattle.std.proofs.Common.{◌≡◌, ℕ, zero, suc, ◌+◌, ◌*◌, ◌/◌, ◌%◌, ◌<◌, ◌≤◌, arith, sym, subst, ℤ, pos, negsuc, List, [], replicate, get_or, slice_index, ⊎_elim, ◌^◌, lit≤, length}
use Rattle.std.specs.Int.RustNames.{unsigned_abs}
use Rattle.prores_scan.specs.declared.scans.Scan.{Scan}
use Rattle.whole_transform.specs.Sums.{at}
use Rattle.whole_transform.specs.Transform.{cell, clamped, inverse_sum, sample}
use Rattle.slice_levels.specs.Coefficients.{AreSamples}
use Rattle.slice_levels.specs.Products.{AreProductsOf, InRange}
use Rattle.slice_levels.specs.Rebuilt.{AreInversesOf, AreRebuilt}
use Rattle.slice_levels.specs.laws.EntryLaws.{at_each_entry}
use Rattle.std.proofs.lemmas.Bool.{cases_lt}
use Rattle.std.proofs.lemmas.List.{get_or_past}

-- the numbers of a cleared list are small
pub zeros_small : (bound count n : ℕ) → unsigned_abs (at (replicate count (pos 0)) n) ≤ bound
zeros_small bound zero n = omega arith
zeros_small bound (suc count) zero = omega arith
zeros_small bound (suc count) (suc n) = zeros_small bound count n

clamped_small : (z : ℤ) → clamped z < 1024
unfolding clamped
clamped_small (pos n) = omega arith
clamped_small (negsuc n) = omega arith

sample_small : (total : ℤ) → sample total < 1024
unfolding sample
sample_small total = clamped_small _

-- a sample of a block by its place
at_place : (block : List ℕ) (p : ℕ) → slice_index block (8 * (p / 8) + p % 8) < 1024 → slice_index block p < 1024
at_place block p lt =
    let e : 8 * (p / 8) + p % 8 ≡ p = omega arith in
    subst (λ (n : ℕ). slice_index block n < 1024) e lt

-- blocks that products give are samples of ten bits
pub inverses_small : (scan : Scan) (products : List ℤ) (blocks : List (List ℕ)) → AreInversesOf scan products blocks → AreSamples blocks
inverses_small scan products blocks each b p b_lt p_lt =
    let one = each b b_lt in
    let block = get_or blocks b [] in
    at_place block p (subst (λ (n : ℕ). n < 1024) (sym (one.inverse (p / 8) (p % 8) (omega arith) (omega arith)))
    (sample_small (inverse_sum (cell one.raster) (p / 8) (p % 8))))

-- products that are in range are small wherever they are read
pub products_small : (scan : Scan) (weights : List ℕ) (scale count : ℕ) (levels products : List ℤ) → length products ≡ 64 * count
    → AreProductsOf scan weights scale count levels products → InRange scan weights scale count levels
    → (n : ℕ) → unsigned_abs (at products n) ≤ 2 ^ 22
products_small scan weights scale count levels products long are in_range n = ⊎_elim
    (λ (lt : n < 64 * count). at_each_entry (λ (i : ℕ). unsigned_abs (at products i) ≤ 2 ^ 22) count n
    (λ b k b_lt k_lt. subst (λ (z : ℤ). unsigned_abs z ≤ 2 ^ 22) (sym (are b k b_lt k_lt)) (in_range b k b_lt k_lt)) lt)
    (λ (ge : 64 * count ≤ n). subst (λ (z : ℤ). unsigned_abs z ≤ 2 ^ 22) (sym (get_or_past products n (pos 0) (omega arith))) (lit≤ tt))
    (cases_lt n (64 * count))

-- the blocks of the products are those of the levels
pub rebuilt_of_products : (scan : Scan) (weights : List ℕ) (scale count : ℕ) (levels products : List ℤ) (blocks : List (List ℕ)) → length blocks ≡ count
    → AreProductsOf scan weights scale count levels products → AreInversesOf scan products blocks → AreRebuilt scan weights scale levels blocks
rebuilt_of_products scan weights scale count levels products blocks long are inverse = record {
  products = products;
  multiplied = subst (λ (n : ℕ). AreProductsOf scan weights scale n levels products) (sym long) are;
  inverse = inverse;
}

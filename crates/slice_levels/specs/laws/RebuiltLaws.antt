-- Laws of rebuilt blocks: proved here, for proofs to cite.
use Rattle.std.proofs.Common.{◌≡◌, ℕ, ◌+◌, ◌*◌, ◌/◌, ◌%◌, ◌<◌, sym, ap, subst, ◌∙◌, arith, ℤ, List, [], length, get_or, slice_index}
use Rattle.prores_scan.specs.declared.scans.Scan.{Scan}
use Rattle.whole_transform.specs.Sums.{at}
use Rattle.whole_transform.specs.Transform.{IsInverse, cell, sample}
use Rattle.slice_levels.specs.Interleaved.{IsBlockOf, entry_of}
use Rattle.slice_levels.specs.Products.{AreProductsOf}
use Rattle.slice_levels.specs.Rebuilt.{IsInverseOf, AreRebuilt}
use Rattle.slice_levels.specs.laws.PlaceLaws.{has_position}
use Rattle.slice_levels.specs.laws.SumLaws.{inverse_ext}

-- two blocks of the same entries are the same in raster order
same_raster : (scan : Scan) (count b : ℕ) (first second xs ys : List ℤ) → IsBlockOf scan count first b xs → IsBlockOf scan count second b ys
    → ((k : ℕ) → k < 64 → at first (entry_of count k b) ≡ at second (entry_of count k b)) → (p : ℕ) → p < 64 → at xs p ≡ at ys p
same_raster scan count b first second xs ys one other same p lt =
    let k = has_position scan p lt in
    subst (λ (n : ℕ). at xs n ≡ at ys n) k.2 (one k.0 k.1 ∙ same k.0 k.1 ∙ sym (other k.0 k.1))

-- the samples of the same products
same_sample : (xs ys : List ℤ) (one other : List ℕ) → ((p : ℕ) → p < 64 → at xs p ≡ at ys p) → IsInverse xs one → IsInverse ys other
    → (p : ℕ) → p < 64 → slice_index one p ≡ slice_index other p
same_sample xs ys one other same first second p lt =
    let e : 8 * (p / 8) + p % 8 ≡ p = omega arith in
    subst (λ (n : ℕ). slice_index one n ≡ slice_index other n) e
    (first (p / 8) (p % 8) (omega arith) (omega arith)
    ∙ (ap sample (inverse_ext (cell xs) (cell ys) (p / 8) (p % 8) (λ v u v_lt u_lt. same (8 * v + u) (omega arith)))
    ∙ sym (second (p / 8) (p % 8) (omega arith) (omega arith))))

-- levels give one block at each place
pub rebuilt_is_one : (scan : Scan) (weights : List ℕ) (scale : ℕ) (levels : List ℤ) (xs ys : List (List ℕ))
    → length xs ≡ length ys → AreRebuilt scan weights scale levels xs → AreRebuilt scan weights scale levels ys
    → (b p : ℕ) → b < length xs → p < 64 → slice_index (get_or xs b []) p ≡ slice_index (get_or ys b []) p
rebuilt_is_one scan weights scale levels xs ys long first second b p b_lt p_lt =
    let count = length xs in
    let one = first.inverse b b_lt in
    let there = subst (λ (n : ℕ). IsInverseOf scan n second.products b (get_or ys b [])) (sym long) (second.inverse b (omega arith)) in
    let products = subst (λ (n : ℕ). AreProductsOf scan weights scale n levels second.products) (sym long) second.multiplied in
    same_sample one.raster there.raster (get_or xs b []) (get_or ys b [])
    (same_raster scan count b first.products second.products one.raster there.raster one.ordered there.ordered
    (λ k k_lt. first.multiplied b k b_lt k_lt ∙ sym (products b k b_lt k_lt))) one.inverse there.inverse p p_lt

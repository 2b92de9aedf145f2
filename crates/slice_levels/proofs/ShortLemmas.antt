-- Products of levels, as a list.
use Rattle.std.proofs.Common.{ℕ, ◌*◌, ◌/◌, ap, ◌∙◌, arith, ℤ, pos, List}
use Rattle.std.proofs.lemmas.List.FromFn.{get_or-map-range_with_len}
use Rattle.std.proofs.lemmas.Nat.{div-mul-add}
use Rattle.prores_scan.specs.declared.scans.Scan.{Scan}
use Rattle.prores_scan.specs.Levels.{product_of}
use Rattle.whole_transform.specs.Sums.{at}
use Rattle.slice_levels.specs.Interleaved.{entry_of, weight_of}
use Rattle.slice_levels.specs.Products.{AreProductsOf}
use Rattle.slice_levels.specs.inner.Short.{products_of}
use Rattle.slice_levels.specs.laws.EntryLaws.{entry_within}

-- every product stands at the entry of its level
pub are_products_of : (scan : Scan) (weights : List ℕ) (scale count : ℕ) (levels : List ℤ) → AreProductsOf scan weights scale count levels (products_of scan weights scale count levels)
are_products_of scan weights scale count levels b k b_lt k_lt =
    let n = entry_of count k b in
    let each : ℕ → ℤ = λ i. product_of (at levels i) (weight_of scan weights (i / count)) scale in
    get_or-map-range_with_len each 0 (64 * count) n n (pos 0) (entry_within count b k b_lt k_lt) (omega arith)
    ∙ ap (λ (j : ℕ). product_of (at levels n) (weight_of scan weights j) scale) (div-mul-add k count b b_lt)

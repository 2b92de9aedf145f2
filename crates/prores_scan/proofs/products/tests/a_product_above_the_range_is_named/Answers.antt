use Rattle.std.proofs.Common.{List, refl, set, drop, pos, negsuc, ◌^◌}
use Rattle.std.specs.Prelude.{ℤ, replicate}
use Rattle.prores_scan.proofs.LevelLemmas.{small_sizes}
use Rattle.prores_scan.proofs.products.tests.a_product_above_the_range_is_named.Goals as goal

abbrev levels : List ℤ
levels = set (set (replicate 128 (negsuc 2)) 8 (pos (2 ^ 20))) 73 (pos (2 ^ 21))

pub dequantise-found-requires-clause-levels : goal.dequantise-found-requires-clause-levels
dequantise-found-requires-clause-levels g c = small_sizes levels (2 ^ 40) 128 refl

pub dequantise-found-requires-2-clause-levels : goal.dequantise-found-requires-2-clause-levels
dequantise-found-requires-2-clause-levels g c = small_sizes (drop 64 levels) (2 ^ 40) 64 refl

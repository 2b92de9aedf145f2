use Rattle.std.proofs.Common.{List, refl, set, pos, negsuc, ◌-◌, ◌^◌}
use Rattle.std.specs.Prelude.{ℤ, replicate}
use Rattle.slice_levels.proofs.LiteralLemmas.{small_sizes}
use Rattle.slice_levels.proofs.tests.the_first_product_above_the_range_is_named_by_blocks.Goals as goal

abbrev above : List ℤ
above = set (set (replicate 128 (pos 0)) 3 (pos (2 ^ 21))) 124 (negsuc (2 ^ 21 - 1))

abbrev greatest : List ℤ
greatest = set (replicate 128 (pos 0)) 0 (pos (2 ^ 20))

pub rebuild-found-requires-clause-levels : goal.rebuild-found-requires-clause-levels
rebuild-found-requires-clause-levels g c = small_sizes above (2 ^ 40) 128 refl

pub rebuild-found-requires-2-clause-levels : goal.rebuild-found-requires-2-clause-levels
rebuild-found-requires-2-clause-levels g c = small_sizes greatest (2 ^ 40) 128 refl

use Rattle.std.proofs.Common.{List, refl, set, pos, negsuc, ◌^◌}
use Rattle.std.specs.Prelude.{ℤ, replicate}
use Rattle.slice_levels.proofs.LiteralLemmas.{small_sizes}
use Rattle.slice_levels.proofs.tests.one_level_gives_a_block_of_one_value.Goals as goal

abbrev levels : List ℤ
levels = set (set (set (replicate 256 (pos 0)) 0 (negsuc 4064)) 2 (pos 4057)) 3 (pos 4089)

pub rebuild-found-requires-clause-levels : goal.rebuild-found-requires-clause-levels
rebuild-found-requires-clause-levels g c = small_sizes levels (2 ^ 40) 256 refl

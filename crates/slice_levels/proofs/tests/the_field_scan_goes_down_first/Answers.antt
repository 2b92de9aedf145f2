use Rattle.std.proofs.Common.{List, refl, set, pos, ◌^◌}
use Rattle.std.specs.Prelude.{ℤ, replicate}
use Rattle.slice_levels.proofs.LiteralLemmas.{small_sizes}
use Rattle.slice_levels.proofs.tests.the_field_scan_goes_down_first.Goals as goal

abbrev levels : List ℤ
levels = set (replicate 64 (pos 0)) 1 (pos 256)

pub rebuild-found-requires-clause-levels : goal.rebuild-found-requires-clause-levels
rebuild-found-requires-clause-levels g c = small_sizes levels (2 ^ 40) 64 refl

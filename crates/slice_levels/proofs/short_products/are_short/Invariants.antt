use Rattle.std.proofs.Common.{◌<◌, ◌^◌, ℕ, slice_index}
use Rattle.slice_levels.proofs.short_products.are_short.Given as goal

abbrev pub invariant-loop-lane : goal.invariant-loop-lane
invariant-loop-lane l = (j : ℕ) → j < l.lane → slice_index l.sizes j < 2 ^ 15

use Rattle.std.proofs.Common.{◌≡◌, ◌<◌, ◌*◌, ℕ, [], length, get_or, slice_index}
use Rattle.prores_scan.specs.HalfSteps.{half_steps_of}
use Rattle.slice_levels.specs.Coefficients.{coefficient}
use Rattle.slice_levels.specs.Interleaved.{entry_of, weight_of}
use Rattle.slice_levels.proofs.half_steps.put_half_steps.Given as goal

abbrev pub invariant-loop-group : goal.invariant-loop-group
invariant-loop-group l = (b k : ℕ) → b < 8 * l.group → b < length l.blocks → k < 64
    → slice_index l.out (entry_of (length l.blocks) k b)
    ≡ half_steps_of (coefficient l.weighing.scan (get_or l.blocks b []) k) (weight_of l.weighing.scan l.weighing.weights k)

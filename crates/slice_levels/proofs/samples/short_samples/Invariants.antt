use Rattle.std.proofs.Common.{◌*◌, ◌<◌, ℕ, [], length, get_or}
use Rattle.slice_levels.specs.Rebuilt.{IsInverseOf}
use Rattle.slice_levels.proofs.samples.short_samples.Given as goal

abbrev pub invariant-loop-group : goal.invariant-loop-group
invariant-loop-group l =
    (b : ℕ) → b < 8 * l.group → b < length l.out → IsInverseOf l.scan (length l.out) l.products b (get_or l.out b [])

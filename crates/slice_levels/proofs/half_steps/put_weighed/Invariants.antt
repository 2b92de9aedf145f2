use Rattle.std.proofs.Common.{◌≡◌, ◌<◌, ◌+◌, ◌*◌, ℕ, slice_index}
use Rattle.prores_scan.specs.Scans.{place_of}
use Rattle.slice_levels.specs.Interleaved.{entry_of, weight_of}
use Rattle.slice_levels.specs.inner.Weighed.{IsWeighed}
use Rattle.slice_levels.proofs.half_steps.put_weighed.Given as goal

abbrev pub invariant-loop-k : goal.invariant-loop-k
invariant-loop-k l = record {
  weighed : (lane j : ℕ) → lane < 8 → l.first + lane < l.count → j < l.k
      → IsWeighed l.sizes l.negative (8 * place_of l.weighing.scan j + lane) (weight_of l.weighing.scan l.weighing.weights j)
      (slice_index l.out (entry_of l.count j (l.first + lane)));
  kept : (b j : ℕ) → b < l.first → j < 64 → slice_index l.out (entry_of l.count j b) ≡ slice_index l.initial.out (entry_of l.count j b);
}

use Rattle.std.proofs.Common.{◌≡◌, ◌+◌, ◌*◌, ◌/◌, ◌%◌, ap, ap₂, ◌∙◌, arith, slice_index}
use Rattle.prores_scan.specs.ScaledLevels.{signed_of}
use Rattle.prores_scan.specs.laws.HalfStepLaws.{level_from_half_steps}
use Rattle.prores_scan.proofs.scaled_levels.levels_at.Goals as goal

pub returns : goal.returns
returns c = record {
  levels = λ scale twice k lt g weight some e.
      let v = slice_index c.args.half_steps.now k in
      let same : c.args.double.divisor / 2 ≡ scale = omega (arith, twice) in
      ap signed_of (c.loop-k.invariant.levels k (omega arith)
      ∙ ap₂ (λ s d. 2 * ((v / 2 + s) / d) + v % 2) same twice)
      ∙ level_from_half_steps g weight scale v some e;
  small = λ k lt. c.loop-k.invariant.small k (omega arith);
}

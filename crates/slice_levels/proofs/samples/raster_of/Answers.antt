use Rattle.std.proofs.Common.{arith, rules, ◌^◌}
use Rattle.slice_levels.proofs.SampleLemmas.{zeros_small}
use Rattle.slice_levels.proofs.samples.raster_of.Goals as goal

pub loop-k-init : goal.loop-k-init
loop-k-init c = record {
  ordered = λ j lt. absurd (omega arith);
  sizes = λ n. zeros_small (2 ^ 22) 64 n;
  long = search rules;
}

use Rattle.std.proofs.Common.{rules, ◌+◌, arith}
use Rattle.prores_scan.specs.WeightsAndScales.{scale_of}
use Rattle.slice_codec.proofs.BoundLemmas.{all_pass}
use Rattle.slice_codec.proofs.search.first_possible.Goals as goal

pub returns-then-step-lt2-clause-passed : goal.returns-then-step-lt2-clause-passed
returns-then-step-lt2-clause-passed c =
    all_pass c.args.rule.room c.args.rule.first c.min-index.result (c.slice_bounds-counted.result.y.bits + c.slice_bounds-counted.result.cb.bits + c.slice_bounds-counted.result.cr.bits) c.args.y.now c.args.cb.now c.args.cr.now c.requires.some c.slice_bounds-counted.ensures.low (c.passes.ensures c.if-passes.true)

pub loop-low-init : goal.loop-low-init
loop-low-init c = record {
  from = search rules;
  within = search rules;
  most = search rules;
  passed = λ i least most. absurd (omega (arith, least, most));
  least = c.none-bounds.ensures.least (scale_of c.none-bounds.result.index) c.args.y.now c.args.cb.now c.args.cr.now;
}

pub loop-low-preserved-then-passes : goal.loop-low-preserved-then-passes
loop-low-preserved-then-passes c = record {
  from = search rules;
  within = search rules;
  most = search rules;
  passed = all_pass c.args.rule.room c.args.rule.first c.min-index.result (c.slice_bounds-counted.result.y.bits + c.slice_bounds-counted.result.cb.bits + c.slice_bounds-counted.result.cr.bits) c.args.y.now c.args.cb.now c.args.cr.now c.requires.some c.slice_bounds-counted.ensures.low (c.passes.ensures c.if-passes.true);
  least = c.loop-low.invariant.least;
}

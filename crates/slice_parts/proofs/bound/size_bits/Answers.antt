use Rattle.std.proofs.Common.{rules, ◌+◌, ◌-◌, slice_index, arith}
use Rattle.slice_parts.specs.declared.bound.TheConstants.{GROWN}
use Rattle.slice_parts.proofs.WordLemmas.{passed_more, passed_all}
use Rattle.slice_parts.proofs.bound.size_bits.Goals as goal

pub returns-then-marks-eq0-clause-low : goal.returns-then-marks-eq0-clause-low
returns-then-marks-eq0-clause-low c =
    passed_all c.args.half_steps.now c.args.scale (c.args.at + c.args.skip) (64 - c.args.skip) c.loop-l.l c.loop-l.bits (omega (arith, c.loop-l-test.true)) c.loop-l.invariant.low

pub loop-l-preserved : goal.loop-l-preserved
loop-l-preserved c = record {
  low = passed_more c.args.half_steps.now c.args.scale (c.args.at + c.args.skip) (64 - c.args.skip) c.loop-l.l c.loop-l.bits c.marks_from-marks.result
      (c.marks_from-marks.ensures (slice_index GROWN c.loop-l.l) c.args.scale c.threshold.ensures) c.loop-l.invariant.low;
  small = search rules;
}

pub returns-clause-low : goal.returns-clause-low
returns-clause-low c =
    passed_all c.args.half_steps.now c.args.scale (c.args.at + c.args.skip) (64 - c.args.skip) c.loop-l.l c.loop-l.bits (omega (arith, c.loop-l-test.false, c.loop-l.auto.l-end)) c.loop-l.invariant.low

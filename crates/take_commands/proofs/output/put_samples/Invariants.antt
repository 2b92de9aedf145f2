use Rattle.std.proofs.Common.{length, take, ◌-◌, ◌≡◌, ◌≤◌}
use Rattle.raw_feed.specs.Pictures.{spelled}
use Rattle.run_parts.specs.Gains.{Gains}
use Rattle.take_commands.proofs.output.put_samples.Given as goal

-- the samples so far were written, and nothing failed
abbrev pub invariant-loop-at : goal.invariant-loop-at
invariant-loop-at g l = record {
  place : l.at ≤ length l.samples;
  gains : Gains (g.W.Sink.written l.fn.out) (g.W.Sink.written l.out) (spelled (take l.at l.samples));
  count : g.W.Sink.fault_count l.out ≡ g.W.Sink.fault_count l.fn.out;
}

abbrev pub decreases-loop-at : goal.decreases-loop-at
decreases-loop-at g l = length l.samples - l.at

use Rattle.std.proofs.Common.{length, take, ◌-◌, ◌≡◌, ◌≤◌}
use Rattle.raw_feed.proofs.Moves.{Wrote}
use Rattle.raw_feed.proofs.sink.put_all.Given as goal

-- the bytes so far were written, and nothing failed
abbrev pub invariant-loop-at : goal.invariant-loop-at
invariant-loop-at g l = record {
  place : l.at ≤ length l.bytes;
  wrote : Wrote (g.W.Sink.written l.fn.out) (g.W.Sink.written l.out) (take l.at l.bytes);
  count : g.W.Sink.fault_count l.out ≡ g.W.Sink.fault_count l.fn.out;
}

abbrev pub decreases-loop-at : goal.decreases-loop-at
decreases-loop-at g l = length l.bytes - l.at

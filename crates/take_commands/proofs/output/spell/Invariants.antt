use Rattle.std.proofs.Common.{length, take, ◌*◌, ◌≡◌}
use Rattle.raw_feed.specs.Pictures.{spelled}
use Rattle.rec_bytes.specs.Places.{with_bytes}
use Rattle.take_commands.proofs.output.spell.Given as goal

-- the samples so far are spelled at the front
abbrev pub invariant-loop-k : goal.invariant-loop-k
invariant-loop-k l = record {
  long : length l.bytes ≡ 2 * length l.samples;
  front : l.bytes ≡ with_bytes l.fn.bytes 0 (spelled (take l.k l.samples));
}

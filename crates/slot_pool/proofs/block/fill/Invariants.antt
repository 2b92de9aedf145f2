use Rattle.std.proofs.Common.{◌≡◌, ◌+◌, length}
use Rattle.slot_pool.proofs.block.fill.Given as goal

-- the bytes so far were written, and the others are room
abbrev pub invariant-loop-written : goal.invariant-loop-written
invariant-loop-written l = record {
  same : l.bytes.at ≡ l.fn.bytes.at;
  long : length l.bytes.written ≡ l.written;
  room : l.bytes.room + l.written ≡ l.len;
}

use Rattle.std.proofs.Common.{length, ◌-◌, ◌≡◌, ◌+◌, ◌*◌, ◌≤◌}
use Rattle.bit_io.specs.inner.Window.{IsLoaded, bits_left}
use Rattle.bit_io.proofs.window.last_bytes.Given as goal

abbrev pub invariant-loop-window : goal.invariant-loop-window
invariant-loop-window l = record {
  loaded : IsLoaded l.bytes l.window.at l.window.word l.window.count;
  room : l.window.count + 8 * (length l.bytes - l.window.at) ≤ 56;
  left : bits_left l.bytes l.window.at l.window.word l.window.count ≡ bits_left l.bytes l.fn.window.at l.fn.window.word l.fn.window.count;
  place : 8 * l.window.at - l.window.count ≡ 8 * l.fn.window.at - l.fn.window.count;
}

abbrev pub decreases-loop-window : goal.decreases-loop-window
decreases-loop-window l = length l.bytes - l.window.at

use Rattle.std.proofs.Common.{◌≡◌, ◌+◌, length, take}
use Rattle.rec_bytes.specs.Places.{with_bytes}
use Rattle.local_sets.specs.Values.{utf16_bytes}
use Rattle.local_sets.proofs.value.put_text.Given as goal

abbrev pub invariant-letters : goal.invariant-letters
invariant-letters l = record {
  end : l.end ≡ l.at + length (utf16_bytes (take l.letter-index l.letters));
  written : l.out ≡ with_bytes l.fn.out l.at (utf16_bytes (take l.letter-index l.letters));
}

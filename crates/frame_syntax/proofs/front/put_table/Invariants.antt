use Rattle.std.proofs.Common.{◌≡◌, ◌+◌, ◌*◌, take}
use Rattle.rec_bytes.specs.Places.{with_bytes}
use Rattle.frame_syntax.specs.Written.{table_of}
use Rattle.frame_syntax.proofs.front.put_table.Given as goal

abbrev pub invariant-entries : goal.invariant-entries
invariant-entries l = record { end : l.end ≡ l.at + 2 * l.k; out : l.out ≡ with_bytes l.fn.out l.at (table_of (take l.k l.sizes)) }

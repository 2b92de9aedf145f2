use Rattle.std.proofs.Common.{◌≡◌, ◌+◌, length, take}
use Rattle.rec_bytes.specs.Places.{with_bytes}
use Rattle.local_sets.specs.Sets.{items_bytes}
use Rattle.local_sets.proofs.set.put_items.Given as goal

abbrev pub invariant-items : goal.invariant-items
invariant-items l = record {
  end : l.end ≡ l.at + length (items_bytes (take l.item-index l.items));
  written : l.out ≡ with_bytes l.fn.out l.at (items_bytes (take l.item-index l.items));
}

use Rattle.std.proofs.Common.{◌≡◌, length, take}
use Rattle.local_sets.specs.Sets.{items_bytes}
use Rattle.local_sets.proofs.set.items_len.Given as goal

abbrev pub invariant-items : goal.invariant-items
invariant-items l = l.len ≡ length (items_bytes (take l.item-index l.items))

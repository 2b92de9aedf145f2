use Rattle.std.proofs.Common.{arith}
use Rattle.local_sets.specs.Sets.{item_bytes}
use Rattle.local_sets.specs.declared.set.Item.{Item}
use Rattle.local_sets.specs.declared.value.Value.TheVariants.{Byte}
use Rattle.local_sets.specs.laws.Writes.{within}
use Rattle.local_sets.proofs.set.items_len.Goals as goal

pub overflow_add-len : goal.overflow_add-len
overflow_add-len c =
    let first : Item = record { tag = 0; value = Byte 0 } in
    omega (arith, c.item_len-len.ensures, c.items.invariant, within item_bytes first c.items.item-index c.args.items.now c.items-test.true)

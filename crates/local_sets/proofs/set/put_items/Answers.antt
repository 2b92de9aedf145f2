use Rattle.local_sets.specs.Sets.{item_bytes}
use Rattle.local_sets.specs.declared.set.Item.{Item}
use Rattle.local_sets.specs.declared.value.Value.TheVariants.{Byte}
use Rattle.local_sets.specs.laws.Writes.{room_for, one_more}
use Rattle.local_sets.proofs.set.put_items.Goals as goal

none : Item
none = record { tag = 0; value = Byte 0 }

pub put_item-end-requires : goal.put_item-end-requires
unfolding none
put_item-end-requires c =
    room_for item_bytes none c.items.item-index c.args.items.now c.args.out.now c.items.out c.args.at c.items.end c.items-test.true c.requires c.items.invariant.end c.items.auto.out

pub items-preserved : goal.items-preserved
unfolding none
items-preserved c =
    let more = one_more item_bytes none c.items.item-index c.args.items.now c.args.out.now c.items.out c.put_item-end.new.out c.args.at c.items.end c.put_item-end.result c.items-test.true c.requires c.items.invariant.end c.items.invariant.written c.put_item-end.ensures.end c.put_item-end.ensures.written in
    record { end = more.0; written = more.1 }

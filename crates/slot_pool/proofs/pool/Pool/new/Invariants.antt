use Rattle.std.proofs.Common.{◌≡◌, replicate, true}
use Rattle.slot_pool.specs.inner.Keeping.{are_free, AreSlotsOf}
use Rattle.slot_pool.specs.inner.Links.{AreLinked, below}
use Rattle.slot_pool.proofs.pool.Pool.new.Given as goal

-- the slots so far are in the list, the last one first
abbrev pub invariant-loop-place : goal.invariant-loop-place
invariant-loop-place g l = record {
  owned : AreSlotsOf g.P.PoolName.block l.owner;
  free : are_free l.owner.slots ≡ replicate l.slots true;
  listed : AreLinked l.owner.slots l.first (below l.place);
}

use Rattle.std.proofs.Common.{List, Bool, subst, sym}
use Rattle.slot_pool.specs.Pools.{Takes}
use Rattle.slot_pool.specs.inner.Keeping.{are_free}
use Rattle.slot_pool.proofs.CountLemmas.{some_free}
use Rattle.slot_pool.proofs.LinkLemmas.{first_is_free}
use Rattle.slot_pool.proofs.PoolLemmas.{takes, taken}
use Rattle.slot_pool.proofs.pool.Pool.take.Goals as goal

pub slot_out-slot-requires-clause-free : goal.slot_out-slot-requires-clause-free
slot_out-slot-requires-clause-free g c = let p = c.self.inside in first_is_free p.owner.slots p.first p.free (some_free p.free c.if-self-eq0.false) c.self.invariant.listed

pub invariant_of-self : goal.invariant_of-self
invariant_of-self g c =
    let p = c.self.inside in let out = c.slot_out-slot in
    taken g.P.PoolName.block p.at.ptr p.slots p.size p.free p.first p.owner p.right c.self.invariant out.new.owner out.result.bytes c.link-next.result
    (some_free p.free c.if-self-eq0.false) out.ensures.slot.1 out.ensures.owned out.ensures.slots c.link-next.ensures

pub returns-clause-taken : goal.returns-clause-taken
returns-clause-taken g c =
    let p = c.self.inside in let out = c.slot_out-slot in let new = are_free out.new.owner.slots in
    subst (λ (l : List Bool). Takes l out.result.place new) c.self.view_is
    (subst (λ k. Takes (are_free p.owner.slots) k new) (sym out.ensures.slot.0) (takes p.owner.slots out.new.owner.slots p.first out.result.bytes out.ensures.slot.1 out.ensures.slots))

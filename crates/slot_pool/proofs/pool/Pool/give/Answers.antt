use Rattle.std.proofs.Common.{◌≡◌, ◌+◌, ◌<◌, length, List, Bool, subst, ap, sym, arith}
use Rattle.slot_pool.specs.Pools.{Gives}
use Rattle.slot_pool.specs.Slots.{SlotSeen}
use Rattle.slot_pool.specs.inner.Keeping.{are_free, IsPool}
use Rattle.slot_pool.proofs.PoolLemmas.{gives, given, one_fits}
use Rattle.slot_pool.proofs.pool.Pool.give.Goals as goal

pub overflow_add-self : goal.overflow_add-self
overflow_add-self g c =
    let p = c.self.inside in let k = c.set_link.new.self.place in let same : c.slot.inside.place ≡ k = ap (λ (s : SlotSeen). s.place) c.slot.view_is in
    record { fits = one_fits g.P.PoolName.block p.at.ptr p.slots p.size p.free p.first p.owner p.right c.self.invariant k (omega (arith, same, c.slot.invariant.within)) c.slot_in.ensures.was }

pub invariant_of-self : goal.invariant_of-self
invariant_of-self g c =
    let p = c.self.inside in let s = c.set_link.new.self in let back = c.slot_in in let block = g.P.PoolName.block in
    let same : c.slot.inside.place ≡ s.place = ap (λ (t : SlotSeen). t.place) c.slot.view_is in
    subst (λ k. IsPool block p.at.ptr p.slots p.size (p.free + 1) k back.new.owner p.right) (sym same)
    (given block p.at.ptr p.slots p.size p.free p.first p.owner p.right c.self.invariant back.new.owner s.place s.bytes (omega (arith, same, c.slot.invariant.within))
    back.ensures.was back.ensures.owned back.ensures.slots c.set_link.ensures.link)

pub returns : goal.returns
returns g c =
    let p = c.self.inside in let s = c.set_link.new.self in let back = c.slot_in in let new = are_free back.new.owner.slots in
    let same : c.slot.inside.place ≡ s.place = ap (λ (t : SlotSeen). t.place) c.slot.view_is in
    let within : s.place < length p.owner.slots = omega (arith, same, c.slot.invariant.within, c.self.invariant.owned.count) in
    record {
      given = subst (λ (l : List Bool). Gives l c.args.slot.place new) c.self.view_is
          (subst (λ k. Gives (are_free p.owner.slots) k new) c.set_link.ensures.place (gives p.owner.slots back.new.owner.slots s.place s.bytes within back.ensures.was back.ensures.slots));
    }

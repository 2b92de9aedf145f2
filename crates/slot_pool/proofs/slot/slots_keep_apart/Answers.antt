use Rattle.std.proofs.Common.{subst, ap, sym}
use Rattle.slot_pool.specs.Slots.{SlotSeen, IsByteOf}
use Rattle.slot_pool.proofs.PoolLemmas.{byte_of_slot}
use Rattle.slot_pool.proofs.slot.slots_keep_apart.Goals as goal

pub returns-clause-apart : goal.returns-clause-apart
returns-clause-apart g c = λ byte first second.
    let p = c.first.inside in let q = c.second.inside in
    c.keep_apart.ensures.0 byte
    (byte_of_slot g.P.PoolName.block p.place p.size p.at.ptr p.bytes c.first.invariant byte (subst (λ k. IsByteOf g.P.PoolName.block k byte) (ap (λ (s : SlotSeen). s.place) (sym c.first.view_is)) first))
    (byte_of_slot g.Q.PoolName.block q.place q.size q.at.ptr q.bytes c.second.invariant byte (subst (λ k. IsByteOf g.Q.PoolName.block k byte) (ap (λ (s : SlotSeen). s.place) (sym c.second.view_is)) second))

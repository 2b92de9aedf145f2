use Rattle.std.proofs.Common.{refl, ap, sym, ◌∙◌, arith}
use Rattle.slot_pool.specs.Pools.{live_count}
use Rattle.slot_pool.proofs.PoolLemmas.{closes, none_live, some_live}
use Rattle.slot_pool.proofs.pool.Pool.close.Goals as goal

pub returns-then-self-clause-accepted : goal.returns-then-self-clause-accepted
returns-then-self-clause-accepted g c =
    let p = c.self.inside in (
      (λ e. cc),
      (λ none. absurd (some_live g.P.PoolName.block p.at.ptr p.slots p.size p.free p.first p.owner p.right c.self.invariant c.if-self.true (ap live_count c.self.view_is ∙ none))),
    )

pub join-requires : goal.join-requires
join-requires g c = let p = c.self.inside in closes g.P.PoolName.block p.at.ptr p.slots p.size p.free p.first p.owner p.right c.self.invariant (omega (arith, c.if-self.false))

pub returns-clause-accepted : goal.returns-clause-accepted
returns-clause-accepted g c =
    let p = c.self.inside in ((λ _. ap live_count (sym c.self.view_is) ∙ none_live g.P.PoolName.block p.at.ptr p.slots p.size p.free p.first p.owner p.right c.self.invariant (omega (arith, c.if-self.false))), (λ _. refl))

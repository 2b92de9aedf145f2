use Rattle.std.proofs.Common.{◌+◌, List, Bool, ap, sym, ◌∙◌}
use Rattle.slot_pool.specs.Pools.{live_count}
use Rattle.slot_pool.proofs.PoolLemmas.{in_all}
use Rattle.slot_pool.proofs.pool.Pool.free.Goals as goal

pub returns-clause-live : goal.returns-clause-live
returns-clause-live g c =
    let p = c.self.inside in ap (λ (l : List Bool). p.free + live_count l) (sym c.self.view_is) ∙ in_all g.P.PoolName.block p.at.ptr p.slots p.size p.free p.first p.owner p.right c.self.invariant

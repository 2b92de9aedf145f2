use Rattle.std.proofs.Common.{sym, subst}
use Rattle.take_disk.specs.Held.{Areas}
use Rattle.commit_sidecar.specs.Recovers.{IsSafe}
use Rattle.recovery.proofs.KeepLemmas.{keeps_acked, left_safe}
use Rattle.recovery.proofs.StayLemmas.{kept_image}
use Rattle.recovery.proofs.laws.acked_units_are_kept.Goals as goal

pub returns-clause-safe : goal.returns-clause-safe
returns-clause-safe g c = keeps_acked g.L.TakeLayout c.recoveries_are_one.ensures

pub returns-clause-stopped : goal.returns-clause-stopped
returns-clause-stopped g c = λ cfg units acked first disk held now image done told safe stays left leads.
    keeps_acked g.L.TakeLayout c.recoveries_are_one.ensures cfg units acked image done now
    (left_safe g.L.TakeLayout g.D.TakeDisk g.met.D.TakeDisk.crash cfg units acked first disk held image told safe stays left) leads

pub returns-clause-stays : goal.returns-clause-stays
returns-clause-stays g c = left_safe g.L.TakeLayout g.D.TakeDisk g.met.D.TakeDisk.crash

pub returns-clause-again : goal.returns-clause-again
returns-clause-again g c = λ cfg units acked held kept safe image left.
    subst (λ (areas : Areas). IsSafe g.L.TakeLayout cfg units acked areas) (sym (kept_image held kept image left)) safe

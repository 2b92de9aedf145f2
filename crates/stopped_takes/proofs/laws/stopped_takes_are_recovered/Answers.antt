use Rattle.take_state.specs.Seen.{acked}
use Rattle.stopped_takes.proofs.StoppedLemmas.{left_safe, recovered_take, stays_safe}
use Rattle.stopped_takes.proofs.laws.stopped_takes_are_recovered.Goals as goal

pub returns-clause-left : goal.returns-clause-left
returns-clause-left g c = left_safe g.L.TakeLayout g.D.TakeDisk

pub returns-clause-again : goal.returns-clause-again
returns-clause-again g c = λ named seen image other first disk is holds stays since. record {
  units = is.units;
  stands = is.stands;
  safe = stays_safe g.L.TakeLayout g.D.TakeDisk g.met.D.TakeDisk.crash seen.config is.units (acked seen) image other first disk holds is.safe stays since;
}

pub returns-clause-accepted : goal.returns-clause-accepted
returns-clause-accepted g c = λ named seen image fault is.
    c.recoveries_stand.ensures.refused image _ _ fault is.safe.recovers

pub returns-clause-recovered : goal.returns-clause-recovered
returns-clause-recovered g c = λ named seen image done now is.
    recovered_take g.L.TakeLayout g.D.TakeDisk c.recoveries_are_one.ensures c.acked_units_are_kept.ensures.safe named seen is.units is.stands image
    done now is.safe

-- What `recover` leaves of its devices, by its part that calls the disk and its part that writes.
use Rattle.std.proofs.Common.{inl, inr, [], Result, Ok, Err, refl, sym, ap}
use Rattle.std.proofs.lemmas.List.{append-nil}
use Rattle.raw_feed.specs.Written.{Writes}
use Rattle.recovery.specs.Recoveries.{Leads, as_read}
use Rattle.recovery.specs.declared.answer.Recovered.{Recovered}
use Rattle.run_parts.specs.Statuses.{sink_answer}
use Rattle.take_disk.specs.Calls.{Steps}
use Rattle.take_layout.specs.declared.layout.TakeLayout.{Ghosts}
use Rattle.take_commands.specs.Answers.{take_answer}
use Rattle.take_commands.specs.Recovers.{RunsRecovery, recover_line}
use Rattle.take_commands.specs.Views.{Devices}
use Rattle.take_commands.specs.declared.fault.TakeFault.{TakeFault}
use Rattle.take_commands.specs.declared.fault.TakeFault.TheVariants.{Memory, Disk, Sink, NotOp1a, Past, Refused, NoTake, Damaged}
use Rattle.take_commands.specs.inner.Steps.{HasSinkCause}
use Rattle.take_commands.proofs.GainLemmas.{gains_all, gains_front}

-- the take is closed, and the part that writes came so far
pub runs_closed : {L : Type 0} (layout : Ghosts L) (before now : Devices) (done : Recovered) (r : Result (Unit {0}) TakeFault)
    → Steps before.told now.told (λ old new. Leads layout done (as_read old) new) → Writes before.written now.written r (recover_line done)
    → HasSinkCause before.sink now.sink r → RunsRecovery layout before now (take_answer r)
runs_closed layout before now done (Ok tt) leads w cause = inl (record {
  done = done;
  leads = leads;
  written = recover_line done;
  missing = [];
  line = sym (append-nil (recover_line done));
  gains = gains_all TakeFault before.written now.written (recover_line done) w;
  ends = inl (refl, refl);
})
runs_closed layout before now done (Err (Sink count)) leads w cause =
    let v = gains_front before.written now.written (Sink count) (recover_line done) w in
    inl (record {
      done = done;
      leads = leads;
      written = v.0;
      missing = v.1;
      line = v.2;
      gains = v.3;
      ends = inr (ap sink_answer cause.0, v.4);
    })
runs_closed layout before now done (Err Memory) leads w cause = absurd cause
runs_closed layout before now done (Err (Disk count)) leads w cause = absurd cause
runs_closed layout before now done (Err (NotOp1a clause at)) leads w cause = absurd cause
runs_closed layout before now done (Err (Past count number)) leads w cause = absurd cause
runs_closed layout before now done (Err (Refused number fault)) leads w cause = absurd cause
runs_closed layout before now done (Err (NoTake at area)) leads w cause = absurd cause
runs_closed layout before now done (Err (Damaged at area)) leads w cause = absurd cause

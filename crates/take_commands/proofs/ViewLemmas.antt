-- What a command leaves of its devices, by its part that reads and its part that writes.
use Rattle.std.proofs.Common.{◌≡◌, ⊎_elim, inr, ℕ, List, [], Option, Some, None, Result, Ok, Err, refl, arith}
use Rattle.raw_feed.specs.Written.{Writes}
use Rattle.rec_bytes.specs.declared.status.Status.{Status}
use Rattle.run_parts.specs.Statuses.{answer}
use Rattle.take_disk.specs.Calls.{IfTold}
use Rattle.take_disk.specs.Held.{Disk as Holds}
use Rattle.take_commands.specs.Answers.{take_answer}
use Rattle.take_commands.specs.Views.{Devices, Views, ViewsBytes}
use Rattle.take_commands.specs.declared.fault.TakeFault.{TakeFault}
use Rattle.take_commands.specs.declared.fault.TakeFault.TheVariants.{Memory, Disk, Sink, NotOp1a, Past, Refused, NoTake, Damaged}
use Rattle.take_commands.specs.inner.Steps.{HasSinkCause, IsDiskFault, IsToAnswer, IsToWrite}
use Rattle.take_commands.proofs.CauseLemmas.{not_sink}
use Rattle.take_commands.proofs.GainLemmas.{gains_all, gains_front, gains_none}

-- what holds of each value that is told holds where one is
if_told : {T : Type 0} (told : Option T) (P : T → Type 0) → ((value : T) → told ≡ Some value → P value) → IfTold told P
if_told None P each = tt
if_told (Some value) P each = each value refl

-- the part that reads ended with a fault, and nothing was written
pub views_fault : (Said : List ℕ → List ℕ → Status → Type 0) (before now : Devices) (fault : TakeFault)
    → IsToAnswer Said before.told fault → IsDiskFault before.disk now.disk fault → now.written ≡ before.written
    → Views Said before now (take_answer (Err fault))
views_fault Said before now fault said cause same =
    if_told before.told (λ (disk : Holds). ViewsBytes Said disk.essence.reads before now (take_answer (Err fault)))
    (λ disk is. record {
      written = [];
      gains = gains_none before.written now.written same;
      says = said disk is;
      cut = λ seven. absurd (not_sink before.disk now.disk fault cause seven);
      nothing = λ none. refl;
    })

-- the part that reads had what was to be written, and the part that writes came so far
pub views_written : (Said : List ℕ → List ℕ → Status → Type 0) (before now : Devices) (r : Result (Unit {0}) TakeFault) (piece : List ℕ)
    → IsToWrite Said before.told piece → Writes before.written now.written r piece → HasSinkCause before.sink now.sink r
    → Views Said before now (take_answer r)
views_written Said before now (Ok tt) piece said w cause =
    if_told before.told (λ (disk : Holds). ViewsBytes Said disk.essence.reads before now (answer 0 0 0 0))
    (λ disk is. record {
      written = piece;
      gains = gains_all TakeFault before.written now.written piece w;
      says = λ whole. said disk is;
      cut = λ (seven : 0 ≡ 7). absurd (omega arith);
      nothing = ⊎_elim (λ (one : 0 ≡ 1). absurd (omega arith)) (λ (six : 0 ≡ 6). absurd (omega arith));
    })
views_written Said before now (Err (Sink count)) piece said w cause =
    let v = gains_front before.written now.written (Sink count) piece w in
    if_told before.told (λ (disk : Holds). ViewsBytes Said disk.essence.reads before now (take_answer (Err (Sink count))))
    (λ disk is. record {
      written = v.0;
      gains = v.3;
      says = λ whole. absurd (whole (inr (inr refl)));
      cut = λ seven. record { whole = piece; answered = answer 0 0 0 0; said = said disk is; missing = v.1; front = v.2; lacks = v.4 };
      nothing = ⊎_elim (λ (one : 7 ≡ 1). absurd (omega arith)) (λ (six : 7 ≡ 6). absurd (omega arith));
    })
views_written Said before now (Err Memory) piece said w cause = absurd cause
views_written Said before now (Err (Disk count)) piece said w cause = absurd cause
views_written Said before now (Err (NotOp1a clause at)) piece said w cause = absurd cause
views_written Said before now (Err (Past count number)) piece said w cause = absurd cause
views_written Said before now (Err (Refused number fault)) piece said w cause = absurd cause
views_written Said before now (Err (NoTake at area)) piece said w cause = absurd cause
views_written Said before now (Err (Damaged at area)) piece said w cause = absurd cause

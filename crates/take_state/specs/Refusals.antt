-- Why a take isn't opened, or a frame not published (own). docs/ARCHITECTURE.md, "The state of a take".
use Rattle.std.specs.Prelude.{◌≡◌, ◌-◌, ◌==◌, ℕ, Bool, not, if◌then◌else◌, nat_le, Option, Some, None}
use Rattle.take_state.specs.declared.fault.TheConstants.{COMMITS_AREA, ESSENCE_AREA}
use Rattle.take_state.specs.declared.fault.OpenCause.{OpenCause}
use Rattle.take_state.specs.declared.fault.OpenCause.TheVariants as opening
use Rattle.take_state.specs.declared.fault.PublishFault.{PublishFault}
use Rattle.take_state.specs.declared.fault.PublishFault.TheVariants as publishing
use Rattle.take_state.specs.Events.{Stops}
use Rattle.take_state.specs.Seen.{TakeSeen, published, acked, faults_in}

-- a take exists where an area isn't empty; the essence is looked at first
abbrev pub open_refusal : ℕ → ℕ → Option OpenCause
open_refusal essence commits =
    if not (essence == 0) then Some (opening.TakeExists essence ESSENCE_AREA)
    else if not (commits == 0) then Some (opening.TakeExists commits COMMITS_AREA)
    else None

-- the cause is due: that a take exists comes first, and else nothing was changed for want of memory
abbrev pub RefusesOpen : {D : Type 0} → ℕ → ℕ → D → D → OpenCause → Type 0
RefusesOpen essence commits old new (opening.TakeExists len area) =
    (open_refusal essence commits ≡ Some (opening.TakeExists len area)) × (new ≡ old)
RefusesOpen essence commits old new opening.Memory = (open_refusal essence commits ≡ None) × (new ≡ old)
RefusesOpen essence commits old new (opening.Disk faults) = open_refusal essence commits ≡ None

-- the refusal of a frame that is due: the take was stopped, its tail was written, the frame is out of turn, the take is full,
-- or its commits lag
abbrev pub behind_tail : {D : Type 0} → TakeSeen D → ℕ → Option PublishFault
behind_tail seen number =
    if seen.tail then Some (publishing.Ended (published seen))
    else if not (number == published seen) then Some (publishing.OutOfTurn (published seen) number)
    else if nat_le seen.config.max_frames (published seen) then Some (publishing.TakeFull seen.config.max_frames)
    else if nat_le seen.config.lag (published seen - acked seen) then Some (publishing.Lagging (published seen) (acked seen))
    else None

abbrev pub or_behind : Option ℕ → Option PublishFault → Option PublishFault
or_behind None later = later
or_behind (Some faults) later = Some (publishing.Stopped faults)

abbrev pub publish_refusal : {D : Type 0} → TakeSeen D → ℕ → Option PublishFault
publish_refusal seen number = or_behind (faults_in seen.history) (behind_tail seen number)

-- the disk failed where no refusal was due; else the refusal was due, and nothing has changed
abbrev pub RefusesPublish : {D : Type 0} → ℕ → TakeSeen D → TakeSeen D → PublishFault → Type 0
RefusesPublish number old new (publishing.Disk faults) = (publish_refusal old number ≡ None) × Stops old new faults
RefusesPublish number old new fault = (publish_refusal old number ≡ Some fault) × (new ≡ old)

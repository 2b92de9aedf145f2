-- When each answer may come, by the words as well (own). docs/FORMATS.md, "Statuses".
use Rattle.std.specs.Prelude.{◌≡◌, ◌⊎◌, List, Option, Some, None}
use Rattle.clap.specs.Walk.{Text}
use Rattle.rec_bytes.specs.declared.status.Status.{Status}
use Rattle.run_parts.specs.Causes.{Counts, IsFeedAnswer, HasDeviceCauses, HasFeedCauses}
use Rattle.run_parts.specs.Statuses.{sink_answer}
use Rattle.take_commands.specs.Causes.{HasTakeCauses}
use Rattle.ingest_run.specs.declared.words.Command.{Command}
use Rattle.ingest_run.specs.declared.words.Command.TheVariants.{Wrap, Encode, Recover, Check, Frame}
use Rattle.ingest_run.specs.Commands.{Around, IsWordsAnswer}
use Rattle.ingest_run.specs.Words.{command_of}

-- the causes of an answer of `encode`, which is one for how a feed ends or for its sink, and never one for a unit
pub record HasPictureCauses (before now : Counts) (status : Status) : Type 0 where
  pub answered : IsFeedAnswer status ⊎ (status ≡ sink_answer now.sink)
  pub devices : HasDeviceCauses before now status

-- no device has failed
pub record HasNoFault {S D W : Type 0} (before now : Around S D W) : Type 0 where
  pub run : now.run.counts ≡ before.run.counts
  pub disk : now.view.disk ≡ before.view.disk

-- the counts of the devices that a command uses show the cause of its answer
abbrev pub CausesFor : {S D W : Type 0} → Option Command → Around S D W → Around S D W → Status → Type 0
CausesFor None before now status = HasNoFault before now × IsWordsAnswer status
CausesFor (Some Wrap) before now status = HasFeedCauses before.run.counts now.run.counts status
CausesFor (Some (Encode workers)) before now status = HasPictureCauses before.run.counts now.run.counts status
CausesFor (Some Recover) before now status = HasTakeCauses before.view now.view status
CausesFor (Some Check) before now status = HasTakeCauses before.view now.view status
CausesFor (Some (Frame number)) before now status = HasTakeCauses before.view now.view status

-- the words and the counts of faults show the cause of the answer
pub record HasCauses {S D W : Type 0} (words : List Text) (before now : Around S D W) (status : Status) : Type 0 where
  pub faulty : status.code ≡ 2 → command_of words ≡ None
  pub causes : CausesFor (command_of words) before now status

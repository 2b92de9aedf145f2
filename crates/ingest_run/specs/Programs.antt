-- What a program writes, answers and says of its answer (own). docs/FORMATS.md, "Words" and "Statuses".
use Rattle.std.specs.Prelude.{◌≡◌, ◌⊎◌, ℕ, List, [], ◌++◌, Option, Some, None, Result, Ok, Err}
use Rattle.clap.specs.Walk.{Text}
use Rattle.rec_bytes.specs.Faults.{Rose}
use Rattle.rec_bytes.specs.declared.status.Status.{Status}
use Rattle.take_layout.specs.declared.layout.TakeLayout.{Ghosts}
use Rattle.run_parts.specs.Gains.{Gains, Lacks}
use Rattle.run_parts.specs.Statuses.{answer, memory_answer, words_answer, sink_answer}
use Rattle.ingest_run.specs.declared.words.WordsFault.{WordsFault}
use Rattle.ingest_run.specs.declared.words.WordsFault.TheVariants.{Memory, Faulty}
use Rattle.ingest_run.specs.declared.words.Command.{Command}
use Rattle.ingest_run.specs.Causes.{HasCauses}
use Rattle.ingest_run.specs.Commands.{Around, RunsCommand}
use Rattle.ingest_run.specs.Helps.{help_of}
use Rattle.ingest_run.specs.Messages.{Taken, SaysAnswer, taken}
use Rattle.ingest_run.specs.Words.{command_of}

-- the one call of a command: what it did and answered, and the cause of the answer
pub record AnswersCommand {L S D W : Type 0} (layout : Ghosts L) (words : List Text) (before now : Around S D W) (status : Status) : Type 0 where
  pub ran : RunsCommand layout words before now status
  pub cause : HasCauses words before now status

-- all was done and the whole text was written, or the sink failed and lacks a part of it
abbrev pub EndsHelp : List ℕ → Taken → Taken → Status → Type 0
EndsHelp missing before now status =
    ((status ≡ answer 0 0 0 0) × (missing ≡ []) × (now.faults ≡ before.faults))
    ⊎ ((status ≡ sink_answer now.faults) × Rose before.faults now.faults × Lacks before.written missing)

-- a text of help was written, or a front of it where the sink failed
pub record WritesHelp (text : List ℕ) (before now : Taken) (status : Status) : Type 0 where
  pub written : List ℕ
  pub missing : List ℕ
  pub front : text ≡ written ++ missing
  pub gains : Gains before.written now.written written
  pub ends : EndsHelp missing before now status

-- a text of help was written, and neither the feed was touched nor the disk
pub record AnswersHelp {S D W : Type 0} (text : List ℕ) (before now : Around S D W) (status : Status) : Type 0 where
  pub feed : now.feed ≡ before.feed
  pub disk : now.disk ≡ before.disk
  pub help : WritesHelp text (taken before.run.written before.run.counts.sink) (taken now.run.written now.run.counts.sink) status

-- the answer where the words can't be read
abbrev pub fault_answer : WordsFault → Status
fault_answer Memory = memory_answer
fault_answer Faulty = words_answer

-- help goes before any command
abbrev pub AnswersFor : {L S D W : Type 0} → Ghosts L → Option (List ℕ) → List Text → Around S D W → Around S D W → Status → Type 0
AnswersFor layout (Some text) words before now status = AnswersHelp text before now status
AnswersFor layout None words before now status = AnswersCommand layout words before now status

-- what a program does and answers for its words; those that can't be read touch nothing
abbrev pub AnswersWords : {L S D W : Type 0} → Ghosts L → Result (List Text) WordsFault → Around S D W → Around S D W → Status → Type 0
AnswersWords layout (Ok words) before now status = AnswersFor layout (help_of words) words before now status
AnswersWords layout (Err fault) before now status = (status ≡ fault_answer fault) × (now ≡ before)

-- the command that a program runs; none where its words ask for help, or can't be read
abbrev pub runs_for : Option (List ℕ) → List Text → Option Command
runs_for (Some text) words = None
runs_for None words = command_of words

abbrev pub runs_in : Result (List Text) WordsFault → Option Command
runs_in (Ok words) = runs_for (help_of words) words
runs_in (Err _) = None

-- the program ends with its answer's code, and has written its messages
pub record EndsProgram (Answered : Status → Type 0) (before now : Taken) (code : ℕ) : Type 0 where
  pub status : Status
  pub answered : Answered status
  pub code_is : code ≡ status.code
  pub said : SaysAnswer status before now

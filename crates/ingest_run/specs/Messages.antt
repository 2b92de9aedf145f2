-- What a program writes to its messages (own). docs/FORMATS.md, "Statuses".
use Rattle.std.specs.Prelude.{◌≡◌, ◌≢◌, ◌==◌, ◌⊎◌, ℕ, List, [], ◌++◌, All, Option, codes, decimal, if◌then◌else◌}
use Rattle.rec_bytes.specs.Faults.{Rose}
use Rattle.rec_bytes.specs.declared.status.Status.{Status}
use Rattle.ingest_run.specs.declared.help.TheConstants.{USAGE}
use Rattle.run_parts.specs.Gains.{Gains, Lacks}

-- the line that says an answer
abbrev pub fault_line : Status → List ℕ
fault_line status =
    codes "ingest_server: status " ++ decimal status.code ++ codes " refusal " ++ decimal status.number
    ++ codes " at " ++ decimal status.at ++ codes " other " ++ decimal status.other ++ codes "\n"

-- what stands behind the sentence: the end of its line, and how the program is called where the words are no command
abbrev pub closing : Status → List ℕ
closing status = if status.code == 2 then USAGE.now else codes "\n"

-- the messages of an answer, with a sentence that says it to a person: none where all was done
abbrev pub messages_of : Status → List ℕ → List ℕ
messages_of status sentence =
    if status.code == 0 then [] else (fault_line status ++ codes "ingest_server: ") ++ (sentence ++ closing status)

-- no line feed stands in a text
abbrev pub IsOneLine : List ℕ → Type 0
IsOneLine text = All (λ byte. byte ≢ 10) text

-- a sink: what was written, where it tells that, and how often it has failed
pub record Taken : Type 0 where
  pub written : Option (List ℕ)
  pub faults : ℕ

-- a sink by what it shows
abbrev pub taken : Option (List ℕ) → ℕ → Taken
taken written faults = record { written = written; faults = faults }

-- bytes were written: a front of them, and the whole unless the sink failed, whose count stays where none is missing
pub record Reports (bytes : List ℕ) (before now : Taken) : Type 0 where
  pub written : List ℕ
  pub missing : List ℕ
  pub front : bytes ≡ written ++ missing
  pub gains : Gains before.written now.written written
  pub whole : missing ≢ [] → Rose before.faults now.faults
  pub kept : (now.faults ≡ before.faults) ⊎ Lacks before.written missing

-- an answer was said: its fault line, and a sentence in a line of its own
pub record SaysAnswer (status : Status) (before now : Taken) : Type 0 where
  pub sentence : List ℕ
  pub one_line : IsOneLine sentence
  pub said : Reports (messages_of status sentence) before now

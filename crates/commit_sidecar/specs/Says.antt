-- What a commit file says (own). docs/formats/commits.md, "Commit file".
use Rattle.std.specs.Prelude.{◌≡◌, ◌≢◌, ℕ, ◌+◌, ◌*◌, false, List, [], ◌∷◌, ◌++◌, length, Option, Some, None}
use Rattle.rec_bytes.specs.Configuration.{Fields, Spells, spelling}
use Rattle.rec_bytes.specs.Views.{view}
use Rattle.take_core.specs.declared.mark.Mark.{Mark}
use Rattle.commit_sidecar.specs.declared.file.Said.{Said}
use Rattle.commit_sidecar.specs.declared.head.TheConstants.{MAGIC, HEAD_LEN}
use Rattle.commit_sidecar.specs.declared.note.TheConstants.{RECORD_LEN}
use Rattle.commit_sidecar.specs.Notes.{note_of, Follow, last_of}

-- the head: the magic and a configuration
abbrev pub head_of : Fields → List ℕ
head_of cfg = MAGIC ++ spelling cfg

-- open records: each a gate that is 1, and a note
abbrev pub opened : List Mark → List ℕ
opened [] = []
opened (mark ∷ marks) = 1 ∷ (note_of mark ++ opened marks)

-- the place of the gate behind so many records
abbrev pub gate_place : ℕ → ℕ
gate_place number = HEAD_LEN + RECORD_LEN * number

-- The commits say a configuration and marks: the head, then an open record of each mark, then a gate that isn't 1. What
-- stands behind this gate is open.
pub record Says (commits : List ℕ) (cfg : Fields) (marks : List Mark) : Type 0 where
  pub is_config : Spells (spelling cfg) cfg
  pub follow : Follow None marks
  pub gate : ℕ
  pub shut : gate ≢ 1
  pub rest : List ℕ
  pub is : commits ≡ head_of cfg ++ (opened marks ++ gate ∷ rest)

-- the mark that counts: the last one, or where there is none no frames and the essence's head
abbrev pub counting : ℕ → Option Mark → Mark
counting head_len None = record { count = 0; length = head_len; closed = false }
counting head_len (Some mark) = mark

abbrev pub said : ℕ → List Mark → Mark
said head_len marks = counting head_len (last_of marks)

-- the commits say just what is answered
pub record SaysSo (commits : List ℕ) (answer : Said) : Type 0 where
  pub marks : List Mark
  pub says : Says commits (view answer.config) marks
  pub number : answer.number ≡ length marks
  pub mark : answer.mark ≡ last_of marks

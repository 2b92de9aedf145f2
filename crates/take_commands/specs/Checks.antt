-- What `check` writes and answers (own). docs/FORMATS.md, "Lines and samples".
use Rattle.std.specs.Prelude.{◌≡◌, ◌⊎◌, ℕ, List, [], ◌++◌, codes, decimal, length}
use Rattle.rec_bytes.specs.declared.status.Status.{Status}
use Rattle.uuid.specs.Text.{hyphenated_text, lower}
use Rattle.mxf_op1a.specs.Op1a.{BreaksFirst, at_place}
use Rattle.mxf_reader.specs.Catalogues.{Contents, IsCatalogueOf}
use Rattle.run_parts.specs.Statuses.{answer}
use Rattle.take_commands.specs.Answers.{clause_answer}

-- the line that says what a file holds
abbrev pub check_line : Contents → List ℕ
check_line c =
    codes "take " ++ hyphenated_text lower c.take_id ++ codes " frames " ++ decimal (length c.places) ++ codes " bytes " ++ decimal c.bytes
    ++ codes " partitions " ++ decimal c.partitions ++ codes "\n"

-- the bytes are an OP1a file, and its line is written
pub record SaysFile (bytes written : List ℕ) (status : Status) : Type 0 where
  pub units : List (List ℕ)
  pub contents : Contents
  pub catalogue : IsCatalogueOf bytes units contents
  pub line : written ≡ check_line contents
  pub answered : status ≡ answer 0 0 0 0

-- they break a clause: nothing is written, and the answer names the first that they break, and where
pub record RefusesFile (bytes written : List ℕ) (status : Status) : Type 0 where
  pub clause : ℕ
  pub at : ℕ
  pub breaks : BreaksFirst bytes (at_place clause at)
  pub nothing : written ≡ []
  pub answered : status ≡ clause_answer clause at

-- what `check` writes and answers for the bytes of a take's file
abbrev pub Checks : List ℕ → List ℕ → Status → Type 0
Checks bytes written status = SaysFile bytes written status ⊎ RefusesFile bytes written status

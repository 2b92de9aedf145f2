-- What a reader of a commit file sees, piece by piece (own). docs/formats/commits.md, "Commit file".
use Rattle.std.specs.Prelude.{◌≡◌, ◌≢◌, ◌≤◌, ◌⊎◌, ℕ, List, ◌∷◌, ◌++◌, length, Option, None}
use Rattle.rec_bytes.specs.Configuration.{Fields, Spells, spelling}
use Rattle.take_core.specs.declared.mark.Mark.{Mark}
use Rattle.commit_sidecar.specs.declared.looks.Look.{Look}
use Rattle.commit_sidecar.specs.declared.looks.Look.TheVariants.{Shut, Open, Broken}
use Rattle.commit_sidecar.specs.Notes.{note_of, Follows, Follow, last_of}
use Rattle.commit_sidecar.specs.Refusals.{Breaks}
use Rattle.commit_sidecar.specs.Says.{head_of, opened, gate_place}

-- the bytes begin with the head of a configuration
pub record BeginsHead (bytes : List ℕ) (cfg : Fields) : Type 0 where
  pub is_config : Spells (spelling cfg) cfg
  pub rest : List ℕ
  pub is : bytes ≡ head_of cfg ++ rest

-- behind open records of which the last has a mark, the bytes begin so
abbrev pub Sees : Option Mark → List ℕ → Look → Type 0
Sees last bytes Shut = (gate : ℕ) × (rest : List ℕ) × (gate ≢ 1) × (bytes ≡ gate ∷ rest)
Sees last bytes (Open mark) = (rest : List ℕ) × (bytes ≡ 1 ∷ (note_of mark ++ rest)) × Follows last mark
Sees last bytes Broken = Breaks last bytes

-- the bytes begin with a head and so many open records, of which the last has a mark, and they end at a place
pub record HasRead (commits : List ℕ) (cfg : Fields) (at number : ℕ) (last : Option Mark) : Type 0 where
  pub marks : List Mark
  pub is_config : Spells (spelling cfg) cfg
  pub follow : Follow None marks
  pub rest : List ℕ
  pub is : commits ≡ head_of cfg ++ (opened marks ++ rest)
  pub counted : number ≡ length marks
  pub placed : at ≡ gate_place number
  pub ends : last ≡ last_of marks

-- the first bytes, of this number, are enough for a look at so many: they are as many, or all
abbrev pub IsEnough : ℕ → ℕ → List ℕ → Type 0
IsEnough wanted number bytes = (wanted ≤ number) ⊎ (length bytes ≤ number)

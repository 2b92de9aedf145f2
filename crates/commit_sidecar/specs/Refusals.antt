-- Why a commit file says nothing, and where (own). docs/formats/commits.md, "Refusals".
use Rattle.std.specs.Prelude.{◌≡◌, ◌≢◌, ◌≤◌, ◌<◌, ◌⊎◌, ℕ, ◌+◌, List, [], ◌∷◌, ◌++◌, length, take, drop, slice_index, Option, Some, None}
use Rattle.rec_bytes.specs.Configuration.{Fields, Spells, spelling, first_fault}
use Rattle.rec_bytes.specs.declared.config_fields.TheConstants.{CONFIG_LEN}
use Rattle.take_core.specs.declared.mark.Mark.{Mark}
use Rattle.commit_sidecar.specs.declared.file.SaidFault.{SaidFault}
use Rattle.commit_sidecar.specs.declared.file.SaidFault.TheVariants.{NoTake, Damaged}
use Rattle.commit_sidecar.specs.declared.file.TheConstants.{COMMITS_AREA}
use Rattle.commit_sidecar.specs.declared.head.TheConstants.{MAGIC, MAGIC_LEN, HEAD_LEN}
use Rattle.commit_sidecar.specs.Notes.{note_of, Follows, Follow, last_of}
use Rattle.commit_sidecar.specs.Says.{head_of, opened, gate_place}

-- a byte of the magic is there and differs, and none before it
pub record DiffersAt (commits : List ℕ) (at : ℕ) : Type 0 where
  pub there : at < length commits
  pub inside : at < MAGIC_LEN
  pub same : take at commits ≡ take at MAGIC
  pub other : slice_index commits at ≢ slice_index MAGIC at

-- the head is cut, and none of the magic's bytes that are there differs
pub record IsCutAt (commits : List ℕ) (at : ℕ) : Type 0 where
  pub same : take MAGIC_LEN commits ≡ take (length commits) MAGIC
  pub short : length commits < HEAD_LEN
  pub end : at ≡ length commits

-- the magic is right and the head whole, and a field of the configuration breaks its rule
pub record BreaksConfigAt (commits : List ℕ) (at : ℕ) : Type 0 where
  pub same : take MAGIC_LEN commits ≡ MAGIC
  pub whole : HEAD_LEN ≤ length commits
  pub field : ℕ
  pub broken : first_fault (take CONFIG_LEN (drop MAGIC_LEN commits)) ≡ Some field
  pub place : at ≡ MAGIC_LEN + field

-- the commits don't begin with a head, and this is the place
abbrev pub IsNoTake : List ℕ → ℕ → Type 0
IsNoTake commits at = DiffersAt commits at ⊎ (IsCutAt commits at ⊎ BreaksConfigAt commits at)

-- behind open records there is no gate; or there is one that is 1, and behind it no note of a mark that may follow: it is cut,
-- its closed byte is neither 0 nor 1, a number of it falls, or the last mark is closed
abbrev pub Breaks : Option Mark → List ℕ → Type 0
Breaks last rest = (rest ≡ []) ⊎ ((bytes : List ℕ) × (rest ≡ 1 ∷ bytes)
    × ((mark : Mark) (more : List ℕ) → bytes ≡ note_of mark ++ more → Follows last mark → ⊥))

-- behind the head and open records the commits break, and this is the place
pub record IsDamaged (commits : List ℕ) (at : ℕ) : Type 0 where
  pub cfg : Fields
  pub marks : List Mark
  pub is_config : Spells (spelling cfg) cfg
  pub follow : Follow None marks
  pub rest : List ℕ
  pub is : commits ≡ head_of cfg ++ (opened marks ++ rest)
  pub breaks : Breaks (last_of marks) rest
  pub place : at ≡ gate_place (length marks)

-- the refusal is due
abbrev pub Refuses : List ℕ → SaidFault → Type 0
Refuses commits (NoTake at other) = IsNoTake commits at × (other ≡ COMMITS_AREA)
Refuses commits (Damaged at other) = IsDamaged commits at × (other ≡ COMMITS_AREA)

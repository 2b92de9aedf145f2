-- Where the metadata of an OP1a file is wrong (SMPTE ST 377-1, ST 378). docs/formats/mxf.md, "What an OP1a file is".
use Rattle.std.specs.Prelude.{◌≡◌, ◌⊎◌, ℕ, ◌≤◌, false, List, ◌++◌, Contains, Some, None}
use Rattle.std.specs.List.{AllByRecursion}
use Rattle.mxf_metadata.specs.declared.labels.TheConstants.{MATERIAL_SET, FILE_SET}
use Rattle.mxf_metadata_reader.specs.PrimerTags.{tags_of_primer}
use Rattle.mxf_op1a.specs.Contents.{Placed, is_primer}
use Rattle.mxf_op1a.specs.Firsts.{IsFirst}
use Rattle.mxf_op1a.specs.KeptMetadata.{HasOneClip, IsOfFile, IsSoundSet}
use Rattle.mxf_op1a.specs.Metadata.{SetAt, material_clips, sequences_of, sets_behind}
use Rattle.mxf_op1a.specs.Partitions.{File, Part, being}

-- one of sets isn't sound by these tags; a picture sequence hasn't its one clip; a clip of the material package isn't of
-- the one file package
abbrev pub IsWrongSet : List ℕ → List SetAt → SetAt → Type 0
IsWrongSet tags sets s =
    (Contains sets s × ¬ IsSoundSet tags sets s)
    ⊎ ((Contains (sequences_of sets MATERIAL_SET ++ sequences_of sets FILE_SET) s × ¬ HasOneClip sets s)
    ⊎ (Contains (material_clips sets) s × ¬ IsOfFile sets s))

-- a partition without a primer, whose place would be this one
abbrev pub LacksPrimer : ℕ → Part → ℕ → Type 0
LacksPrimer len part at = AllByRecursion (λ p. being is_primer p ≡ false) part.items × (at ≡ len)

-- a partition whose first primer lists no tags, and stands here
pub record HasWrongPrimer (part : Part) (at : ℕ) : Type 0 where
  pub primer : Placed
  pub behind : List Placed
  pub is_first : IsFirst is_primer part.items primer behind
  pub wrong : tags_of_primer primer.item ≡ None
  pub at_is : at ≡ primer.at

-- a partition whose first primer lists tags by which a set is wrong that stands here
pub record HasWrongSet (part : Part) (at : ℕ) : Type 0 where
  pub primer : Placed
  pub behind : List Placed
  pub is_first : IsFirst is_primer part.items primer behind
  pub tags : List ℕ
  pub lists : tags_of_primer primer.item ≡ Some tags
  pub set : SetAt
  pub wrong : IsWrongSet tags (sets_behind behind) set
  pub at_is : at ≡ set.at

-- a partition's metadata are wrong at a place
abbrev pub IsWrongAt : ℕ → Part → ℕ → Type 0
IsWrongAt len part at = LacksPrimer len part at ⊎ (HasWrongPrimer part at ⊎ HasWrongSet part at)

-- 7. The metadata of header or footer are wrong there, and at no lower place.
pub record BreaksMetadata (len : ℕ) (file : File) (at : ℕ) : Type 0 where
  pub part : Part
  pub among : Contains (file.header ++ file.footer) part
  pub wrong : IsWrongAt len part at
  pub least : (other : Part) (place : ℕ) → Contains (file.header ++ file.footer) other → IsWrongAt len other place → at ≤ place

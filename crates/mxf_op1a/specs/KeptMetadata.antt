-- What holds of the metadata of an OP1a file (SMPTE ST 377-1, ST 378). docs/formats/mxf.md, "What an OP1a file is".
use Rattle.std.specs.Prelude.{◌≡◌, ℕ, true, List, [], ◌∷◌, Some}
use Rattle.std.specs.List.{AllByRecursion}
use Rattle.local_sets.specs.Sets.{RawItem}
use Rattle.mxf_metadata.specs.Tags.{is_among}
use Rattle.mxf_metadata.specs.declared.labels.TheConstants.{MATERIAL_SET, FILE_SET, TRACK_SET, SEQUENCE_SET, CLIP_SET, PICTURE_KIND}
use Rattle.mxf_metadata.specs.declared.tags.TheConstants.{TRACKS, SEQUENCE, STRUCTURAL_COMPONENTS, DATA_DEFINITION, PACKAGE_ID, SOURCE_PACKAGE_ID}
use Rattle.mxf_metadata_reader.specs.PrimerTags.{tags_of_primer}
use Rattle.mxf_metadata_reader.specs.References.{names_of}
use Rattle.mxf_metadata_reader.specs.Sizes.{is_sized}
use Rattle.mxf_op1a.specs.Contents.{Placed, is_primer}
use Rattle.mxf_op1a.specs.Firsts.{IsFirst}
use Rattle.mxf_op1a.specs.Metadata.{SetAt, all_of_kind, clips, named, set_with, sets_behind, value_of}
use Rattle.mxf_op1a.specs.Partitions.{Part}

-- some set has an identifier
abbrev pub HasSet : List SetAt → List ℕ → Type 0
HasSet sets id = (s : SetAt) × (set_with sets id ≡ Some s)

-- an item has a tag of the primer and the size of its tag, and each set that it names is there
pub record IsSoundItem (tags : List ℕ) (sets : List SetAt) (item : RawItem) : Type 0 where
  pub listed : is_among item.tag tags ≡ true
  pub sized : is_sized item.tag item.value ≡ true
  pub found : AllByRecursion (HasSet sets) (names_of item)

-- a set is whole, and each of its items is sound
pub record IsSoundSet (tags : List ℕ) (sets : List SetAt) (s : SetAt) : Type 0 where
  pub whole : s.set.rest ≡ []
  pub items : AllByRecursion (IsSoundItem tags sets) s.set.items

-- of each set of a kind that a set names by its first item with a tag
abbrev pub EachNamed : List SetAt → ℕ → ℕ → (SetAt → Type 0) → SetAt → Type 0
EachNamed sets tag kind Holds s = AllByRecursion Holds (named sets tag kind s)

-- of a sequence, if it is of pictures
abbrev pub IfPicture : (SetAt → Type 0) → SetAt → Type 0
IfPicture Holds sequence = value_of DATA_DEFINITION sequence ≡ Some PICTURE_KIND → Holds sequence

-- of each sequence of a picture track of each package of a kind
abbrev pub EachPictureSequence : List SetAt → ℕ → (SetAt → Type 0) → Type 0
EachPictureSequence sets kind Holds =
    AllByRecursion (EachNamed sets TRACKS TRACK_SET (EachNamed sets SEQUENCE SEQUENCE_SET (IfPicture Holds))) (all_of_kind kind sets)

-- a sequence names one source clip
pub record HasOneClip (sets : List SetAt) (sequence : SetAt) : Type 0 where
  pub clip : SetAt
  pub one : clips sets sequence ≡ clip ∷ []

-- there is one file package, and a clip is of it
pub record IsOfFile (sets : List SetAt) (clip : SetAt) : Type 0 where
  pub file : SetAt
  pub one : all_of_kind FILE_SET sets ≡ file ∷ []
  pub id : List ℕ
  pub own : value_of PACKAGE_ID file ≡ Some id
  pub source : value_of SOURCE_PACKAGE_ID clip ≡ Some id

-- sets are sound, the picture tracks of material and file package have one clip each, and the material package's are of
-- the one file package
pub record AreSoundSets (tags : List ℕ) (sets : List SetAt) : Type 0 where
  pub each : AllByRecursion (IsSoundSet tags sets) sets
  pub material : EachPictureSequence sets MATERIAL_SET (HasOneClip sets)
  pub file : EachPictureSequence sets FILE_SET (HasOneClip sets)
  pub shown : EachPictureSequence sets MATERIAL_SET (EachNamed sets STRUCTURAL_COMPONENTS CLIP_SET (IsOfFile sets))

-- a partition has a primer, and behind the first one such sets, whose tags it lists
pub record HasSoundMetadata (part : Part) : Type 0 where
  pub primer : Placed
  pub behind : List Placed
  pub is_first : IsFirst is_primer part.items primer behind
  pub tags : List ℕ
  pub lists : tags_of_primer primer.item ≡ Some tags
  pub sound : AreSoundSets tags (sets_behind behind)

-- How sets name one another (SMPTE ST 377-1), whatever identifiers are. docs/FORMATS.md, "Metadata".
use Rattle.std.specs.Prelude.{◌≡◌, ℕ, ◌==◌, not, Bool, true, false, List, [], ◌∷◌, length, map, if◌then◌else◌}
use Rattle.std.specs.List.{flat_map, filter, list_any, AllByRecursion, IsDistinct}
use Rattle.std.specs.Str.{bytes_eq}
use Rattle.mxf_metadata.specs.Tags.{is_among}
use Rattle.mxf_names.specs.declared.keys.TheConstants.{PICTURE_TRACK_NUMBER}
use Rattle.mxf_metadata.specs.declared.labels.TheConstants.{PREFACE_SET, IDENTIFICATION_SET, STORAGE_SET, CONTAINER_SET, MATERIAL_SET, FILE_SET}
use Rattle.mxf_metadata.specs.declared.labels.TheConstants.{TRACK_SET, SEQUENCE_SET, TIMECODE_SET, CLIP_SET, DESCRIPTOR_SET, PICTURE_KIND}
use Rattle.mxf_metadata.specs.declared.tags.TheConstants.{CONTENT_STORAGE, IDENTIFICATIONS, PACKAGES, ESSENCE_CONTAINER_DATA}
use Rattle.mxf_metadata.specs.declared.tags.TheConstants.{TRACKS, SEQUENCE, STRUCTURAL_COMPONENTS, DESCRIPTOR}

-- the kinds of sets that an item with a tag may name: none, where its value names no sets
abbrev pub kinds_named : ℕ → List ℕ
kinds_named tag =
    if tag == CONTENT_STORAGE then STORAGE_SET ∷ []
    else if tag == IDENTIFICATIONS then IDENTIFICATION_SET ∷ []
    else if tag == PACKAGES then MATERIAL_SET ∷ FILE_SET ∷ []
    else if tag == ESSENCE_CONTAINER_DATA then CONTAINER_SET ∷ []
    else if tag == TRACKS then TRACK_SET ∷ []
    else if tag == SEQUENCE then SEQUENCE_SET ∷ []
    else if tag == STRUCTURAL_COMPONENTS then CLIP_SET ∷ TIMECODE_SET ∷ []
    else if tag == DESCRIPTOR then DESCRIPTOR_SET ∷ []
    else []

-- a reference: the tag of an item, and an identifier in its value
pub record Reference (I : Type 0) : Type 0 where
  pub tag : ℕ
  pub id : I

-- what a set says of links
pub record Node (I : Type 0) : Type 0 where
  -- its kind, its instance identifiers, and the sets that it names
  pub kind : ℕ
  pub own : List I
  pub names : List (Reference I)
  -- its data definitions
  pub definitions : List (List ℕ)
  -- the packages that it is, those that it shows, and those whose essence it tells of
  pub packages : List (List ℕ)
  pub sources : List (List ℕ)
  pub linked_packages : List (List ℕ)
  -- the tracks that it is, those that it shows, and those that it describes
  pub track_ids : List ℕ
  pub source_tracks : List ℕ
  pub linked_tracks : List ℕ
  -- the numbers of the tracks that it is
  pub track_numbers : List ℕ

-- the sets of a kind
abbrev pub of_kind : {I : Type 0} → ℕ → List (Node I) → List (Node I)
of_kind kind nodes = filter (λ node. node.kind == kind) nodes

-- the sets of other kinds
abbrev pub but_kind : {I : Type 0} → ℕ → List (Node I) → List (Node I)
but_kind kind nodes = filter (λ node. not (node.kind == kind)) nodes

-- the sets with an identifier, by a test of which are the same
abbrev pub with_id : {I : Type 0} → (I → I → Bool) → List (Node I) → I → List (Node I)
with_id same nodes id = filter (λ node. list_any (same id) node.own) nodes

-- the sets that a set names by a tag
abbrev pub named : {I : Type 0} → (I → I → Bool) → List (Node I) → ℕ → Node I → List (Node I)
named same nodes tag node = flat_map (λ reference. if reference.tag == tag then with_id same nodes reference.id else []) node.names

-- sets are one set, of one of these kinds
abbrev pub is_one_of : {I : Type 0} → List ℕ → List (Node I) → Bool
is_one_of kinds [] = false
is_one_of kinds (node ∷ []) = is_among node.kind kinds
is_one_of kinds (node ∷ other ∷ nodes) = false

-- a reference names one set, of its tag's kind
abbrev pub is_resolved : {I : Type 0} → (I → I → Bool) → List (Node I) → Reference I → Bool
is_resolved same nodes reference = is_one_of (kinds_named reference.tag) (with_id same nodes reference.id)

-- each reference does
abbrev pub AreResolved : {I : Type 0} → (I → I → Bool) → List (Node I) → Type 0
AreResolved same nodes = AllByRecursion (λ node. AllByRecursion (λ reference. is_resolved same nodes reference ≡ true) node.names) nodes

-- the identifiers that sets have
abbrev pub own_ids : {I : Type 0} → List (Node I) → List I
own_ids nodes = flat_map (λ node. node.own) nodes

-- the identifiers that sets name
abbrev pub named_ids : {I : Type 0} → List (Node I) → List I
named_ids nodes = flat_map (λ node. map (λ reference. reference.id) node.names) nodes

-- no two sets have one identifier, and each but the one preface is named by one set, once
pub record AreOwned {I : Type 0} (same : I → I → Bool) (nodes : List (Node I)) : Type 0 where
  pub preface : length (of_kind PREFACE_SET nodes) ≡ 1
  pub distinct : IsDistinct same (own_ids nodes)
  pub once : IsDistinct same (named_ids nodes)
  pub all : AllByRecursion (λ id. list_any (same id) (named_ids nodes) ≡ true) (own_ids (but_kind PREFACE_SET nodes))

-- a set is of pictures
abbrev pub is_picture : {I : Type 0} → Node I → Bool
is_picture node = list_any (bytes_eq PICTURE_KIND) node.definitions

-- the picture tracks of the packages of a kind
abbrev pub picture_tracks : {I : Type 0} → (I → I → Bool) → ℕ → List (Node I) → List (Node I)
picture_tracks same kind nodes =
    filter (λ track. list_any is_picture (named same nodes SEQUENCE track)) (flat_map (named same nodes TRACKS) (of_kind kind nodes))

-- the components of their sequences
abbrev pub picture_clips : {I : Type 0} → (I → I → Bool) → ℕ → List (Node I) → List (Node I)
picture_clips same kind nodes =
    flat_map (named same nodes STRUCTURAL_COMPONENTS) (flat_map (named same nodes SEQUENCE) (picture_tracks same kind nodes))

-- a sequence has components of its data definition, and one of pictures has one, a source clip
pub record IsSequence {I : Type 0} (same : I → I → Bool) (nodes : List (Node I)) (sequence : Node I) : Type 0 where
  pub alike : flat_map (λ node. node.definitions) (named same nodes STRUCTURAL_COMPONENTS sequence) ≡ sequence.definitions
  pub clip : is_picture sequence ≡ true → is_one_of (CLIP_SET ∷ []) (named same nodes STRUCTURAL_COMPONENTS sequence) ≡ true

-- each sequence among sets does
abbrev pub AreSequences : {I : Type 0} → (I → I → Bool) → List (Node I) → Type 0
AreSequences same nodes = AllByRecursion (IsSequence same nodes) (of_kind SEQUENCE_SET nodes)

-- there is one material package, whose pictures are those of the picture track of the one file package
pub record ShowsFile {I : Type 0} (same : I → I → Bool) (nodes : List (Node I)) : Type 0 where
  pub material : length (of_kind MATERIAL_SET nodes) ≡ 1
  -- the file package
  pub umid : List ℕ
  pub file : flat_map (λ node. node.packages) (of_kind FILE_SET nodes) ≡ umid ∷ []
  pub stored : flat_map (λ node. node.linked_packages) (of_kind CONTAINER_SET nodes) ≡ umid ∷ []
  -- its picture track
  pub track : ℕ
  pub pictures : flat_map (λ node. node.track_ids) (picture_tracks same FILE_SET nodes) ≡ track ∷ []
  pub described : flat_map (λ node. node.linked_tracks) (flat_map (named same nodes DESCRIPTOR) (of_kind FILE_SET nodes)) ≡ track ∷ []
  pub elements : flat_map (λ node. node.track_numbers) (picture_tracks same FILE_SET nodes) ≡ PICTURE_TRACK_NUMBER ∷ []
  -- the one clip of the material package
  pub source : flat_map (λ node. node.sources) (picture_clips same MATERIAL_SET nodes) ≡ umid ∷ []
  pub source_track : flat_map (λ node. node.source_tracks) (picture_clips same MATERIAL_SET nodes) ≡ track ∷ []

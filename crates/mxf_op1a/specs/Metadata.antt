-- The metadata sets of a partition, and what is wrong with them (SMPTE ST 377-1, ST 378). docs/formats/mxf.md, "What an OP1a file is".
use Rattle.std.specs.Prelude.{ℕ, ◌==◌, ◌&&◌, ◌||◌, not, Bool, true, false, if◌then◌else◌, List, [], ◌∷◌, ◌++◌, length, map, filter, find, slice_index}
use Rattle.std.specs.Prelude.{min, Option, Some, None}
use Rattle.std.specs.Option.{is_some}
use Rattle.std.specs.List.{flat_map, list_all}
use Rattle.std.specs.Str.{bytes_eq}
use Rattle.local_sets.specs.Sets.{RawItem}
use Rattle.mxf_metadata.specs.Tags.{is_among}
use Rattle.mxf_metadata.specs.Durations.{is_duration}
use Rattle.mxf_metadata.specs.declared.labels.TheConstants.{MATERIAL_SET, FILE_SET, TRACK_SET, SEQUENCE_SET, CLIP_SET, PICTURE_KIND}
use Rattle.mxf_metadata.specs.declared.tags.TheConstants.{TRACKS, SEQUENCE, STRUCTURAL_COMPONENTS, DATA_DEFINITION, PACKAGE_ID, SOURCE_PACKAGE_ID}
use Rattle.mxf_metadata_reader.specs.PlacedSets.{ReadSet, read_set}
use Rattle.mxf_metadata_reader.specs.PrimerTags.{tags_of_primer}
use Rattle.mxf_metadata_reader.specs.References.{first_value, has_id, names_of}
use Rattle.mxf_metadata_reader.specs.Sizes.{is_sized}
use Rattle.mxf_op1a.specs.Contents.{Placed, is_fill, is_primer, is_set}
use Rattle.mxf_op1a.specs.Partitions.{Part, being, from_first, up_to}

-- a set, and the place of its key
pub record SetAt : Type 0 where
  pub at : ℕ
  pub set : ReadSet

abbrev pub set_at : Placed → SetAt
set_at p = record { at = p.at; set = read_set (slice_index p.item.key 14) p.item.value }

-- the sets behind a primer: those up to the first item that is neither a set nor fill
abbrev pub sets_behind : List Placed → List SetAt
sets_behind items = map set_at (filter (being is_set) (up_to (λ content. not (is_set content || is_fill content)) items))

-- the value of the first item with a tag
abbrev pub value_of : ℕ → SetAt → Option (List ℕ)
value_of tag s = first_value tag s.set.items

-- a value is there, and has these bytes
abbrev pub is_value : List ℕ → Option (List ℕ) → Bool
is_value bytes None = false
is_value bytes (Some value) = bytes_eq value bytes

-- two values are there, and have the same bytes
abbrev pub are_same : Option (List ℕ) → Option (List ℕ) → Bool
are_same None value = false
are_same (Some bytes) value = is_value bytes value

-- the first set with an identifier
abbrev pub set_with : List SetAt → List ℕ → Option SetAt
set_with sets id = find (λ s. has_id id s.set.items) sets

-- nothing is left
abbrev pub is_empty : List ℕ → Bool
is_empty [] = true
is_empty (byte ∷ bytes) = false

-- an item has a tag of the primer and the size of its tag, and each set that it names is there
abbrev pub is_sound_item : List ℕ → List SetAt → RawItem → Bool
is_sound_item tags sets item =
    is_among item.tag tags && is_sized item.tag item.value && list_all (λ id. is_some (set_with sets id)) (names_of item)

-- a set is whole, and each of its items is sound
abbrev pub is_sound : List ℕ → List SetAt → SetAt → Bool
is_sound tags sets s = is_empty s.set.rest && list_all (is_sound_item tags sets) s.set.items

-- the identifiers of the sets that a value of a tag names, if it is there
abbrev pub ids_in_value : ℕ → Option (List ℕ) → List (List ℕ)
ids_in_value tag None = []
ids_in_value tag (Some value) = names_of (record { tag = tag; value = value })

-- those that the first item with a tag names
abbrev pub ids_at : ℕ → SetAt → List (List ℕ)
ids_at tag s = ids_in_value tag (value_of tag s)

-- a set of a kind, or none
abbrev pub of_kind : ℕ → Option SetAt → List SetAt
of_kind kind None = []
of_kind kind (Some s) = if s.set.kind == kind then s ∷ [] else []

-- the sets of a kind that a set names by its first item with a tag
abbrev pub named : List SetAt → ℕ → ℕ → SetAt → List SetAt
named sets tag kind s = flat_map (λ id. of_kind kind (set_with sets id)) (ids_at tag s)

-- the sequences of a package's picture tracks
abbrev pub picture_sequences : List SetAt → SetAt → List SetAt
picture_sequences sets package_set =
    filter (λ sequence. is_value PICTURE_KIND (value_of DATA_DEFINITION sequence))
    (flat_map (named sets SEQUENCE SEQUENCE_SET) (named sets TRACKS TRACK_SET package_set))

-- the source clips of a sequence
abbrev pub clips : List SetAt → SetAt → List SetAt
clips sets sequence = named sets STRUCTURAL_COMPONENTS CLIP_SET sequence

-- a sequence names one source clip
abbrev pub has_one_clip : List SetAt → SetAt → Bool
has_one_clip sets sequence = length (clips sets sequence) == 1

-- of sets, the places of those that don't keep a test
abbrev pub places_but : (SetAt → Bool) → List SetAt → List ℕ
places_but test sets = map (λ s. s.at) (filter (λ s. not (test s)) sets)

-- the sets of a kind
abbrev pub all_of_kind : ℕ → List SetAt → List SetAt
all_of_kind kind sets = filter (λ s. s.set.kind == kind) sets

-- a clip is of the one file package
abbrev pub is_of_file : List SetAt → SetAt → Bool
is_of_file [] clip = false
is_of_file (file ∷ []) clip = are_same (value_of PACKAGE_ID file) (value_of SOURCE_PACKAGE_ID clip)
is_of_file (file ∷ other ∷ files) clip = false

-- the picture sequences of packages of a kind
abbrev pub sequences_of : List SetAt → ℕ → List SetAt
sequences_of sets kind = flat_map (picture_sequences sets) (all_of_kind kind sets)

-- the clips of the material package's picture sequences
abbrev pub material_clips : List SetAt → List SetAt
material_clips sets = flat_map (clips sets) (filter (has_one_clip sets) (sequences_of sets MATERIAL_SET))

-- the places of the sets that are wrong: those that aren't sound, the picture sequences without their one clip, and the
-- material package's clips that aren't of the file package
abbrev pub wrong_sets : List ℕ → List SetAt → List ℕ
wrong_sets tags sets =
    places_but (is_sound tags sets) sets
    ++ places_but (has_one_clip sets) (sequences_of sets MATERIAL_SET)
    ++ places_but (has_one_clip sets) (sequences_of sets FILE_SET)
    ++ places_but (is_of_file (all_of_kind FILE_SET sets)) (material_clips sets)

-- the same by a primer, which may be wrong itself
abbrev pub wrong_behind : ℕ → Option (List ℕ) → List Placed → List ℕ
wrong_behind at None items = at ∷ []
wrong_behind at (Some tags) items = wrong_sets tags (sets_behind items)

-- the same from the first primer on; the file's length stands for one that is missing
abbrev pub wrong_from : ℕ → List Placed → List ℕ
wrong_from len [] = len ∷ []
wrong_from len (primer ∷ items) = wrong_behind primer.at (tags_of_primer primer.item) items

-- what is wrong with a partition's metadata
abbrev pub wrong_metadata : ℕ → Part → List ℕ
wrong_metadata len part = wrong_from len (from_first is_primer part.items)

-- the sets behind the first primer
abbrev pub sets_from : List Placed → List SetAt
sets_from [] = []
sets_from (primer ∷ items) = sets_behind items

abbrev pub sets_of : Part → List SetAt
sets_of part = sets_from (from_first is_primer part.items)

-- each duration of a set has these bytes
abbrev pub lasts : List ℕ → SetAt → Bool
lasts bytes s = list_all (λ item. not (is_duration item.tag) || bytes_eq item.value bytes) s.set.items

-- the least of a place and others
unfoldable pub least_behind : ℕ → List ℕ → ℕ
least_behind place [] = place
least_behind place (other ∷ places) = least_behind (min place other) places

-- the least of places
abbrev pub least : List ℕ → Option ℕ
least [] = None
least (place ∷ places) = Some (least_behind place places)

-- The metadata of a take (SMPTE ST 377-1). docs/FORMATS.md, "Metadata".
use Rattle.std.specs.Prelude.{ℕ, ◌+◌, List, [], ◌∷◌, ◌++◌, map, Option}
use Rattle.std.specs.List.{flat_map}
use Rattle.rec_bytes.specs.Configuration.{Fields}
use Rattle.local_sets.specs.Sets.{local_set, raw}
use Rattle.local_sets.specs.declared.set.Item.{Item}
use Rattle.mxf_names.specs.Identifiers.{umid}
use Rattle.mxf_names.specs.Keys.{set_key}
use Rattle.mxf_metadata.specs.Primer.{primer}
use Rattle.mxf_metadata.specs.RawSets.{RawSet}
use Rattle.mxf_metadata.specs.Sets.{preface, identification, content_storage, essence_container, material_package, file_package}
use Rattle.mxf_metadata.specs.Sets.{track, sequence, timecode, source_clip, descriptor}
use Rattle.mxf_names.specs.declared.ids.Ids.{Ids}
use Rattle.mxf_metadata.specs.declared.labels.TheConstants.{PREFACE_SET, IDENTIFICATION_SET, STORAGE_SET, CONTAINER_SET, MATERIAL_SET, FILE_SET}
use Rattle.mxf_metadata.specs.declared.labels.TheConstants.{TRACK_SET, SEQUENCE_SET, TIMECODE_SET, CLIP_SET, DESCRIPTOR_SET}
use Rattle.mxf_metadata.specs.declared.labels.TheConstants.{PICTURE_KIND, TIMECODE_KIND, TIMECODE_TRACK_ID, PICTURE_TRACK_ID, NO_SOURCE}
use Rattle.mxf_names.specs.declared.keys.TheConstants.{PICTURE_TRACK_NUMBER}

-- a set of ours
pub record Set : Type 0 where
  pub kind : ℕ
  pub items : List Item

-- as it stands in the file
abbrev pub raw_set : Set → RawSet
raw_set set = record { kind = set.kind; items = map raw set.items }

-- as it is spelled
abbrev pub set_bytes : Set → List ℕ
set_bytes set = local_set (set_key set.kind) set.items

-- a set of a kind
abbrev pub metadata_set : ℕ → List Item → Set
metadata_set kind items = record { kind = kind; items = items }

-- a track of timecode: the track, its sequence and its component in three sets from a number on
unfoldable pub timecode_track : Fields → Ids → Option ℕ → ℕ → List Set
timecode_track cfg ids frames number =
    metadata_set TRACK_SET (track cfg ids number TIMECODE_TRACK_ID 0)
    ∷ metadata_set SEQUENCE_SET (sequence ids (number + 1) TIMECODE_KIND frames)
    ∷ metadata_set TIMECODE_SET (timecode cfg ids (number + 2) frames)
    ∷ []

-- a track of pictures: the same with a source clip of a package's track
unfoldable pub picture_track : Fields → Ids → Option ℕ → ℕ → ℕ → List ℕ → ℕ → List Set
picture_track cfg ids frames number track_number source track_id =
    metadata_set TRACK_SET (track cfg ids number PICTURE_TRACK_ID track_number)
    ∷ metadata_set SEQUENCE_SET (sequence ids (number + 1) PICTURE_KIND frames)
    ∷ metadata_set CLIP_SET (source_clip ids (number + 2) frames source track_id)
    ∷ []

-- sets 1 to 5: what the file holds
unfoldable pub storage_sets : Ids → List Set
storage_sets ids =
    metadata_set PREFACE_SET (preface ids)
    ∷ metadata_set IDENTIFICATION_SET (identification ids)
    ∷ metadata_set STORAGE_SET (content_storage ids)
    ∷ metadata_set CONTAINER_SET (essence_container ids)
    ∷ metadata_set MATERIAL_SET (material_package ids)
    ∷ []

-- sets 1 to 11: what the file holds, and the material package, whose clip shows the file package's pictures
unfoldable pub material_sets : Fields → Ids → Option ℕ → List Set
material_sets cfg ids frames =
    storage_sets ids
    ++ timecode_track cfg ids frames 6
    ++ picture_track cfg ids frames 9 0 (umid ids.file) PICTURE_TRACK_ID

-- sets 12 to 19: the file package, whose clip has no source
unfoldable pub file_sets : Fields → Ids → Option ℕ → List Set
file_sets cfg ids frames =
    (metadata_set FILE_SET (file_package ids) ∷ [])
    ++ timecode_track cfg ids frames 13
    ++ picture_track cfg ids frames 16 PICTURE_TRACK_NUMBER NO_SOURCE 0
    ++ (metadata_set DESCRIPTOR_SET (descriptor cfg ids frames) ∷ [])

-- the 19 sets
unfoldable pub sets : Fields → Ids → Option ℕ → List Set
sets cfg ids frames = material_sets cfg ids frames ++ file_sets cfg ids frames

-- as they stand in the file
abbrev pub raw_sets : Fields → Ids → Option ℕ → List RawSet
raw_sets cfg ids frames = map raw_set (sets cfg ids frames)

-- the primer and the sets
unfoldable pub metadata : Fields → Ids → Option ℕ → List ℕ
metadata cfg ids frames = primer ++ flat_map set_bytes (sets cfg ids frames)

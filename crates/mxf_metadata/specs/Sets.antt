-- The sets of the structural metadata (SMPTE ST 377-1). docs/FORMATS.md, "Metadata".
use Rattle.std.specs.Prelude.{ℕ, ◌+◌, ◌-◌, List, [], ◌∷◌, ◌++◌, length, replicate, Option, codes}
use Rattle.rec_bytes.specs.Configuration.{Fields}
use Rattle.local_sets.specs.Sets.{item}
use Rattle.local_sets.specs.declared.set.Item.{Item}
use Rattle.local_sets.specs.declared.value.Value.{Value}
use Rattle.local_sets.specs.declared.value.Value.TheVariants.{Byte, Short, Word, Long, Ratio, Duration, Label, Umid, EmptyBatch, BatchOfOne, BatchOfTwo, Text}
use Rattle.mxf_names.specs.Identifiers.{set_id, umid}
use Rattle.mxf_names.specs.EditRates.{edit_rate}
use Rattle.mxf_metadata.specs.Pictures.{timecode_base, frame_layout, stored_height, aspect_ratio, coding_label}
use Rattle.mxf_names.specs.declared.ids.Ids.{Ids}
use Rattle.mxf_names.specs.declared.streams.TheConstants.{ESSENCE_STREAM, INDEX_STREAM}
use Rattle.mxf_names.specs.declared.tags.TheConstants.{INSTANCE_ID, INDEX_SID, BODY_SID}
use Rattle.mxf_metadata.specs.declared.tags.TheConstants.{LAST_MODIFIED, VERSION, OBJECT_MODEL_VERSION, CONTENT_STORAGE, IDENTIFICATIONS}
use Rattle.mxf_metadata.specs.declared.tags.TheConstants.{OPERATIONAL_PATTERN, ESSENCE_CONTAINERS, DM_SCHEMES, THIS_GENERATION_ID, COMPANY_NAME}
use Rattle.mxf_metadata.specs.declared.tags.TheConstants.{PRODUCT_NAME, VERSION_STRING, PRODUCT_ID, MODIFICATION_DATE, PACKAGES}
use Rattle.mxf_metadata.specs.declared.tags.TheConstants.{ESSENCE_CONTAINER_DATA, LINKED_PACKAGE_ID, PACKAGE_ID, PACKAGE_MODIFIED, PACKAGE_CREATED}
use Rattle.mxf_metadata.specs.declared.tags.TheConstants.{TRACKS, TRACK_ID, TRACK_NUMBER, EDIT_RATE, ORIGIN, SEQUENCE, DATA_DEFINITION, DURATION}
use Rattle.mxf_metadata.specs.declared.tags.TheConstants.{STRUCTURAL_COMPONENTS, START_TIMECODE, ROUNDED_TIMECODE_BASE, DROP_FRAME, START_POSITION}
use Rattle.mxf_metadata.specs.declared.tags.TheConstants.{SOURCE_PACKAGE_ID, SOURCE_TRACK_ID, DESCRIPTOR, LINKED_TRACK_ID, SAMPLE_RATE}
use Rattle.mxf_metadata.specs.declared.tags.TheConstants.{CONTAINER_DURATION, ESSENCE_CONTAINER, PICTURE_ESSENCE_CODING, FRAME_LAYOUT, STORED_WIDTH}
use Rattle.mxf_metadata.specs.declared.tags.TheConstants.{STORED_HEIGHT, ASPECT_RATIO, COMPONENT_DEPTH, HORIZONTAL_SUBSAMPLING}
use Rattle.mxf_metadata.specs.declared.labels.TheConstants.{PICTURE_KIND, TIMECODE_KIND, PRODUCT, PICTURE_TRACK_ID}
use Rattle.mxf_names.specs.declared.labels.TheConstants.{ESSENCE_CONTAINER_LABEL, OPERATIONAL_PATTERN_1A}

-- the identifier that each set begins with
abbrev pub own_id : Ids → ℕ → Item
own_id ids number = item INSTANCE_ID (Label (set_id ids number))

-- a text of at most 16 letters
abbrev pub text : List ℕ → Value
text letters = Text (letters ++ replicate (16 - length letters) 0) (length letters)

-- two numbers as a rational
abbrev pub ratio : ℕ × ℕ → Value
ratio pair = Ratio pair.0 pair.1

-- the value that stands where a date isn't known
abbrev pub NO_DATE : Value
NO_DATE = Long 0

-- set 1: the preface, with the content storage in set 3 and the identification in set 2
unfoldable pub preface : Ids → List Item
preface ids =
    own_id ids 1
    ∷ item LAST_MODIFIED NO_DATE
    ∷ item VERSION (Short 0x0103)
    ∷ item OBJECT_MODEL_VERSION (Word 1)
    ∷ item CONTENT_STORAGE (Label (set_id ids 3))
    ∷ item IDENTIFICATIONS (BatchOfOne (set_id ids 2))
    ∷ item OPERATIONAL_PATTERN (Label OPERATIONAL_PATTERN_1A)
    ∷ item ESSENCE_CONTAINERS (BatchOfOne ESSENCE_CONTAINER_LABEL)
    ∷ item DM_SCHEMES EmptyBatch
    ∷ []

-- set 2: what wrote the file
unfoldable pub identification : Ids → List Item
identification ids =
    own_id ids 2
    ∷ item THIS_GENERATION_ID (Label (set_id ids 2))
    ∷ item COMPANY_NAME (text (codes "ingest"))
    ∷ item PRODUCT_NAME (text (codes "ingest_server"))
    ∷ item VERSION_STRING (text (codes "1"))
    ∷ item PRODUCT_ID (Label PRODUCT)
    ∷ item MODIFICATION_DATE NO_DATE
    ∷ []

-- set 3: the material package in set 5, the file package in set 12, and the essence container in set 4
unfoldable pub content_storage : Ids → List Item
content_storage ids =
    own_id ids 3
    ∷ item PACKAGES (BatchOfTwo (set_id ids 5) (set_id ids 12))
    ∷ item ESSENCE_CONTAINER_DATA (BatchOfOne (set_id ids 4))
    ∷ []

-- set 4: the streams of the file package's essence and of its index
unfoldable pub essence_container : Ids → List Item
essence_container ids =
    own_id ids 4
    ∷ item LINKED_PACKAGE_ID (Umid (umid ids.file))
    ∷ item INDEX_SID (Word INDEX_STREAM)
    ∷ item BODY_SID (Word ESSENCE_STREAM)
    ∷ []

-- set 5: the material package, with tracks in sets 6 and 9
unfoldable pub material_package : Ids → List Item
material_package ids =
    own_id ids 5
    ∷ item PACKAGE_ID (Umid (umid ids.take))
    ∷ item PACKAGE_MODIFIED NO_DATE
    ∷ item PACKAGE_CREATED NO_DATE
    ∷ item TRACKS (BatchOfTwo (set_id ids 6) (set_id ids 9))
    ∷ []

-- set 12: the file package, with tracks in sets 13 and 16, and the descriptor in set 19
unfoldable pub file_package : Ids → List Item
file_package ids =
    own_id ids 12
    ∷ item PACKAGE_ID (Umid (umid ids.file))
    ∷ item PACKAGE_MODIFIED NO_DATE
    ∷ item PACKAGE_CREATED NO_DATE
    ∷ item TRACKS (BatchOfTwo (set_id ids 13) (set_id ids 16))
    ∷ item DESCRIPTOR (Label (set_id ids 19))
    ∷ []

-- a track, whose sequence is the next set
unfoldable pub track : Fields → Ids → ℕ → ℕ → ℕ → List Item
track cfg ids number track_id track_number =
    own_id ids number
    ∷ item TRACK_ID (Word track_id)
    ∷ item TRACK_NUMBER (Word track_number)
    ∷ item EDIT_RATE (ratio (edit_rate cfg.rate))
    ∷ item ORIGIN (Long 0)
    ∷ item SEQUENCE (Label (set_id ids (number + 1)))
    ∷ []

-- a sequence of one component, which is the next set
unfoldable pub sequence : Ids → ℕ → List ℕ → Option ℕ → List Item
sequence ids number kind frames =
    own_id ids number
    ∷ item DATA_DEFINITION (Label kind)
    ∷ item DURATION (Duration frames)
    ∷ item STRUCTURAL_COMPONENTS (BatchOfOne (set_id ids (number + 1)))
    ∷ []

-- a timecode component
unfoldable pub timecode : Fields → Ids → ℕ → Option ℕ → List Item
timecode cfg ids number frames =
    own_id ids number
    ∷ item DATA_DEFINITION (Label TIMECODE_KIND)
    ∷ item DURATION (Duration frames)
    ∷ item START_TIMECODE (Long cfg.start)
    ∷ item ROUNDED_TIMECODE_BASE (Short (timecode_base cfg.rate))
    ∷ item DROP_FRAME (Byte cfg.drop)
    ∷ []

-- a source clip of pictures: what it shows is a track of a package, from its start on
unfoldable pub source_clip : Ids → ℕ → Option ℕ → List ℕ → ℕ → List Item
source_clip ids number frames source track_id =
    own_id ids number
    ∷ item DATA_DEFINITION (Label PICTURE_KIND)
    ∷ item DURATION (Duration frames)
    ∷ item START_POSITION (Long 0)
    ∷ item SOURCE_PACKAGE_ID (Umid source)
    ∷ item SOURCE_TRACK_ID (Word track_id)
    ∷ []

-- set 19: how the pictures are stored
unfoldable pub descriptor : Fields → Ids → Option ℕ → List Item
descriptor cfg ids frames =
    own_id ids 19
    ∷ item LINKED_TRACK_ID (Word PICTURE_TRACK_ID)
    ∷ item SAMPLE_RATE (ratio (edit_rate cfg.rate))
    ∷ item CONTAINER_DURATION (Duration frames)
    ∷ item ESSENCE_CONTAINER (Label ESSENCE_CONTAINER_LABEL)
    ∷ item PICTURE_ESSENCE_CODING (Label (coding_label cfg.coding))
    ∷ item FRAME_LAYOUT (Byte (frame_layout cfg))
    ∷ item STORED_WIDTH (Word cfg.width)
    ∷ item STORED_HEIGHT (Word (stored_height cfg))
    ∷ item ASPECT_RATIO (ratio (aspect_ratio cfg))
    ∷ item COMPONENT_DEPTH (Word 10)
    ∷ item HORIZONTAL_SUBSAMPLING (Word 2)
    ∷ []

-- Whether values have the sizes of the table of tags (SMPTE ST 377-1). docs/FORMATS.md, "Metadata".
use Rattle.std.specs.Prelude.{ℕ, ◌%◌, ◌==◌, Bool, true, List, [], ◌∷◌, length, Option, Some, None, if◌then◌else◌}
use Rattle.local_sets.specs.declared.value.TheConstants.{ID_LEN}
use Rattle.mxf_metadata.specs.declared.tags.Tag.{Tag}
use Rattle.mxf_metadata.specs.declared.tags.Size.{Size}
use Rattle.mxf_metadata.specs.declared.tags.Size.TheVariants.{Fixed, Batch, Letters}
use Rattle.mxf_metadata.specs.declared.tags.TheConstants.{TAGS}
use Rattle.mxf_metadata_reader.specs.PrimerTags.{is_batch_of}

-- the size that a table of tags has for a tag, none where it lacks the tag
unfoldable pub size_among : List Tag → ℕ → Option Size
size_among [] tag = None
size_among (row ∷ rows) tag = if row.tag == tag then Some row.size else size_among rows tag

-- the size that the values of a tag have
abbrev pub size_of : ℕ → Option Size
size_of tag = size_among TAGS tag

-- bytes have a size: so many, or those of a batch of items of 16 bytes, or those of a text
abbrev pub has_size : Size → List ℕ → Bool
has_size (Fixed count) value = length value == count
has_size Batch value = is_batch_of ID_LEN value
has_size Letters value = length value % 2 == 0

-- bytes have a size, if one is asked for
abbrev pub has_size_if : Option Size → List ℕ → Bool
has_size_if None value = true
has_size_if (Some size) value = has_size size value

-- a value has the size of its tag; those of other tags are free
abbrev pub is_sized : ℕ → List ℕ → Bool
is_sized tag value = has_size_if (size_of tag) value

-- What sets that are read say of a take (SMPTE ST 377-1, and own choices). docs/FORMATS.md, "Metadata".
use Rattle.std.specs.Prelude.{ℕ, ◌==◌, ◌^◌, nat_lt, List, [], ◌∷◌, length, drop, replicate, Option, Some, None, if◌then◌else◌}
use Rattle.byteorder.specs.Endian.{big_number}
use Rattle.local_sets.specs.Sets.{RawItem}
use Rattle.mxf_metadata.specs.declared.labels.TheConstants.{MATERIAL_SET, DESCRIPTOR_SET}
use Rattle.mxf_metadata.specs.declared.tags.TheConstants.{PACKAGE_ID, CONTAINER_DURATION, STORED_WIDTH, STORED_HEIGHT, SAMPLE_RATE}
use Rattle.mxf_metadata_reader.specs.PlacedSets.{PlacedSet}
use Rattle.mxf_metadata_reader.specs.References.{first_value}
use Rattle.mxf_metadata_reader.specs.declared.fields.Sets.{Sets}

-- the items of the first set of a kind, none where there is no such set
unfoldable pub items_of_kind : ℕ → List PlacedSet → List RawItem
items_of_kind kind [] = []
items_of_kind kind (placed ∷ sets) = if placed.set.kind == kind then placed.set.items else items_of_kind kind sets

-- a value of so many bytes, or as many zeros where it is missing or of another size
abbrev pub or_zeros : ℕ → Option (List ℕ) → List ℕ
or_zeros size None = replicate size 0
or_zeros size (Some value) = if length value == size then value else replicate size 0

-- a duration of 64 bits, none where it is below 0
abbrev pub known : ℕ → Option ℕ
known duration = if nat_lt duration (2 ^ 63) then Some duration else None

-- the number of frames in a value, none where it is below 0, missing or of another size
abbrev pub frames_in : Option (List ℕ) → Option ℕ
frames_in None = None
frames_in (Some value) = if length value == 8 then known (big_number 8 value) else None

-- two numbers of 32 bits
abbrev pub pair_of : List ℕ → ℕ × ℕ
pair_of value = (big_number 4 value, big_number 4 (drop 4 value))

-- the first descriptor's duration, width, height and rate, and the second half of the first material package's UMID
abbrev pub fields_of : List PlacedSet → Sets
fields_of sets =
    let descriptor : List RawItem = items_of_kind DESCRIPTOR_SET sets in
    record {
      frames = frames_in (first_value CONTAINER_DURATION descriptor);
      take_id = drop 16 (or_zeros 32 (first_value PACKAGE_ID (items_of_kind MATERIAL_SET sets)));
      width = big_number 4 (or_zeros 4 (first_value STORED_WIDTH descriptor));
      height = big_number 4 (or_zeros 4 (first_value STORED_HEIGHT descriptor));
      rate = pair_of (or_zeros 8 (first_value SAMPLE_RATE descriptor));
    }

-- The durations of the sets (SMPTE ST 377-1). docs/FORMATS.md, "Metadata".
use Rattle.std.specs.Prelude.{◌≡◌, ℕ, ◌==◌, ◌||◌, Bool, List, [], ◌∷◌, Option, if◌then◌else◌}
use Rattle.std.specs.List.{flat_map, AllByRecursion}
use Rattle.local_sets.specs.Values.{duration_bytes}
use Rattle.mxf_metadata.specs.RawSets.{RawSet}
use Rattle.mxf_metadata.specs.declared.labels.TheConstants.{SEQUENCE_SET, TIMECODE_SET, CLIP_SET, DESCRIPTOR_SET}
use Rattle.mxf_metadata.specs.declared.tags.TheConstants.{DURATION, CONTAINER_DURATION}

-- the tags whose values are durations
abbrev pub is_duration : ℕ → Bool
is_duration tag = tag == DURATION || tag == CONTAINER_DURATION

-- the kinds of sets that have a duration: sequences, their components, and descriptors
abbrev pub has_duration : ℕ → Bool
has_duration kind = kind == SEQUENCE_SET || kind == TIMECODE_SET || kind == CLIP_SET || kind == DESCRIPTOR_SET

-- the durations of a set's items
abbrev pub durations : RawSet → List (List ℕ)
durations set = flat_map (λ item. if is_duration item.tag then item.value ∷ [] else []) set.items

-- each set of these kinds has one duration, which is a number of frames, and no other set has any
abbrev pub HaveDuration : Option ℕ → List RawSet → Type 0
HaveDuration frames sets = AllByRecursion (λ set. durations set ≡ (if has_duration set.kind then duration_bytes frames ∷ [] else [])) sets

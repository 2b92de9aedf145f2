-- The table of tags has the tags of the sets, each once, where it comes first.
use Rattle.std.proofs.Common.{◌≡◌, ℕ, Option, map, refl}
use Rattle.std.specs.List.{flat_map}
use Rattle.rec_bytes.specs.Configuration.{Fields}
use Rattle.mxf_metadata.specs.Metadata.{raw_sets, sets, material_sets, file_sets, storage_sets, timecode_track, picture_track}
use Rattle.mxf_metadata.specs.Sets.{preface, identification, content_storage, essence_container, material_package, file_package, track, sequence, timecode, source_clip, descriptor}
use Rattle.mxf_metadata.specs.Tags.{firsts, firsts_behind, is_among, tags_of}
use Rattle.mxf_names.specs.declared.ids.Ids.{Ids}
use Rattle.mxf_metadata.specs.declared.tags.Tag.{Tag}
use Rattle.mxf_metadata.specs.declared.tags.TheConstants.{TAGS}

-- both lists are computed: no tag depends on the configuration
pub tags_ordered : (cfg : Fields) (ids : Ids) (frames : Option ℕ) → map (λ (tag : Tag). tag.tag) TAGS ≡ firsts (flat_map tags_of (raw_sets cfg ids frames))
unfolding sets material_sets file_sets storage_sets timecode_track picture_track preface identification content_storage essence_container material_package file_package track sequence timecode source_clip descriptor firsts_behind is_among
tags_ordered cfg ids frames = refl

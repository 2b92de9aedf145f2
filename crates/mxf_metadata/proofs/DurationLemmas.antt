-- Each set that lasts has one duration, the number of frames.
use Rattle.std.proofs.Common.{ℕ, Option, refl}
use Rattle.rec_bytes.specs.Configuration.{Fields}
use Rattle.mxf_metadata.specs.Durations.{HaveDuration}
use Rattle.mxf_metadata.specs.Metadata.{raw_sets, sets, material_sets, file_sets, storage_sets, timecode_track, picture_track}
use Rattle.mxf_metadata.specs.Sets.{preface, identification, content_storage, essence_container, material_package, file_package}
use Rattle.mxf_metadata.specs.Sets.{track, sequence, timecode, source_clip, descriptor}
use Rattle.mxf_names.specs.declared.ids.Ids.{Ids}

-- each set is computed
pub sets_last : (cfg : Fields) (ids : Ids) (frames : Option ℕ) → HaveDuration frames (raw_sets cfg ids frames)
unfolding sets material_sets file_sets storage_sets timecode_track picture_track preface identification content_storage essence_container material_package file_package track sequence timecode source_clip descriptor
sets_last cfg ids frames =
    (refl, (refl, (refl, (refl, (refl, (refl, (refl, (refl, (refl, (refl, (refl, (refl, (refl, (refl, (refl, (refl, (refl, (refl, (refl, tt)))))))))))))))))))

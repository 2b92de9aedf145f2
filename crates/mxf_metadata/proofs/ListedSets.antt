-- Each set says only what the table of tags lists.
use Rattle.std.proofs.Common.{◌≡◌, ℕ, ◌+◌, List, [], ◌∷◌, ◌++◌, length, map, Option, refl}
use Rattle.std.specs.List.{AllByRecursion}
use Rattle.rec_bytes.specs.Configuration.{Fields}
use Rattle.mxf_names.specs.Identifiers.{AreIds, umid}
use Rattle.mxf_metadata.specs.Listed.{IsListed, AreListed}
use Rattle.local_sets.specs.Sets.{raw}
use Rattle.mxf_metadata.specs.Metadata.{Set, raw_set, raw_sets, metadata_set, storage_sets, timecode_track, picture_track, material_sets, file_sets, sets}
use Rattle.mxf_metadata.specs.Sets.{preface, identification, content_storage, essence_container, material_package, file_package, track, sequence, timecode, source_clip, descriptor}
use Rattle.mxf_names.specs.declared.ids.Ids.{Ids}
use Rattle.mxf_metadata.specs.declared.labels.TheConstants.{NO_SOURCE}
use Rattle.mxf_metadata.specs.declared.labels.TheConstants.{FILE_SET, DESCRIPTOR_SET, PICTURE_KIND, TIMECODE_KIND}
use Rattle.mxf_names.specs.declared.keys.TheConstants.{PICTURE_TRACK_NUMBER}
use Rattle.mxf_metadata.proofs.ListedLemmas.{all_listed}
use Rattle.mxf_names.specs.laws.Lengths.{length-umid}
use Rattle.mxf_metadata.specs.laws.Sizes.{preface_sized, identification_sized, content_storage_sized, essence_container_sized, material_package_sized, file_package_sized, track_sized, sequence_sized, timecode_sized, source_clip_sized, descriptor_sized}

preface_listed : (ids : Ids) → AreIds ids → AllByRecursion IsListed (map raw (preface ids))
unfolding preface
preface_listed ids h = all_listed (preface ids) refl (preface_sized ids h)

identification_listed : (ids : Ids) → AreIds ids → AllByRecursion IsListed (map raw (identification ids))
unfolding identification
identification_listed ids h = all_listed (identification ids) refl (identification_sized ids h)

content_storage_listed : (ids : Ids) → AreIds ids → AllByRecursion IsListed (map raw (content_storage ids))
unfolding content_storage
content_storage_listed ids h = all_listed (content_storage ids) refl (content_storage_sized ids h)

essence_container_listed : (ids : Ids) → AreIds ids → AllByRecursion IsListed (map raw (essence_container ids))
unfolding essence_container
essence_container_listed ids h = all_listed (essence_container ids) refl (essence_container_sized ids h)

material_package_listed : (ids : Ids) → AreIds ids → AllByRecursion IsListed (map raw (material_package ids))
unfolding material_package
material_package_listed ids h = all_listed (material_package ids) refl (material_package_sized ids h)

file_package_listed : (ids : Ids) → AreIds ids → AllByRecursion IsListed (map raw (file_package ids))
unfolding file_package
file_package_listed ids h = all_listed (file_package ids) refl (file_package_sized ids h)

track_listed : (cfg : Fields) (ids : Ids) (number track_id track_number : ℕ) → AreIds ids → AllByRecursion IsListed (map raw (track cfg ids number track_id track_number))
unfolding track
track_listed cfg ids number track_id track_number h = all_listed (track cfg ids number track_id track_number) refl (track_sized cfg ids number track_id track_number h)

sequence_listed : (ids : Ids) (number : ℕ) (kind : List ℕ) (frames : Option ℕ) → AreIds ids → length kind ≡ 16 → AllByRecursion IsListed (map raw (sequence ids number kind frames))
unfolding sequence
sequence_listed ids number kind frames h k = all_listed (sequence ids number kind frames) refl (sequence_sized ids number kind frames h k)

timecode_listed : (cfg : Fields) (ids : Ids) (number : ℕ) (frames : Option ℕ) → AreIds ids → AllByRecursion IsListed (map raw (timecode cfg ids number frames))
unfolding timecode
timecode_listed cfg ids number frames h = all_listed (timecode cfg ids number frames) refl (timecode_sized cfg ids number frames h)

source_clip_listed : (ids : Ids) (number : ℕ) (frames : Option ℕ) (source : List ℕ) (track_id : ℕ) → AreIds ids → length source ≡ 32 → AllByRecursion IsListed (map raw (source_clip ids number frames source track_id))
unfolding source_clip
source_clip_listed ids number frames source track_id h k = all_listed (source_clip ids number frames source track_id) refl (source_clip_sized ids number frames source track_id h k)

descriptor_listed : (cfg : Fields) (ids : Ids) (frames : Option ℕ) → AreIds ids → AllByRecursion IsListed (map raw (descriptor cfg ids frames))
unfolding descriptor
descriptor_listed cfg ids frames h = all_listed (descriptor cfg ids frames) refl (descriptor_sized cfg ids frames h)

-- sets of ours are listed
abbrev OursListed : List Set → Type 0
OursListed list = AreListed (map raw_set list)

-- joined lists of sets
both_listed : (xs ys : List Set) → OursListed xs → OursListed ys → OursListed (xs ++ ys)
both_listed [] ys p q = q
both_listed (x ∷ xs) ys p q = (p.0, both_listed xs ys p.1 q)

storage_listed : (ids : Ids) → AreIds ids → OursListed (storage_sets ids)
unfolding storage_sets
storage_listed ids h = (preface_listed ids h, (identification_listed ids h, (content_storage_listed ids h, (essence_container_listed ids h, (material_package_listed ids h, tt)))))

timecode_track_listed : (cfg : Fields) (ids : Ids) (frames : Option ℕ) (number : ℕ) → AreIds ids → OursListed (timecode_track cfg ids frames number)
unfolding timecode_track
timecode_track_listed cfg ids frames number h = (track_listed cfg ids number 1 0 h, (sequence_listed ids (number + 1) TIMECODE_KIND frames h refl, (timecode_listed cfg ids (number + 2) frames h, tt)))

picture_track_listed : (cfg : Fields) (ids : Ids) (frames : Option ℕ) (number track_number : ℕ) (source : List ℕ) (track_id : ℕ) → AreIds ids → length source ≡ 32 → OursListed (picture_track cfg ids frames number track_number source track_id)
unfolding picture_track
picture_track_listed cfg ids frames number track_number source track_id h k = (track_listed cfg ids number 2 track_number h, (sequence_listed ids (number + 1) PICTURE_KIND frames h refl, (source_clip_listed ids (number + 2) frames source track_id h k, tt)))

material_listed : (cfg : Fields) (ids : Ids) (frames : Option ℕ) → AreIds ids → OursListed (material_sets cfg ids frames)
unfolding material_sets
material_listed cfg ids frames h =
    both_listed (storage_sets ids ++ timecode_track cfg ids frames 6) (picture_track cfg ids frames 9 0 (umid ids.file) 2)
    (both_listed (storage_sets ids) (timecode_track cfg ids frames 6) (storage_listed ids h) (timecode_track_listed cfg ids frames 6 h))
    (picture_track_listed cfg ids frames 9 0 (umid ids.file) 2 h (length-umid ids.file h.file))

file_listed : (cfg : Fields) (ids : Ids) (frames : Option ℕ) → AreIds ids → OursListed (file_sets cfg ids frames)
unfolding file_sets
file_listed cfg ids frames h =
    let clip : List ℕ = NO_SOURCE in
    let package_sets : List Set = metadata_set FILE_SET (file_package ids) ∷ [] in
    let timecode_sets : List Set = timecode_track cfg ids frames 13 in
    let picture_sets : List Set = picture_track cfg ids frames 16 PICTURE_TRACK_NUMBER clip 0 in
    let descriptor_sets : List Set = metadata_set DESCRIPTOR_SET (descriptor cfg ids frames) ∷ [] in
    both_listed ((package_sets ++ timecode_sets) ++ picture_sets) descriptor_sets
    (both_listed (package_sets ++ timecode_sets) picture_sets
    (both_listed package_sets timecode_sets (file_package_listed ids h, tt) (timecode_track_listed cfg ids frames 13 h))
    (picture_track_listed cfg ids frames 16 PICTURE_TRACK_NUMBER clip 0 h refl))
    (descriptor_listed cfg ids frames h, tt)

-- each set is listed
pub sets_listed : (cfg : Fields) (ids : Ids) (frames : Option ℕ) → AreIds ids → AreListed (raw_sets cfg ids frames)
unfolding sets
sets_listed cfg ids frames h = both_listed (material_sets cfg ids frames) (file_sets cfg ids frames) (material_listed cfg ids frames h) (file_listed cfg ids frames h)

-- Laws of how many bytes the items of each set have: proved here, for proofs to cite.
use Rattle.std.proofs.Common.{◌≡◌, ℕ, ◌+◌, List, length, Option, refl, arith}
use Rattle.std.specs.List.{AllByRecursion}
use Rattle.rec_bytes.specs.Configuration.{Fields}
use Rattle.local_sets.specs.laws.Lengths.{IsSized, length-items_bytes}
use Rattle.local_sets.specs.Sets.{items_bytes}
use Rattle.local_sets.specs.declared.set.Item.{Item}
use Rattle.mxf_names.specs.Identifiers.{AreIds}
use Rattle.mxf_names.specs.laws.Lengths.{length-set_id, length-umid}
use Rattle.mxf_metadata.specs.Sets.{preface, identification, content_storage, essence_container, material_package, file_package, track}
use Rattle.mxf_metadata.specs.Sets.{sequence, timecode, source_clip, descriptor}
use Rattle.mxf_names.specs.declared.ids.Ids.{Ids}

-- the values of items have the sizes of their types
abbrev pub AreSized : List Item → Type 0
AreSized items = AllByRecursion (λ item. IsSized item.value) items

pub preface_sized : (ids : Ids) → AreIds ids → AreSized (preface ids)
unfolding preface
preface_sized ids h = (length-set_id ids 1 h, (tt, (tt, (tt, (length-set_id ids 3 h, (length-set_id ids 2 h, (refl, (refl, (tt, tt)))))))))

pub length_preface : (ids : Ids) → AreIds ids → length (items_bytes (preface ids)) ≡ 154
unfolding preface
length_preface ids h = length-items_bytes (preface ids) (preface_sized ids h)

pub identification_sized : (ids : Ids) → AreIds ids → AreSized (identification ids)
unfolding identification
identification_sized ids h = (length-set_id ids 2 h, (length-set_id ids 2 h, (omega arith, (omega arith, (omega arith, (refl, (tt, tt)))))))

pub length_identification : (ids : Ids) → AreIds ids → length (items_bytes (identification ids)) ≡ 124
unfolding identification
length_identification ids h = length-items_bytes (identification ids) (identification_sized ids h)

pub content_storage_sized : (ids : Ids) → AreIds ids → AreSized (content_storage ids)
unfolding content_storage
content_storage_sized ids h = (length-set_id ids 3 h, ((length-set_id ids 5 h, length-set_id ids 12 h), (length-set_id ids 4 h, tt)))

pub length_content_storage : (ids : Ids) → AreIds ids → length (items_bytes (content_storage ids)) ≡ 92
unfolding content_storage
length_content_storage ids h = length-items_bytes (content_storage ids) (content_storage_sized ids h)

pub essence_container_sized : (ids : Ids) → AreIds ids → AreSized (essence_container ids)
unfolding essence_container
essence_container_sized ids h = (length-set_id ids 4 h, (length-umid ids.file h.file, (tt, (tt, tt))))

pub length_essence_container : (ids : Ids) → AreIds ids → length (items_bytes (essence_container ids)) ≡ 72
unfolding essence_container
length_essence_container ids h = length-items_bytes (essence_container ids) (essence_container_sized ids h)

pub material_package_sized : (ids : Ids) → AreIds ids → AreSized (material_package ids)
unfolding material_package
material_package_sized ids h = (length-set_id ids 5 h, (length-umid ids.take h.take, (tt, (tt, ((length-set_id ids 6 h, length-set_id ids 9 h), tt)))))

pub length_material_package : (ids : Ids) → AreIds ids → length (items_bytes (material_package ids)) ≡ 124
unfolding material_package
length_material_package ids h = length-items_bytes (material_package ids) (material_package_sized ids h)

pub file_package_sized : (ids : Ids) → AreIds ids → AreSized (file_package ids)
unfolding file_package
file_package_sized ids h =
    (length-set_id ids 12 h, (length-umid ids.file h.file, (tt, (tt, ((length-set_id ids 13 h, length-set_id ids 16 h), (length-set_id ids 19 h, tt))))))

pub length_file_package : (ids : Ids) → AreIds ids → length (items_bytes (file_package ids)) ≡ 144
unfolding file_package
length_file_package ids h = length-items_bytes (file_package ids) (file_package_sized ids h)

pub track_sized : (cfg : Fields) (ids : Ids) (number track_id track_number : ℕ) → AreIds ids → AreSized (track cfg ids number track_id track_number)
unfolding track
track_sized cfg ids number track_id track_number h = (length-set_id ids number h, (tt, (tt, (tt, (tt, (length-set_id ids (number + 1) h, tt))))))

pub length_track : (cfg : Fields) (ids : Ids) (number track_id track_number : ℕ) → AreIds ids
    → length (items_bytes (track cfg ids number track_id track_number)) ≡ 80
unfolding track
length_track cfg ids number track_id track_number h =
    length-items_bytes (track cfg ids number track_id track_number) (track_sized cfg ids number track_id track_number h)

pub sequence_sized : (ids : Ids) (number : ℕ) (kind : List ℕ) (frames : Option ℕ) → AreIds ids → length kind ≡ 16
    → AreSized (sequence ids number kind frames)
unfolding sequence
sequence_sized ids number kind frames h k = (length-set_id ids number h, (k, (tt, (length-set_id ids (number + 1) h, tt))))

pub length_sequence : (ids : Ids) (number : ℕ) (kind : List ℕ) (frames : Option ℕ) → AreIds ids → length kind ≡ 16
    → length (items_bytes (sequence ids number kind frames)) ≡ 80
unfolding sequence
length_sequence ids number kind frames h k = length-items_bytes (sequence ids number kind frames) (sequence_sized ids number kind frames h k)

pub timecode_sized : (cfg : Fields) (ids : Ids) (number : ℕ) (frames : Option ℕ) → AreIds ids → AreSized (timecode cfg ids number frames)
unfolding timecode
timecode_sized cfg ids number frames h = (length-set_id ids number h, (refl, (tt, (tt, (tt, (tt, tt))))))

pub length_timecode : (cfg : Fields) (ids : Ids) (number : ℕ) (frames : Option ℕ) → AreIds ids → length (items_bytes (timecode cfg ids number frames)) ≡ 75
unfolding timecode
length_timecode cfg ids number frames h = length-items_bytes (timecode cfg ids number frames) (timecode_sized cfg ids number frames h)

pub source_clip_sized : (ids : Ids) (number : ℕ) (frames : Option ℕ) (source : List ℕ) (track_id : ℕ) → AreIds ids
    → length source ≡ 32 → AreSized (source_clip ids number frames source track_id)
unfolding source_clip
source_clip_sized ids number frames source track_id h k = (length-set_id ids number h, (refl, (tt, (tt, (k, (tt, tt))))))

pub length_source_clip : (ids : Ids) (number : ℕ) (frames : Option ℕ) (source : List ℕ) (track_id : ℕ) → AreIds ids
    → length source ≡ 32 → length (items_bytes (source_clip ids number frames source track_id)) ≡ 108
unfolding source_clip
length_source_clip ids number frames source track_id h k =
    length-items_bytes (source_clip ids number frames source track_id) (source_clip_sized ids number frames source track_id h k)

pub descriptor_sized : (cfg : Fields) (ids : Ids) (frames : Option ℕ) → AreIds ids → AreSized (descriptor cfg ids frames)
unfolding descriptor
descriptor_sized cfg ids frames h = (length-set_id ids 19 h, (tt, (tt, (tt, (refl, (refl, (tt, (tt, (tt, (tt, (tt, (tt, tt))))))))))))

pub length_descriptor : (cfg : Fields) (ids : Ids) (frames : Option ℕ) → AreIds ids → length (items_bytes (descriptor cfg ids frames)) ≡ 141
unfolding descriptor
length_descriptor cfg ids frames h = length-items_bytes (descriptor cfg ids frames) (descriptor_sized cfg ids frames h)

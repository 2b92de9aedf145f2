-- Laws of how many bytes the metadata has: proved here, for proofs to cite.
use Rattle.std.proofs.Common.{◌≡◌, ℕ, ◌+◌, List, [], ◌∷◌, ◌++◌, length, Option, refl, sym, ap, ◌∙◌, arith, append_assoc, length-append}
use Rattle.std.specs.List.{flat_map}
use Rattle.rec_bytes.specs.Configuration.{Fields}
use Rattle.local_sets.specs.laws.Lengths.{length-local_set}
use Rattle.local_sets.specs.Sets.{items_bytes}
use Rattle.local_sets.specs.declared.set.Item.{Item}
use Rattle.mxf_names.specs.Identifiers.{AreIds, umid}
use Rattle.mxf_names.specs.Keys.{set_key}
use Rattle.mxf_metadata.specs.Metadata.{Set, set_bytes, metadata_set, storage_sets, timecode_track, picture_track, material_sets, file_sets, sets}
use Rattle.mxf_metadata.specs.Sets.{preface, identification, content_storage, essence_container, material_package, file_package, track}
use Rattle.mxf_metadata.specs.Sets.{sequence, timecode, source_clip, descriptor}
use Rattle.mxf_names.specs.declared.ids.Ids.{Ids}
use Rattle.mxf_metadata.specs.declared.labels.TheConstants.{NO_SOURCE}
use Rattle.mxf_metadata.specs.declared.labels.TheConstants.{PREFACE_SET, IDENTIFICATION_SET, STORAGE_SET, CONTAINER_SET, MATERIAL_SET}
use Rattle.mxf_metadata.specs.declared.labels.TheConstants.{FILE_SET, TRACK_SET, SEQUENCE_SET, TIMECODE_SET, CLIP_SET, DESCRIPTOR_SET}
use Rattle.mxf_metadata.specs.declared.labels.TheConstants.{PICTURE_KIND, TIMECODE_KIND}
use Rattle.mxf_names.specs.declared.keys.TheConstants.{PICTURE_TRACK_NUMBER}
use Rattle.klv.specs.Items.{length_bytes}
use Rattle.mxf_metadata.specs.Primer.{primer, primer_value}
use Rattle.mxf_names.specs.laws.Lengths.{length-umid}
use Rattle.mxf_metadata.specs.laws.Sizes.{length_preface, length_identification, length_content_storage, length_essence_container}
use Rattle.mxf_metadata.specs.laws.Sizes.{length_material_package, length_file_package, length_track, length_sequence, length_timecode}
use Rattle.mxf_metadata.specs.laws.Sizes.{length_source_clip, length_descriptor}

-- the primer has 928
pub length_primer : length primer ≡ 928
unfolding primer primer_value length_bytes
length_primer = refl

-- the bytes of joined lists of sets
pub joined_bytes : (xs ys : List Set) → flat_map set_bytes (xs ++ ys) ≡ flat_map set_bytes xs ++ flat_map set_bytes ys
joined_bytes [] ys = refl
joined_bytes (set ∷ xs) ys = ap (λ (rest : List ℕ). set_bytes set ++ rest) (joined_bytes xs ys) ∙ sym (append_assoc (set_bytes set)
    (flat_map set_bytes xs) (flat_map set_bytes ys))

-- bytes of sets
abbrev sets_len : List Set → ℕ
sets_len list = length (flat_map set_bytes list)

-- one set more
more : (kind : ℕ) (items : List Item) (n : ℕ) (rest : List Set) (m : ℕ) → length (items_bytes items) ≡ n
    → sets_len rest ≡ m → sets_len (metadata_set kind items ∷ rest) ≡ 20 + n + m
more kind items n rest m p q =
    omega (arith, length-append (set_bytes (metadata_set kind items)) (flat_map set_bytes rest), length-local_set (set_key kind) items refl, p, q)

-- joined lists of sets
sum : (xs ys : List Set) (m n : ℕ) → sets_len xs ≡ m → sets_len ys ≡ n → sets_len (xs ++ ys) ≡ m + n
sum xs ys m n p q =
    ap (λ (bytes : List ℕ). length bytes) (joined_bytes xs ys) ∙ omega (arith, length-append (flat_map set_bytes xs) (flat_map set_bytes ys), p, q)

length_storage : (ids : Ids) → AreIds ids → sets_len (storage_sets ids) ≡ 666
unfolding storage_sets
length_storage ids h =
    let fifth : List Set = metadata_set MATERIAL_SET (material_package ids) ∷ [] in
    let fourth : List Set = metadata_set CONTAINER_SET (essence_container ids) ∷ fifth in
    let third : List Set = metadata_set STORAGE_SET (content_storage ids) ∷ fourth in
    let second : List Set = metadata_set IDENTIFICATION_SET (identification ids) ∷ third in
    more PREFACE_SET (preface ids) 154 second 492 (length_preface ids h)
    (more IDENTIFICATION_SET (identification ids) 124 third 348 (length_identification ids h)
    (more STORAGE_SET (content_storage ids) 92 fourth 236 (length_content_storage ids h)
    (more CONTAINER_SET (essence_container ids) 72 fifth 144 (length_essence_container ids h)
    (more MATERIAL_SET (material_package ids) 124 [] 0 (length_material_package ids h) refl))))

length_timecode_track : (cfg : Fields) (ids : Ids) (frames : Option ℕ) (number : ℕ) → AreIds ids → sets_len (timecode_track cfg ids frames number) ≡ 295
unfolding timecode_track
length_timecode_track cfg ids frames number h =
    let third : List Set = metadata_set TIMECODE_SET (timecode cfg ids (number + 2) frames) ∷ [] in
    let second : List Set = metadata_set SEQUENCE_SET (sequence ids (number + 1) TIMECODE_KIND frames) ∷ third in
    more TRACK_SET (track cfg ids number 1 0) 80 second 195 (length_track cfg ids number 1 0 h)
    (more SEQUENCE_SET (sequence ids (number + 1) TIMECODE_KIND frames) 80 third 95 (length_sequence ids (number + 1) TIMECODE_KIND frames h refl)
    (more TIMECODE_SET (timecode cfg ids (number + 2) frames) 75 [] 0 (length_timecode cfg ids (number + 2) frames h) refl))

length_picture_track : (cfg : Fields) (ids : Ids) (frames : Option ℕ) (number track_number : ℕ) (source : List ℕ) (track_id : ℕ)
    → AreIds ids → length source ≡ 32
    → sets_len (picture_track cfg ids frames number track_number source track_id) ≡ 328
unfolding picture_track
length_picture_track cfg ids frames number track_number source track_id h k =
    let third : List Set = metadata_set CLIP_SET (source_clip ids (number + 2) frames source track_id) ∷ [] in
    let second : List Set = metadata_set SEQUENCE_SET (sequence ids (number + 1) PICTURE_KIND frames) ∷ third in
    more TRACK_SET (track cfg ids number 2 track_number) 80 second 228 (length_track cfg ids number 2 track_number h)
    (more SEQUENCE_SET (sequence ids (number + 1) PICTURE_KIND frames) 80 third 128 (length_sequence ids (number + 1) PICTURE_KIND frames h refl)
    (more CLIP_SET (source_clip ids (number + 2) frames source track_id) 108 [] 0 (length_source_clip ids (number + 2) frames source track_id h k) refl))

length_material : (cfg : Fields) (ids : Ids) (frames : Option ℕ) → AreIds ids → sets_len (material_sets cfg ids frames) ≡ 1289
unfolding material_sets
length_material cfg ids frames h =
    sum (storage_sets ids ++ timecode_track cfg ids frames 6) (picture_track cfg ids frames 9 0 (umid ids.file) 2) 961 328
    (sum (storage_sets ids) (timecode_track cfg ids frames 6) 666 295 (length_storage ids h) (length_timecode_track cfg ids frames 6 h))
    (length_picture_track cfg ids frames 9 0 (umid ids.file) 2 h (length-umid ids.file h.file))

length_file : (cfg : Fields) (ids : Ids) (frames : Option ℕ) → AreIds ids → sets_len (file_sets cfg ids frames) ≡ 948
unfolding file_sets
length_file cfg ids frames h =
    let package_sets : List Set = metadata_set FILE_SET (file_package ids) ∷ [] in
    let timecode_sets : List Set = timecode_track cfg ids frames 13 in
    let picture_sets : List Set = picture_track cfg ids frames 16 PICTURE_TRACK_NUMBER NO_SOURCE 0 in
    let descriptor_sets : List Set = metadata_set DESCRIPTOR_SET (descriptor cfg ids frames) ∷ [] in
    sum ((package_sets ++ timecode_sets) ++ picture_sets) descriptor_sets 787 161
    (sum (package_sets ++ timecode_sets) picture_sets 459 328
    (sum package_sets timecode_sets 164 295 (more FILE_SET (file_package ids) 144 [] 0 (length_file_package ids h) refl)
    (length_timecode_track cfg ids frames 13 h))
    (length_picture_track cfg ids frames 16 PICTURE_TRACK_NUMBER NO_SOURCE 0 h refl))
    (more DESCRIPTOR_SET (descriptor cfg ids frames) 141 [] 0 (length_descriptor cfg ids frames h) refl)

-- the 19 sets have 2,237 bytes
pub length_sets : (cfg : Fields) (ids : Ids) (frames : Option ℕ) → AreIds ids → length (flat_map set_bytes (sets cfg ids frames)) ≡ 2237
unfolding sets
length_sets cfg ids frames h =
    sum (material_sets cfg ids frames) (file_sets cfg ids frames) 1289 948 (length_material cfg ids frames h) (length_file cfg ids frames h)

-- The items of the metadata sets have tags of the primer, the sizes of these, and name sets that are there.
use Rattle.std.proofs.Common.{◌≡◌, ℕ, ◌+◌, true, cond, List, [], ◌∷◌, length, map}
use Rattle.std.proofs.Common.{Bool, false, ◌==◌, ◌&&◌, ◌++◌, Option, Some, None, refl, ap}
use Rattle.std.specs.Prelude.{nat_lt}
use Rattle.std.specs.Option.{is_some}
use Rattle.std.proofs.lemmas.Bool.{eqb-true}
use Rattle.std.specs.List.{list_all, AllByRecursion}
use Rattle.rec_bytes.specs.Configuration.{Fields}
use Rattle.local_sets.specs.Values.{value_bytes}
use Rattle.local_sets.specs.laws.Lengths.{IsSized}
use Rattle.local_sets.specs.declared.set.Item as typed
use Rattle.local_sets.specs.declared.value.Value.{Value}
use Rattle.local_sets.specs.declared.value.Value.TheVariants.{Byte, Short, Word, Long, Ratio, Duration, Label, Umid, EmptyBatch, BatchOfOne, BatchOfTwo, Text}
use Rattle.mxf_names.specs.Identifiers.{AreIds, set_id, umid}
use Rattle.mxf_names.specs.laws.Lengths.{length-umid}
use Rattle.mxf_names.specs.declared.ids.Ids.{Ids}
use Rattle.mxf_names.specs.declared.keys.TheConstants.{PICTURE_TRACK_NUMBER}
use Rattle.mxf_metadata.specs.Nodes.{is_reference}
use Rattle.mxf_metadata.specs.Tags.{is_among}
use Rattle.mxf_metadata.specs.Metadata.{Set, metadata_set, storage_sets, timecode_track, picture_track, material_sets, file_sets, sets}
use Rattle.mxf_metadata.specs.Sets.{preface, identification, content_storage, essence_container, material_package, file_package, track}
use Rattle.mxf_metadata.specs.Sets.{sequence, timecode, source_clip, descriptor}
use Rattle.mxf_metadata.specs.laws.Sizes.{preface_sized, identification_sized, content_storage_sized, essence_container_sized, material_package_sized}
use Rattle.mxf_metadata.specs.laws.Sizes.{file_package_sized, track_sized, sequence_sized, timecode_sized, source_clip_sized, descriptor_sized}
use Rattle.mxf_metadata.specs.declared.labels.TheConstants.{PICTURE_KIND, TIMECODE_KIND, TIMECODE_TRACK_ID, PICTURE_TRACK_ID, NO_SOURCE}
use Rattle.mxf_metadata.specs.declared.tags.Tag.{Tag}
use Rattle.mxf_metadata.specs.declared.tags.Size.{Size}
use Rattle.mxf_metadata.specs.declared.tags.Size.TheVariants.{Fixed, Batch, Letters}
use Rattle.mxf_metadata.specs.declared.tags.TheConstants.{TAGS}
use Rattle.mxf_metadata_reader.specs.Sizes.{size_of, size_among}
use Rattle.mxf_op1a.specs.Metadata.{SetAt, set_with}
use Rattle.mxf_metadata.specs.declared.labels.TheConstants.{PREFACE_SET, IDENTIFICATION_SET, STORAGE_SET, CONTAINER_SET, MATERIAL_SET, FILE_SET}
use Rattle.mxf_metadata.specs.declared.labels.TheConstants.{TRACK_SET, SEQUENCE_SET, TIMECODE_SET, CLIP_SET, DESCRIPTOR_SET}
use Rattle.mxf_take_op1a.proofs.SetLemmas.{both}
use Rattle.mxf_take_op1a.proofs.SmallLemmas.{each_join}

-- the tags of the table
abbrev pub tags : List ℕ
tags = map (λ (tag : Tag). tag.tag) TAGS

-- the size of a kind of value
abbrev pub kind_size : Value → Size
kind_size (Byte number) = Fixed 1
kind_size (Short number) = Fixed 2
kind_size (Word number) = Fixed 4
kind_size (Long number) = Fixed 8
kind_size (Ratio numerator denominator) = Fixed 8
kind_size (Duration count) = Fixed 8
kind_size (Label bytes) = Fixed 16
kind_size (Umid bytes) = Fixed 32
kind_size EmptyBatch = Batch
kind_size (BatchOfOne item) = Batch
kind_size (BatchOfTwo first second) = Batch
kind_size (Text letters count) = Letters

-- the identifiers in a value: those of a batch, or the value itself
abbrev pub ids_named : Value → List (List ℕ)
ids_named (Byte number) = value_bytes (Byte number) ∷ []
ids_named (Short number) = value_bytes (Short number) ∷ []
ids_named (Word number) = value_bytes (Word number) ∷ []
ids_named (Long number) = value_bytes (Long number) ∷ []
ids_named (Ratio numerator denominator) = value_bytes (Ratio numerator denominator) ∷ []
ids_named (Duration count) = value_bytes (Duration count) ∷ []
ids_named (Label bytes) = bytes ∷ []
ids_named (Umid bytes) = bytes ∷ []
ids_named EmptyBatch = []
ids_named (BatchOfOne item) = item ∷ []
ids_named (BatchOfTwo first second) = first ∷ second ∷ []
ids_named (Text letters count) = value_bytes (Text letters count) ∷ []

-- an item has a tag of the table and the size of the tag, and the sets that it names are among sets
pub record Row (s : List SetAt) (item : typed.Item) : Type 0 where
  pub among : is_among item.tag tags ≡ true
  pub size : size_of item.tag ≡ Some (kind_size item.value)
  pub small : nat_lt item.tag 65536 ≡ true
  pub named : list_all (λ id. is_some (set_with s id)) (cond (is_reference item.tag) (ids_named item.value) []) ≡ true

abbrev pub AreRows : List SetAt → List typed.Item → Type 0
AreRows s items = AllByRecursion (Row s) items

-- the 19 sets are among sets
abbrev pub HasSets : List SetAt → Ids → Type 0
HasSets s ids = (k : ℕ) → nat_lt 0 k ≡ true → nat_lt k 20 ≡ true → is_some (set_with s (set_id ids k)) ≡ true

-- the tests of a row that need no other sets
abbrev pub same_size : Option Size → Size → Bool
same_size None size = false
same_size (Some (Fixed m)) (Fixed n) = m == n
same_size (Some (Fixed m)) Batch = false
same_size (Some (Fixed m)) Letters = false
same_size (Some Batch) (Fixed n) = false
same_size (Some Batch) Batch = true
same_size (Some Batch) Letters = false
same_size (Some Letters) (Fixed n) = false
same_size (Some Letters) Batch = false
same_size (Some Letters) Letters = true

abbrev pub is_listed : typed.Item → Bool
is_listed item = is_among item.tag tags && (same_size (size_of item.tag) (kind_size item.value) && nat_lt item.tag 65536)

-- the test that does
abbrev pub is_named : List SetAt → typed.Item → Bool
is_named s item = list_all (λ id. is_some (set_with s id)) (cond (is_reference item.tag) (ids_named item.value) [])

size_from : (found : Option Size) (size : Size) → same_size found size ≡ true → found ≡ Some size
size_from None size h = absurd (cc)
size_from (Some (Fixed m)) (Fixed n) h = ap (λ (k : ℕ). Some (Fixed k)) (eqb-true m n h)
size_from (Some (Fixed m)) Batch h = absurd (cc)
size_from (Some (Fixed m)) Letters h = absurd (cc)
size_from (Some Batch) (Fixed n) h = absurd (cc)
size_from (Some Batch) Batch h = refl
size_from (Some Batch) Letters h = absurd (cc)
size_from (Some Letters) (Fixed n) h = absurd (cc)
size_from (Some Letters) Batch h = absurd (cc)
size_from (Some Letters) Letters h = refl

pub rows_from : (s : List SetAt) (items : List typed.Item) → list_all is_listed items ≡ true → list_all (is_named s) items ≡ true → AreRows s items
rows_from s [] h k = tt
rows_from s (item ∷ items) h k =
    let sized : Bool = same_size (size_of item.tag) (kind_size item.value) in
    let listed = both (is_listed item) (list_all is_listed items) h in
    let named = both (is_named s item) (list_all (is_named s) items) k in
    let among = both (is_among item.tag tags) (sized && nat_lt item.tag 65536) listed.0 in
    let rest = both sized (nat_lt item.tag 65536) among.1 in
    let row : Row s item =
    record { among = among.0; size = size_from (size_of item.tag) (kind_size item.value) rest.0; small = rest.1; named = named.0 } in
    (row, rows_from s items listed.1 named.1)

-- a set's values have the sizes of their types, and its items are listed and name sets that are there
pub record IsSound (s : List SetAt) (set : Set) : Type 0 where
  pub sized : AllByRecursion (λ item. IsSized item.value) set.items
  pub listed : list_all is_listed set.items ≡ true
  pub named : list_all (is_named s) set.items ≡ true

-- sets 1 to 5
storage_sound : (s : List SetAt) (ids : Ids) → AreIds ids → HasSets s ids → AllByRecursion (IsSound s) (storage_sets ids)
unfolding storage_sets preface identification content_storage essence_container material_package size_among is_among
storage_sound s ids h f =
    let first : IsSound s (metadata_set PREFACE_SET (preface ids)) =
    record { sized = preface_sized ids h; listed = refl; named = rw (f 3 refl refl, f 2 refl refl) refl } in
    let second : IsSound s (metadata_set IDENTIFICATION_SET (identification ids)) =
    record { sized = identification_sized ids h; listed = refl; named = refl } in
    let third : IsSound s (metadata_set STORAGE_SET (content_storage ids)) =
    record { sized = content_storage_sized ids h; listed = refl; named = rw (f 5 refl refl, f 12 refl refl, f 4 refl refl) refl } in
    let fourth : IsSound s (metadata_set CONTAINER_SET (essence_container ids)) =
    record { sized = essence_container_sized ids h; listed = refl; named = refl } in
    let fifth : IsSound s (metadata_set MATERIAL_SET (material_package ids)) =
    record { sized = material_package_sized ids h; listed = refl; named = rw (f 6 refl refl, f 9 refl refl) refl } in
    (first, (second, (third, (fourth, (fifth, tt)))))

-- a track, and its sequence
track_sound : (s : List SetAt) (cfg : Fields) (ids : Ids) (number track_id track_number : ℕ) → AreIds ids
    → is_some (set_with s (set_id ids (number + 1))) ≡ true → IsSound s (metadata_set TRACK_SET (track cfg ids number track_id track_number))
unfolding track size_among is_among
track_sound s cfg ids number track_id track_number h next =
    record { sized = track_sized cfg ids number track_id track_number h; listed = refl; named = rw next refl }

sequence_sound : (s : List SetAt) (ids : Ids) (number : ℕ) (kind : List ℕ) (frames : Option ℕ) → AreIds ids → length kind ≡ 16
    → is_some (set_with s (set_id ids (number + 1))) ≡ true → IsSound s (metadata_set SEQUENCE_SET (sequence ids number kind frames))
unfolding sequence size_among is_among
sequence_sound s ids number kind frames h long next =
    record { sized = sequence_sized ids number kind frames h long; listed = refl; named = rw next refl }

-- a track of timecode
time_sound : (s : List SetAt) (cfg : Fields) (ids : Ids) (frames : Option ℕ) (number : ℕ) → AreIds ids
    → is_some (set_with s (set_id ids (number + 1))) ≡ true → is_some (set_with s (set_id ids (number + 1 + 1))) ≡ true
    → AllByRecursion (IsSound s) (timecode_track cfg ids frames number)
unfolding timecode_track timecode size_among is_among
time_sound s cfg ids frames number h next last =
    let component : IsSound s (metadata_set TIMECODE_SET (timecode cfg ids (number + 2) frames)) =
    record { sized = timecode_sized cfg ids (number + 2) frames h; listed = refl; named = refl } in
    (track_sound s cfg ids number TIMECODE_TRACK_ID 0 h next, (sequence_sound s ids (number + 1) TIMECODE_KIND frames h refl last, (component, tt)))

-- a track of pictures
picture_sound : (s : List SetAt) (cfg : Fields) (ids : Ids) (frames : Option ℕ) (number track_number : ℕ) (source : List ℕ) (track_id : ℕ) → AreIds ids
    → length source ≡ 32 → is_some (set_with s (set_id ids (number + 1))) ≡ true → is_some (set_with s (set_id ids (number + 1 + 1))) ≡ true
    → AllByRecursion (IsSound s) (picture_track cfg ids frames number track_number source track_id)
unfolding picture_track source_clip size_among is_among
picture_sound s cfg ids frames number track_number source track_id h long next last =
    let clip : IsSound s (metadata_set CLIP_SET (source_clip ids (number + 2) frames source track_id)) =
    record { sized = source_clip_sized ids (number + 2) frames source track_id h long; listed = refl; named = refl } in (
      track_sound s cfg ids number PICTURE_TRACK_ID track_number h next,
      (sequence_sound s ids (number + 1) PICTURE_KIND frames h refl last, (clip, tt)),
    )

-- sets 12 and 19
file_sound : (s : List SetAt) (ids : Ids) → AreIds ids → HasSets s ids → IsSound s (metadata_set FILE_SET (file_package ids))
unfolding file_package size_among is_among
file_sound s ids h f = record { sized = file_package_sized ids h; listed = refl; named = rw (f 13 refl refl, f 16 refl refl, f 19 refl refl) refl }

descriptor_sound : (s : List SetAt) (cfg : Fields) (ids : Ids) (frames : Option ℕ) → AreIds ids
    → IsSound s (metadata_set DESCRIPTOR_SET (descriptor cfg ids frames))
unfolding descriptor size_among is_among
descriptor_sound s cfg ids frames h = record { sized = descriptor_sized cfg ids frames h; listed = refl; named = refl }

-- each of the 19 sets
pub all_sound : (s : List SetAt) (cfg : Fields) (ids : Ids) (frames : Option ℕ) → AreIds ids → HasSets s ids → AllByRecursion (IsSound s) (sets cfg ids frames)
unfolding sets material_sets file_sets
all_sound s cfg ids frames h f =
    let sound : Set → Type 0 = IsSound s in
    let time : List Set = timecode_track cfg ids frames 6 in
    let pictures : List Set = picture_track cfg ids frames 9 0 (umid ids.file) PICTURE_TRACK_ID in
    let file_time : List Set = timecode_track cfg ids frames 13 in
    let file_pictures : List Set = picture_track cfg ids frames 16 PICTURE_TRACK_NUMBER NO_SOURCE 0 in
    let file : List Set = metadata_set FILE_SET (file_package ids) ∷ [] in
    let last : List Set = metadata_set DESCRIPTOR_SET (descriptor cfg ids frames) ∷ [] in
    let material = each_join sound (storage_sets ids ++ time) pictures
    (each_join sound (storage_sets ids) time (storage_sound s ids h f) (time_sound s cfg ids frames 6 h (f 7 refl refl) (f 8 refl refl)))
    (picture_sound s cfg ids frames 9 0 (umid ids.file) PICTURE_TRACK_ID h (length-umid ids.file h.file) (f 10 refl refl) (f 11 refl refl)) in
    let front = each_join sound file file_time (file_sound s ids h f, tt) (time_sound s cfg ids frames 13 h (f 14 refl refl) (f 15 refl refl)) in
    let middle = each_join sound (file ++ file_time) file_pictures front
    (picture_sound s cfg ids frames 16 PICTURE_TRACK_NUMBER NO_SOURCE 0 h refl (f 17 refl refl) (f 18 refl refl)) in
    let all = each_join sound (file ++ file_time ++ file_pictures) last middle (descriptor_sound s cfg ids frames h, tt) in
    each_join sound ((storage_sets ids ++ time) ++ pictures) _ material all

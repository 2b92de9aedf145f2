-- The sets that a take's metadata name are of the kinds that are due.
use Rattle.std.proofs.Common.{◌≡◌, ℕ, ◌+◌, ◌&&◌, Bool, true, cond, List, [], ◌∷◌, ◌++◌, length, map, Option, refl, ap, ap₂, ◌∙◌}
use Rattle.std.specs.List.{list_all, AllByRecursion}
use Rattle.klv.specs.Items.{spelled}
use Rattle.rec_bytes.specs.Configuration.{Fields}
use Rattle.local_sets.specs.Sets.{raw}
use Rattle.local_sets.specs.laws.Lengths.{IsSized}
use Rattle.local_sets.specs.declared.set.Item as typed
use Rattle.mxf_names.specs.Identifiers.{AreIds, set_id, umid}
use Rattle.mxf_names.specs.declared.ids.Ids.{Ids}
use Rattle.mxf_names.specs.declared.keys.TheConstants.{PICTURE_TRACK_NUMBER}
use Rattle.mxf_metadata.specs.Links.{kinds_named}
use Rattle.mxf_metadata.specs.Nodes.{is_reference}
use Rattle.mxf_metadata.specs.Tags.{is_among}
use Rattle.mxf_metadata.specs.Metadata.{Set, metadata_set, storage_sets, timecode_track, picture_track, material_sets, file_sets, sets}
use Rattle.mxf_metadata.specs.Sets.{preface, identification, content_storage, essence_container, material_package, file_package, track}
use Rattle.mxf_metadata.specs.Sets.{sequence, timecode, source_clip, descriptor}
use Rattle.mxf_metadata.specs.declared.labels.TheConstants.{STORAGE_SET, IDENTIFICATION_SET, MATERIAL_SET, FILE_SET, CONTAINER_SET, TRACK_SET}
use Rattle.mxf_metadata.specs.declared.labels.TheConstants.{SEQUENCE_SET, CLIP_SET, TIMECODE_SET, DESCRIPTOR_SET}
use Rattle.mxf_metadata.specs.declared.labels.TheConstants.{PICTURE_TRACK_ID, NO_SOURCE}
use Rattle.mxf_op1a.specs.Metadata.{SetAt, set_with}
use Rattle.mxf_take_file.specs.Items.{item_of_set}
use Rattle.mxf_take_op1a.specs.Take.{AreLinked, is_linked, leads_to}
use Rattle.mxf_take_op1a.proofs.MetadataLemmas.{found_by, has_sets, names_are, numbered, with_number}
use Rattle.mxf_take_op1a.proofs.MetadataRows.{AreRows, IsSound, all_sound, ids_named, rows_from}
use Rattle.mxf_take_op1a.proofs.SetLemmas.{both, own_sets}
use Rattle.mxf_take_op1a.proofs.SmallLemmas.{each_join}

-- an item of ours names sets of the kinds that are due
abbrev is_led : List SetAt → typed.Item → Bool
is_led s item = list_all (λ id. leads_to (kinds_named item.tag) (set_with s id)) (cond (is_reference item.tag) (ids_named item.value) [])

-- so do the items of a set
abbrev IsLed : List SetAt → Set → Type 0
IsLed s set = list_all (is_led s) set.items ≡ true

-- as it is read
linked_items : (s : List SetAt) (items : List typed.Item) → AllByRecursion (λ item. IsSized item.value) items → AreRows s items
    → list_all (is_led s) items ≡ true → list_all (is_linked s) (map raw items) ≡ true
linked_items s [] h rows led = refl
linked_items s (item ∷ items) h rows led =
    let leads : List (List ℕ) → Bool = list_all (λ id. leads_to (kinds_named item.tag) (set_with s id)) in
    let parts = both (is_led s item) (list_all (is_led s) items) led in
    ap₂ (λ (a b : Bool). a && b) (ap leads (names_are item h.0 rows.0.size) ∙ parts.0) (linked_items s items h.1 rows.1 parts.1)

linked_sets : (s : List SetAt) (at : ℕ) (list : List Set) → AllByRecursion (IsSound s) list → AllByRecursion (IsLed s) list
    → AllByRecursion (λ p. list_all (is_linked s) p.set.items ≡ true) (own_sets at list)
unfolding own_sets
linked_sets s at [] sound led = tt
linked_sets s at (set ∷ list) sound led = (
  linked_items s set.items sound.0.sized (rows_from s set.items sound.0.listed sound.0.named) led.0,
  linked_sets s (at + length (spelled (item_of_set set))) list sound.1 led.1,
)

-- the track with a number, its sequence and its component
pub record LeadToTrack (s : List SetAt) (ids : Ids) (number : ℕ) : Type 0 where
  pub track : leads_to (TRACK_SET ∷ []) (set_with s (set_id ids number)) ≡ true
  pub sequence : leads_to (SEQUENCE_SET ∷ []) (set_with s (set_id ids (number + 1))) ≡ true
  pub component : leads_to (CLIP_SET ∷ TIMECODE_SET ∷ []) (set_with s (set_id ids (number + 1 + 1))) ≡ true

-- the sets that are named
pub record LeadToSets (s : List SetAt) (ids : Ids) : Type 0 where
  pub identification : leads_to (IDENTIFICATION_SET ∷ []) (set_with s (set_id ids 2)) ≡ true
  pub storage : leads_to (STORAGE_SET ∷ []) (set_with s (set_id ids 3)) ≡ true
  pub container : leads_to (CONTAINER_SET ∷ []) (set_with s (set_id ids 4)) ≡ true
  pub material : leads_to (MATERIAL_SET ∷ FILE_SET ∷ []) (set_with s (set_id ids 5)) ≡ true
  pub file : leads_to (MATERIAL_SET ∷ FILE_SET ∷ []) (set_with s (set_id ids 12)) ≡ true
  pub descriptor : leads_to (DESCRIPTOR_SET ∷ []) (set_with s (set_id ids 19)) ≡ true
  pub material_time : LeadToTrack s ids 6
  pub material_picture : LeadToTrack s ids 9
  pub file_time : LeadToTrack s ids 13
  pub file_picture : LeadToTrack s ids 16

-- sets 1 to 5
storage_led : (s : List SetAt) (ids : Ids) → LeadToSets s ids → AllByRecursion (IsLed s) (storage_sets ids)
unfolding storage_sets preface identification content_storage essence_container material_package is_among
storage_led s ids f =
    let first : IsLed s (metadata_set 0 (preface ids)) = rw (f.storage, f.identification) refl in
    let third : IsLed s (metadata_set 0 (content_storage ids)) = rw (f.material, f.file, f.container) refl in
    let fifth : IsLed s (metadata_set 0 (material_package ids)) = rw (f.material_time.track, f.material_picture.track) refl in
    (first, (refl, (third, (refl, (fifth, tt)))))

-- a track of timecode, and one of pictures
time_led : (s : List SetAt) (cfg : Fields) (ids : Ids) (frames : Option ℕ) (number : ℕ) → LeadToTrack s ids number
    → AllByRecursion (IsLed s) (timecode_track cfg ids frames number)
unfolding timecode_track track sequence timecode is_among
time_led s cfg ids frames number f = (rw f.sequence refl, (rw f.component refl, (refl, tt)))

picture_led : (s : List SetAt) (cfg : Fields) (ids : Ids) (frames : Option ℕ) (number track_number : ℕ) (source : List ℕ) (track_id : ℕ)
    → LeadToTrack s ids number → AllByRecursion (IsLed s) (picture_track cfg ids frames number track_number source track_id)
unfolding picture_track track sequence source_clip is_among
picture_led s cfg ids frames number track_number source track_id f = (rw f.sequence refl, (rw f.component refl, (refl, tt)))

-- sets 12 and 19
file_led : (s : List SetAt) (ids : Ids) (kind : ℕ) → LeadToSets s ids → IsLed s (metadata_set kind (file_package ids))
unfolding file_package is_among
file_led s ids kind f = rw (f.file_time.track, f.file_picture.track, f.descriptor) refl

descriptor_led : (s : List SetAt) (cfg : Fields) (ids : Ids) (frames : Option ℕ) (kind : ℕ) → IsLed s (metadata_set kind (descriptor cfg ids frames))
unfolding descriptor is_among
descriptor_led s cfg ids frames kind = refl

-- each of the 19 sets
all_led : (s : List SetAt) (cfg : Fields) (ids : Ids) (frames : Option ℕ) → LeadToSets s ids → AllByRecursion (IsLed s) (sets cfg ids frames)
unfolding sets material_sets file_sets
all_led s cfg ids frames f =
    let led : Set → Type 0 = IsLed s in
    let time : List Set = timecode_track cfg ids frames 6 in
    let pictures : List Set = picture_track cfg ids frames 9 0 (umid ids.file) PICTURE_TRACK_ID in
    let file_time : List Set = timecode_track cfg ids frames 13 in
    let file_pictures : List Set = picture_track cfg ids frames 16 PICTURE_TRACK_NUMBER NO_SOURCE 0 in
    let file : List Set = metadata_set FILE_SET (file_package ids) ∷ [] in
    let last : List Set = metadata_set DESCRIPTOR_SET (descriptor cfg ids frames) ∷ [] in
    let material = each_join led (storage_sets ids ++ time) pictures
    (each_join led (storage_sets ids) time (storage_led s ids f) (time_led s cfg ids frames 6 f.material_time))
    (picture_led s cfg ids frames 9 0 (umid ids.file) PICTURE_TRACK_ID f.material_picture) in
    let front = each_join led file file_time (file_led s ids FILE_SET f, tt) (time_led s cfg ids frames 13 f.file_time) in
    let middle = each_join led (file ++ file_time) file_pictures front
    (picture_led s cfg ids frames 16 PICTURE_TRACK_NUMBER NO_SOURCE 0 f.file_picture) in
    let all = each_join led (file ++ file_time ++ file_pictures) last middle (descriptor_led s cfg ids frames DESCRIPTOR_SET, tt) in
    each_join led ((storage_sets ids ++ time) ++ pictures) _ material all

-- a set with a number is of its kind
leads : (cfg : Fields) (ids : Ids) (frames : Option ℕ) (at k : ℕ) (kinds : List ℕ) → AreIds ids
    → leads_to kinds (with_number 1 k at (sets cfg ids frames)) ≡ true → leads_to kinds (set_with (own_sets at (sets cfg ids frames)) (set_id ids k)) ≡ true
leads cfg ids frames at k kinds h e = ap (leads_to kinds) (found_by ids 1 k at (sets cfg ids frames) h (numbered cfg ids frames)) ∙ e

lead_to_sets : (cfg : Fields) (ids : Ids) (frames : Option ℕ) (at : ℕ) → AreIds ids → LeadToSets (own_sets at (sets cfg ids frames)) ids
unfolding sets material_sets file_sets storage_sets timecode_track picture_track with_number is_among
lead_to_sets cfg ids frames at h = record {
  identification = leads cfg ids frames at 2 (IDENTIFICATION_SET ∷ []) h refl;
  storage = leads cfg ids frames at 3 (STORAGE_SET ∷ []) h refl;
  container = leads cfg ids frames at 4 (CONTAINER_SET ∷ []) h refl;
  material = leads cfg ids frames at 5 (MATERIAL_SET ∷ FILE_SET ∷ []) h refl;
  file = leads cfg ids frames at 12 (MATERIAL_SET ∷ FILE_SET ∷ []) h refl;
  descriptor = leads cfg ids frames at 19 (DESCRIPTOR_SET ∷ []) h refl;
  material_time = record {
    track = leads cfg ids frames at 6 (TRACK_SET ∷ []) h refl;
    sequence = leads cfg ids frames at 7 (SEQUENCE_SET ∷ []) h refl;
    component = leads cfg ids frames at 8 (CLIP_SET ∷ TIMECODE_SET ∷ []) h refl;
  };
  material_picture = record {
    track = leads cfg ids frames at 9 (TRACK_SET ∷ []) h refl;
    sequence = leads cfg ids frames at 10 (SEQUENCE_SET ∷ []) h refl;
    component = leads cfg ids frames at 11 (CLIP_SET ∷ TIMECODE_SET ∷ []) h refl;
  };
  file_time = record {
    track = leads cfg ids frames at 13 (TRACK_SET ∷ []) h refl;
    sequence = leads cfg ids frames at 14 (SEQUENCE_SET ∷ []) h refl;
    component = leads cfg ids frames at 15 (CLIP_SET ∷ TIMECODE_SET ∷ []) h refl;
  };
  file_picture = record {
    track = leads cfg ids frames at 16 (TRACK_SET ∷ []) h refl;
    sequence = leads cfg ids frames at 17 (SEQUENCE_SET ∷ []) h refl;
    component = leads cfg ids frames at 18 (CLIP_SET ∷ TIMECODE_SET ∷ []) h refl;
  };
}

-- the sets of a take's metadata are linked
pub own_linked : (cfg : Fields) (ids : Ids) (frames : Option ℕ) (at : ℕ) → AreIds ids → AreLinked (own_sets at (sets cfg ids frames))
own_linked cfg ids frames at h =
    let s : List SetAt = own_sets at (sets cfg ids frames) in
    linked_sets s at (sets cfg ids frames) (all_sound s cfg ids frames h (has_sets cfg ids frames at h)) (all_led s cfg ids frames (lead_to_sets cfg ids frames at h))

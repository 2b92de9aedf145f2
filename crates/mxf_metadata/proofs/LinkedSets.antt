-- How the 19 sets name one another: computed by their numbers, and carried to identifiers.
use Rattle.std.proofs.Common.{◌≡◌, ℕ, ◌+◌, ◌&&◌, not, Bool, true, false, List, [], ◌∷◌, map, Option, refl, sym, subst}
use Rattle.std.specs.List.{list_all, AllByRecursion, IsDistinct}
use Rattle.std.specs.Str.{bytes_eq}
use Rattle.byteorder.specs.Endian.{big_bytes}
use Rattle.rec_bytes.specs.Configuration.{Fields}
use Rattle.mxf_names.specs.Identifiers.{set_id, umid}
use Rattle.mxf_names.specs.declared.ids.Ids.{Ids}
use Rattle.mxf_names.specs.declared.keys.TheConstants.{PICTURE_TRACK_NUMBER}
use Rattle.mxf_metadata.specs.Links.{Reference, Node, AreOwned, own_ids, named_ids, AreResolved, AreSequences, ShowsFile}
use Rattle.mxf_metadata.specs.Metadata.{raw_sets, storage_sets, timecode_track, picture_track, material_sets, file_sets, sets}
use Rattle.mxf_metadata.specs.Nodes.{nodes}
use Rattle.mxf_metadata.specs.Sets.{preface, identification, content_storage, essence_container, material_package, file_package}
use Rattle.mxf_metadata.specs.Sets.{track, sequence, timecode, source_clip, descriptor}
use Rattle.mxf_metadata.specs.Tags.{AreIdentified, is_among}
use Rattle.mxf_metadata.specs.declared.labels.TheConstants.{NO_SOURCE}
use Rattle.mxf_metadata.specs.declared.labels.TheConstants.{PREFACE_SET, IDENTIFICATION_SET, STORAGE_SET, CONTAINER_SET, MATERIAL_SET, FILE_SET}
use Rattle.mxf_metadata.specs.declared.labels.TheConstants.{TRACK_SET, SEQUENCE_SET, TIMECODE_SET, CLIP_SET, DESCRIPTOR_SET, PICTURE_KIND, TIMECODE_KIND}
use Rattle.mxf_metadata.specs.declared.tags.TheConstants.{CONTENT_STORAGE, IDENTIFICATIONS, PACKAGES, ESSENCE_CONTAINER_DATA, TRACKS, SEQUENCE, STRUCTURAL_COMPONENTS, DESCRIPTOR}
use Rattle.mxf_metadata.proofs.ListedLemmas.{two}
use Rattle.mxf_metadata.proofs.LinkLemmas.{renamed, IsOneToOne, owned_same, are_resolved_same, sequences_same, shows_same, prefix_same}

-- a set by its number: its kind, and what it names
abbrev plain : ℕ → ℕ → List (Reference ℕ) → Node ℕ
plain number kind names = record {
  kind = kind;
  own = number ∷ [];
  names = names;
  definitions = [];
  packages = [];
  sources = [];
  linked_packages = [];
  track_ids = [];
  source_tracks = [];
  linked_tracks = [];
  track_numbers = [];
}

abbrev names : ℕ → ℕ → Reference ℕ
names tag number = record { tag = tag; id = number }

abbrev package_node : ℕ → ℕ → List ℕ → List (Reference ℕ) → Node ℕ
package_node number kind id refs = record (plain number kind refs) { packages = id ∷ [] }

abbrev track_node : ℕ → ℕ → ℕ → Node ℕ
track_node number id elements = record (plain number TRACK_SET (names SEQUENCE (number + 1) ∷ [])) { track_ids = id ∷ []; track_numbers = elements ∷ [] }

abbrev sequence_node : ℕ → List ℕ → Node ℕ
sequence_node number kind = record (plain number SEQUENCE_SET (names STRUCTURAL_COMPONENTS (number + 1) ∷ [])) { definitions = kind ∷ [] }

abbrev timecode_node : ℕ → Node ℕ
timecode_node number = record (plain number TIMECODE_SET []) { definitions = TIMECODE_KIND ∷ [] }

abbrev clip_node : ℕ → List ℕ → ℕ → Node ℕ
clip_node number source id = record (plain number CLIP_SET []) { definitions = PICTURE_KIND ∷ []; sources = source ∷ []; source_tracks = id ∷ [] }

-- numbers that all differ, by a test that computes
abbrev differ : (ℕ → ℕ → Bool) → List ℕ → Bool
differ same [] = true
differ same (number ∷ numbers) = list_all (λ other. not (same number other)) numbers && differ same numbers

denied : (b : Bool) → not b ≡ true → b ≡ false
denied true h = cc
denied false h = refl

none_same : (same : ℕ → ℕ → Bool) (number : ℕ) (numbers : List ℕ) → list_all (λ other. not (same number other)) numbers ≡ true → AllByRecursion (λ other. same number other ≡ false) numbers
none_same same number [] h = tt
none_same same number (other ∷ numbers) h =
    let both = two (not (same number other)) (list_all (λ k. not (same number k)) numbers) h in
    (denied (same number other) both.0, none_same same number numbers both.1)

all_differ : (same : ℕ → ℕ → Bool) (numbers : List ℕ) → differ same numbers ≡ true → IsDistinct same numbers
unfolding IsDistinct
all_differ same [] h = tt
all_differ same (number ∷ numbers) h =
    let both = two (list_all (λ other. not (same number other)) numbers) (differ same numbers) h in
    (none_same same number numbers both.0, all_differ same numbers both.1)

-- the sets by their numbers
abbrev numbered : Ids → List (Node ℕ)
numbered ids =
    plain 1 PREFACE_SET (names CONTENT_STORAGE 3 ∷ names IDENTIFICATIONS 2 ∷ [])
    ∷ plain 2 IDENTIFICATION_SET []
    ∷ plain 3 STORAGE_SET (names PACKAGES 5 ∷ names PACKAGES 12 ∷ names ESSENCE_CONTAINER_DATA 4 ∷ [])
    ∷ record (plain 4 CONTAINER_SET []) { linked_packages = umid ids.file ∷ [] }
    ∷ package_node 5 MATERIAL_SET (umid ids.take) (names TRACKS 6 ∷ names TRACKS 9 ∷ [])
    ∷ track_node 6 1 0 ∷ sequence_node 7 TIMECODE_KIND ∷ timecode_node 8
    ∷ track_node 9 2 0 ∷ sequence_node 10 PICTURE_KIND ∷ clip_node 11 (umid ids.file) 2
    ∷ package_node 12 FILE_SET (umid ids.file) (names TRACKS 13 ∷ names TRACKS 16 ∷ names DESCRIPTOR 19 ∷ [])
    ∷ track_node 13 1 0 ∷ sequence_node 14 TIMECODE_KIND ∷ timecode_node 15
    ∷ track_node 16 2 PICTURE_TRACK_NUMBER ∷ sequence_node 17 PICTURE_KIND ∷ clip_node 18 NO_SOURCE 0
    ∷ record (plain 19 DESCRIPTOR_SET []) { linked_tracks = 2 ∷ [] } ∷ []

-- these are the sets
are_numbered : (cfg : Fields) (ids : Ids) (frames : Option ℕ) → nodes cfg ids frames ≡ map (renamed (set_id ids)) (numbered ids)
unfolding storage_sets timecode_track picture_track material_sets file_sets sets preface identification content_storage essence_container material_package file_package track sequence timecode source_clip descriptor is_among
are_numbered cfg ids frames = refl

-- numbers are the same where their bytes are
abbrev same_number : ℕ → ℕ → Bool
same_number a b = bytes_eq (big_bytes 8 a) (big_bytes 8 b)

one_to_one : (ids : Ids) → IsOneToOne (set_id ids) same_number bytes_eq
one_to_one ids = record { same = λ a b. prefix_same ids.sets (big_bytes 8 a) (big_bytes 8 b) }

-- each set begins with its instance identifier
pub sets_identified : (cfg : Fields) (ids : Ids) (frames : Option ℕ) → AreIdentified (raw_sets cfg ids frames)
unfolding storage_sets timecode_track picture_track material_sets file_sets sets preface identification content_storage essence_container material_package file_package track sequence timecode source_clip descriptor is_among
sets_identified cfg ids frames =
    (refl, (refl, (refl, (refl, (refl, (refl, (refl, (refl, (refl, (refl, (refl, (refl, (refl, (refl, (refl, (refl, (refl, (refl, (refl, tt)))))))))))))))))))

-- by numbers
distinct_own : (ids : Ids) → IsDistinct same_number (own_ids (numbered ids))
distinct_own ids = all_differ same_number (own_ids (numbered ids)) refl

distinct_named : (ids : Ids) → IsDistinct same_number (named_ids (numbered ids))
distinct_named ids = all_differ same_number (named_ids (numbered ids)) refl

owned_numbers : (ids : Ids) → AreOwned same_number (numbered ids)
owned_numbers ids = record {
  preface = refl;
  distinct = distinct_own ids;
  once = distinct_named ids;
  all = (refl, (refl, (refl, (refl, (refl, (refl, (refl, (refl, (refl, (refl, (refl, (refl, (refl, (refl, (refl, (refl, (refl, (refl, tt))))))))))))))))));
}

resolved_numbers : (ids : Ids) → AreResolved same_number (numbered ids)
unfolding is_among
resolved_numbers ids =
    ((refl, (refl, tt)), (tt, ((refl, (refl, (refl, tt))), (tt, ((refl, (refl, tt)), ((refl, tt), ((refl, tt), (tt, ((refl, tt), ((refl, tt), (tt, ((refl, (refl, (refl, tt))), ((refl, tt), ((refl, tt), (tt, ((refl, tt), ((refl, tt), (tt, (tt, tt)))))))))))))))))))

sequence_numbers : (ids : Ids) → AreSequences same_number (numbered ids)
unfolding is_among
sequence_numbers ids =
    (record { alike = refl; clip = λ p. cc }, (record { alike = refl; clip = λ p. refl }, (record { alike = refl; clip = λ p. cc }, (record { alike = refl; clip = λ p. refl }, tt))))

shown_numbers : (ids : Ids) → ShowsFile same_number (numbered ids)
shown_numbers ids = record {
  material = refl;
  umid = umid ids.file;
  file = refl;
  stored = refl;
  track = 2;
  pictures = refl;
  source = refl;
  source_track = refl;
  described = refl;
  elements = refl;
}

-- by identifiers
pub sets_owned : (cfg : Fields) (ids : Ids) (frames : Option ℕ) → AreOwned bytes_eq (nodes cfg ids frames)
sets_owned cfg ids frames =
    subst (λ (list : List (Node (List ℕ))). AreOwned bytes_eq list) (sym (are_numbered cfg ids frames))
    (owned_same (set_id ids) same_number bytes_eq (numbered ids) (one_to_one ids) (owned_numbers ids))

pub sets_resolved : (cfg : Fields) (ids : Ids) (frames : Option ℕ) → AreResolved bytes_eq (nodes cfg ids frames)
sets_resolved cfg ids frames =
    subst (λ (nodes : List (Node (List ℕ))). AreResolved bytes_eq nodes) (sym (are_numbered cfg ids frames))
    (are_resolved_same (set_id ids) same_number bytes_eq (numbered ids) (one_to_one ids) (resolved_numbers ids))

pub sets_sequences : (cfg : Fields) (ids : Ids) (frames : Option ℕ) → AreSequences bytes_eq (nodes cfg ids frames)
sets_sequences cfg ids frames =
    subst (λ (nodes : List (Node (List ℕ))). AreSequences bytes_eq nodes) (sym (are_numbered cfg ids frames))
    (sequences_same (set_id ids) same_number bytes_eq (numbered ids) (one_to_one ids) (sequence_numbers ids))

pub sets_shown : (cfg : Fields) (ids : Ids) (frames : Option ℕ) → ShowsFile bytes_eq (nodes cfg ids frames)
sets_shown cfg ids frames =
    subst (λ (nodes : List (Node (List ℕ))). ShowsFile bytes_eq nodes) (sym (are_numbered cfg ids frames))
    (shows_same (set_id ids) same_number bytes_eq (numbered ids) (one_to_one ids) (shown_numbers ids))

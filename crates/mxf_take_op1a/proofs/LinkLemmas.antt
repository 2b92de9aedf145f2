-- The picture tracks of a take's file show one clip each, the material package's the file package.
use Rattle.std.proofs.Common.{◌≡◌, ℕ, ◌+◌, ◌==◌, ◌&&◌, Bool, true, cond, List, [], ◌∷◌, ◌++◌, length, map, Option, Some, refl, ap, ap₂}
use Rattle.std.proofs.Common.{◌∙◌}
use Rattle.std.specs.Prelude.{filter}
use Rattle.std.specs.List.{flat_map}
use Rattle.rec_bytes.specs.Configuration.{Fields}
use Rattle.local_sets.specs.Sets.{raw}
use Rattle.local_sets.specs.Values.{value_bytes}
use Rattle.local_sets.specs.laws.Lengths.{IsSized}
use Rattle.local_sets.specs.declared.value.Value.{Value}
use Rattle.local_sets.specs.declared.value.Value.TheVariants.{Label, BatchOfOne, BatchOfTwo}
use Rattle.mxf_names.specs.Identifiers.{AreIds, set_id, umid}
use Rattle.mxf_names.specs.laws.Lengths.{length-set_id}
use Rattle.mxf_names.specs.declared.ids.Ids.{Ids}
use Rattle.mxf_names.specs.declared.keys.TheConstants.{PICTURE_TRACK_NUMBER}
use Rattle.mxf_metadata.specs.Metadata.{Set, metadata_set, storage_sets, timecode_track, picture_track, material_sets, file_sets, sets}
use Rattle.mxf_metadata.specs.Sets.{material_package, file_package, track, sequence, source_clip}
use Rattle.mxf_metadata.specs.declared.labels.TheConstants.{MATERIAL_SET, FILE_SET, TRACK_SET, SEQUENCE_SET, CLIP_SET, PICTURE_KIND, TIMECODE_KIND}
use Rattle.mxf_metadata.specs.declared.labels.TheConstants.{TIMECODE_TRACK_ID, PICTURE_TRACK_ID, NO_SOURCE}
use Rattle.mxf_metadata.specs.declared.tags.TheConstants.{TRACKS, SEQUENCE, STRUCTURAL_COMPONENTS, DATA_DEFINITION}
use Rattle.mxf_metadata.specs.declared.tags.Size.{Size}
use Rattle.mxf_metadata_reader.specs.References.{first_value, ids_of_size}
use Rattle.mxf_metadata_reader.specs.Sizes.{has_size_if, is_sized, size_of, size_among}
use Rattle.mxf_metadata.specs.Nodes.{is_reference}
use Rattle.mxf_op1a.specs.Metadata.{SetAt, set_with, value_of, ids_at, ids_in_value, of_kind, named, picture_sequences, clips, has_one_clip, places_but}
use Rattle.mxf_op1a.specs.Metadata.{all_of_kind}
use Rattle.mxf_op1a.specs.Metadata.{is_of_file, is_value, sequences_of, material_clips}
use Rattle.mxf_take_op1a.proofs.ItemClauses.{bytes_self}
use Rattle.mxf_take_op1a.proofs.MetadataLemmas.{has_kind, ids_are, numbered, with_number, found_by}
use Rattle.mxf_take_op1a.proofs.MetadataRows.{kind_size, ids_named}
use Rattle.mxf_take_op1a.proofs.SetLemmas.{own_sets, placed_set}

-- a set of ours stands at some place under an identifier
pub record Stands (s : List SetAt) (id : List ℕ) (set : Set) : Type 0 where
  pub at : ℕ
  pub is : set_with s id ≡ Some (placed_set at set)

-- the identifiers in a value of a set of ours
ids_value : (tag at : ℕ) (set : Set) (v : Value) → first_value tag (map raw set.items) ≡ Some (value_bytes v) → is_reference tag ≡ true
    → size_of tag ≡ Some (kind_size v) → IsSized v → ids_at tag (placed_set at set) ≡ ids_named v
ids_value tag at set v e names size h =
    let sized : is_sized tag (value_bytes v) ≡ true = ap (λ (o : Option Size). has_size_if o (value_bytes v)) size ∙ has_kind v h in
    ap (ids_in_value tag) e
    ∙ ap₂ (λ (a b : Bool). cond (a && b) (ids_of_size (size_of tag) (value_bytes v)) []) names sized
    ∙ ap (λ (o : Option Size). ids_of_size o (value_bytes v)) size ∙ ids_are v h

-- the sets that such a value names
named_one : (s : List SetAt) (tag kind at : ℕ) (set : Set) (a : List ℕ) (p : Set) → ids_at tag (placed_set at set) ≡ a ∷ [] → (found : Stands s a p)
    → (p.kind == kind) ≡ true → named s tag kind (placed_set at set) ≡ placed_set found.at p ∷ []
named_one s tag kind at set a p ids found is =
    ap (flat_map (λ id. of_kind kind (set_with s id))) ids
    ∙ ap (λ (o : Option SetAt). of_kind kind o ++ []) found.is
    ∙ ap (λ (b : Bool). cond b (placed_set found.at p ∷ []) [] ++ []) is

named_two : (s : List SetAt) (tag kind at : ℕ) (set : Set) (a b : List ℕ) (p q : Set) → ids_at tag (placed_set at set) ≡ a ∷ b ∷ []
    → (first : Stands s a p) → (second : Stands s b q) → (p.kind == kind) ≡ true → (q.kind == kind) ≡ true
    → named s tag kind (placed_set at set) ≡ placed_set first.at p ∷ placed_set second.at q ∷ []
named_two s tag kind at set a b p q ids first second is_p is_q =
    ap (flat_map (λ id. of_kind kind (set_with s id))) ids
    ∙ ap₂ (λ (o u : Option SetAt). of_kind kind o ++ (of_kind kind u ++ [])) first.is second.is
    ∙ ap₂ (λ (x y : Bool). cond x (placed_set first.at p ∷ []) [] ++ (cond y (placed_set second.at q ∷ []) [] ++ [])) is_p is_q

-- the sets of a track of timecode and of one of pictures
pub record HasTracks (s : List SetAt) (cfg : Fields) (ids : Ids) (frames : Option ℕ) (i j number : ℕ) (source : List ℕ) (track_id : ℕ) : Type 0 where
  pub time_track : Stands s (set_id ids i) (metadata_set TRACK_SET (track cfg ids i TIMECODE_TRACK_ID 0))
  pub time_sequence : Stands s (set_id ids (i + 1)) (metadata_set SEQUENCE_SET (sequence ids (i + 1) TIMECODE_KIND frames))
  pub track_is : Stands s (set_id ids j) (metadata_set TRACK_SET (track cfg ids j PICTURE_TRACK_ID number))
  pub sequence_is : Stands s (set_id ids (j + 1)) (metadata_set SEQUENCE_SET (sequence ids (j + 1) PICTURE_KIND frames))
  pub clip_is : Stands s (set_id ids (j + 1 + 1)) (metadata_set CLIP_SET (source_clip ids (j + 1 + 1) frames source track_id))

-- the picture sequence of such tracks
abbrev pub sequence_at : ℕ → Ids → ℕ → Option ℕ → SetAt
sequence_at at ids j frames = placed_set at (metadata_set SEQUENCE_SET (sequence ids (j + 1) PICTURE_KIND frames))

track_sequence : (s : List SetAt) (cfg : Fields) (ids : Ids) (at n track_id number : ℕ) (p : Set) → AreIds ids → (found : Stands s (set_id ids (n + 1)) p)
    → (p.kind == SEQUENCE_SET) ≡ true
    → named s SEQUENCE SEQUENCE_SET (placed_set at (metadata_set TRACK_SET (track cfg ids n track_id number))) ≡ placed_set found.at p ∷ []
unfolding track first_value size_among
track_sequence s cfg ids at n track_id number p h found is =
    let set : Set = metadata_set TRACK_SET (track cfg ids n track_id number) in
    named_one s SEQUENCE SEQUENCE_SET at set (set_id ids (n + 1)) p
    (ids_value SEQUENCE at set (Label (set_id ids (n + 1))) refl refl refl (length-set_id ids (n + 1) h)) found is

package_sequences : (s : List SetAt) (cfg : Fields) (ids : Ids) (frames : Option ℕ) (i j number : ℕ) (source : List ℕ) (track_id at : ℕ) (set : Set)
    → AreIds ids → (t : HasTracks s cfg ids frames i j number source track_id)
    → ids_at TRACKS (placed_set at set) ≡ set_id ids i ∷ set_id ids j ∷ []
    → picture_sequences s (placed_set at set) ≡ sequence_at t.sequence_is.at ids j frames ∷ []
unfolding sequence first_value
package_sequences s cfg ids frames i j number source track_id at set h t ids_are =
    let tracks = named_two s TRACKS TRACK_SET at set (set_id ids i) (set_id ids j) (metadata_set TRACK_SET (track cfg ids i TIMECODE_TRACK_ID 0))
    (metadata_set TRACK_SET (track cfg ids j PICTURE_TRACK_ID number)) ids_are t.time_track t.track_is refl refl in
    let one = track_sequence s cfg ids t.time_track.at i TIMECODE_TRACK_ID 0
    (metadata_set SEQUENCE_SET (sequence ids (i + 1) TIMECODE_KIND frames)) h t.time_sequence refl in
    let two = track_sequence s cfg ids t.track_is.at j PICTURE_TRACK_ID number
    (metadata_set SEQUENCE_SET (sequence ids (j + 1) PICTURE_KIND frames)) h t.sequence_is refl in
    ap (λ (found : List SetAt). filter (λ sequence. is_value PICTURE_KIND (value_of DATA_DEFINITION sequence))
    (flat_map (named s SEQUENCE SEQUENCE_SET) found)) tracks
    ∙ ap₂ (λ (xs ys : List SetAt). filter (λ sequence. is_value PICTURE_KIND (value_of DATA_DEFINITION sequence)) (xs ++ (ys ++ []))) one two

-- it has one clip
component_is : (ids : Ids) (frames : Option ℕ) (j at : ℕ) → AreIds ids
    → ids_at STRUCTURAL_COMPONENTS (sequence_at at ids j frames) ≡ set_id ids (j + 1 + 1) ∷ []
unfolding sequence first_value size_among
component_is ids frames j at h =
    let set : Set = metadata_set SEQUENCE_SET (sequence ids (j + 1) PICTURE_KIND frames) in
    ids_value STRUCTURAL_COMPONENTS at set (BatchOfOne (set_id ids (j + 1 + 1))) refl refl refl (length-set_id ids (j + 1 + 1) h)

clip_of : (s : List SetAt) (cfg : Fields) (ids : Ids) (frames : Option ℕ) (i j number : ℕ) (source : List ℕ) (track_id at : ℕ) → AreIds ids
    → (t : HasTracks s cfg ids frames i j number source track_id)
    → clips s (sequence_at at ids j frames) ≡ placed_set t.clip_is.at (metadata_set CLIP_SET (source_clip ids (j + 1 + 1) frames source track_id)) ∷ []
clip_of s cfg ids frames i j number source track_id at h t =
    named_one s STRUCTURAL_COMPONENTS CLIP_SET at (metadata_set SEQUENCE_SET (sequence ids (j + 1) PICTURE_KIND frames)) (set_id ids (j + 1 + 1))
    (metadata_set CLIP_SET (source_clip ids (j + 1 + 1) frames source track_id)) (component_is ids frames j at h) t.clip_is refl

one_clip : (s : List SetAt) (cfg : Fields) (ids : Ids) (frames : Option ℕ) (i j number : ℕ) (source : List ℕ) (track_id at : ℕ) → AreIds ids
    → HasTracks s cfg ids frames i j number source track_id → has_one_clip s (sequence_at at ids j frames) ≡ true
one_clip s cfg ids frames i j number source track_id at h t =
    ap (λ (found : List SetAt). length found == 1) (clip_of s cfg ids frames i j number source track_id at h t)

-- what the sets of a take's file say of packages
pub record HasPackages (s : List SetAt) (cfg : Fields) (ids : Ids) (frames : Option ℕ) : Type 0 where
  pub material_at : ℕ
  pub material : all_of_kind MATERIAL_SET s ≡ placed_set material_at (metadata_set MATERIAL_SET (material_package ids)) ∷ []
  pub file_at : ℕ
  pub file : all_of_kind FILE_SET s ≡ placed_set file_at (metadata_set FILE_SET (file_package ids)) ∷ []
  pub material_tracks : HasTracks s cfg ids frames 6 9 0 (umid ids.file) PICTURE_TRACK_ID
  pub file_tracks : HasTracks s cfg ids frames 13 16 PICTURE_TRACK_NUMBER NO_SOURCE 0

material_sequences : (s : List SetAt) (cfg : Fields) (ids : Ids) (frames : Option ℕ) → AreIds ids → (p : HasPackages s cfg ids frames)
    → sequences_of s MATERIAL_SET ≡ sequence_at p.material_tracks.sequence_is.at ids 9 frames ∷ []
unfolding material_package first_value size_among
material_sequences s cfg ids frames h p =
    let set : Set = metadata_set MATERIAL_SET (material_package ids) in
    let tracks = ids_value TRACKS p.material_at set (BatchOfTwo (set_id ids 6) (set_id ids 9)) refl refl refl (length-set_id ids 6 h, length-set_id ids 9 h) in
    ap (flat_map (picture_sequences s)) p.material
    ∙ ap (λ (found : List SetAt). found ++ [])
    (package_sequences s cfg ids frames 6 9 0 (umid ids.file) PICTURE_TRACK_ID p.material_at set h p.material_tracks tracks)

file_sequences : (s : List SetAt) (cfg : Fields) (ids : Ids) (frames : Option ℕ) → AreIds ids → (p : HasPackages s cfg ids frames)
    → sequences_of s FILE_SET ≡ sequence_at p.file_tracks.sequence_is.at ids 16 frames ∷ []
unfolding file_package first_value size_among
file_sequences s cfg ids frames h p =
    let set : Set = metadata_set FILE_SET (file_package ids) in
    let tracks = ids_value TRACKS p.file_at set (BatchOfTwo (set_id ids 13) (set_id ids 16)) refl refl refl (length-set_id ids 13 h, length-set_id ids 16 h) in
    ap (flat_map (picture_sequences s)) p.file
    ∙ ap (λ (found : List SetAt). found ++ [])
    (package_sequences s cfg ids frames 13 16 PICTURE_TRACK_NUMBER NO_SOURCE 0 p.file_at set h p.file_tracks tracks)

-- each picture sequence has its clip
one_kept : (test : SetAt → Bool) (s : SetAt) (found : List SetAt) → found ≡ s ∷ [] → test s ≡ true → places_but test found ≡ []
one_kept test s found e h = ap (places_but test) e ∙ rw h refl

pub material_has_clip : (s : List SetAt) (cfg : Fields) (ids : Ids) (frames : Option ℕ) → AreIds ids → HasPackages s cfg ids frames
    → places_but (has_one_clip s) (sequences_of s MATERIAL_SET) ≡ []
material_has_clip s cfg ids frames h p =
    let at : ℕ = p.material_tracks.sequence_is.at in
    one_kept (has_one_clip s) (sequence_at at ids 9 frames) (sequences_of s MATERIAL_SET) (material_sequences s cfg ids frames h p)
    (one_clip s cfg ids frames 6 9 0 (umid ids.file) PICTURE_TRACK_ID at h p.material_tracks)

pub file_has_clip : (s : List SetAt) (cfg : Fields) (ids : Ids) (frames : Option ℕ) → AreIds ids → HasPackages s cfg ids frames
    → places_but (has_one_clip s) (sequences_of s FILE_SET) ≡ []
file_has_clip s cfg ids frames h p =
    let at : ℕ = p.file_tracks.sequence_is.at in
    one_kept (has_one_clip s) (sequence_at at ids 16 frames) (sequences_of s FILE_SET) (file_sequences s cfg ids frames h p)
    (one_clip s cfg ids frames 13 16 PICTURE_TRACK_NUMBER NO_SOURCE 0 at h p.file_tracks)

-- the material package's clip shows the file package
shows_file : (ids : Ids) (frames : Option ℕ) (file_at clip_at : ℕ)
    → is_of_file (placed_set file_at (metadata_set FILE_SET (file_package ids)) ∷ [])
    (placed_set clip_at (metadata_set CLIP_SET (source_clip ids 11 frames (umid ids.file) PICTURE_TRACK_ID))) ≡ true
unfolding file_package source_clip first_value
shows_file ids frames file_at clip_at = bytes_self (umid ids.file)

pub clips_show_file : (s : List SetAt) (cfg : Fields) (ids : Ids) (frames : Option ℕ) → AreIds ids → HasPackages s cfg ids frames
    → places_but (is_of_file (all_of_kind FILE_SET s)) (material_clips s) ≡ []
clips_show_file s cfg ids frames h p =
    let at : ℕ = p.material_tracks.sequence_is.at in
    let clip : SetAt = placed_set p.material_tracks.clip_is.at (metadata_set CLIP_SET (source_clip ids 11 frames (umid ids.file) PICTURE_TRACK_ID)) in
    let kept : filter (has_one_clip s) (sequences_of s MATERIAL_SET) ≡ sequence_at at ids 9 frames ∷ [] =
    ap (filter (has_one_clip s)) (material_sequences s cfg ids frames h p)
    ∙ ap (λ (b : Bool). cond b (sequence_at at ids 9 frames ∷ []) [])
    (one_clip s cfg ids frames 6 9 0 (umid ids.file) PICTURE_TRACK_ID at h p.material_tracks) in
    let clip_is : material_clips s ≡ clip ∷ [] =
    ap (flat_map (clips s)) kept
    ∙ ap (λ (found : List SetAt). found ++ []) (clip_of s cfg ids frames 6 9 0 (umid ids.file) PICTURE_TRACK_ID at h p.material_tracks) in
    one_kept (is_of_file (all_of_kind FILE_SET s)) clip (material_clips s) clip_is
    (ap (λ (files : List SetAt). is_of_file files clip) p.file ∙ shows_file ids frames p.file_at p.material_tracks.clip_is.at)

-- the 19 sets of a take's file are such
stands : (cfg : Fields) (ids : Ids) (frames : Option ℕ) (at k set_at : ℕ) (set : Set) → AreIds ids
    → with_number 1 k at (sets cfg ids frames) ≡ Some (placed_set set_at set) → Stands (own_sets at (sets cfg ids frames)) (set_id ids k) set
stands cfg ids frames at k set_at set h e = record { at = set_at; is = found_by ids 1 k at (sets cfg ids frames) h (numbered cfg ids frames) ∙ e }

pub has_packages : (cfg : Fields) (ids : Ids) (frames : Option ℕ) (at : ℕ) → AreIds ids → HasPackages (own_sets at (sets cfg ids frames)) cfg ids frames
unfolding sets material_sets file_sets storage_sets timecode_track picture_track with_number own_sets
has_packages cfg ids frames at h = record {
  material_at = _;
  material = refl;
  file_at = _;
  file = refl;
  material_tracks = record {
    time_track = stands cfg ids frames at 6 _ _ h refl;
    time_sequence = stands cfg ids frames at 7 _ _ h refl;
    track_is = stands cfg ids frames at 9 _ _ h refl;
    sequence_is = stands cfg ids frames at 10 _ _ h refl;
    clip_is = stands cfg ids frames at 11 _ _ h refl;
  };
  file_tracks = record {
    time_track = stands cfg ids frames at 13 _ _ h refl;
    time_sequence = stands cfg ids frames at 14 _ _ h refl;
    track_is = stands cfg ids frames at 16 _ _ h refl;
    sequence_is = stands cfg ids frames at 17 _ _ h refl;
    clip_is = stands cfg ids frames at 18 _ _ h refl;
  };
}

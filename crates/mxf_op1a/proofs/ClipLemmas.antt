-- Sequences, their clips, and the package that they show.
use Rattle.std.proofs.Common.{◌≡◌, inl, inr, ℕ, ◌==◌, Bool, true, false, List, [], ◌∷◌, ◌++◌, length, Option, Some, None, refl, sym, ap, ◌∙◌, arith}
use Rattle.std.proofs.lemmas.Bool.{eq-eqb, eqb-true}
use Rattle.std.specs.List.{flat_map, AllByRecursion}
use Rattle.mxf_metadata.specs.declared.labels.TheConstants.{FILE_SET, TRACK_SET, SEQUENCE_SET, PICTURE_KIND}
use Rattle.mxf_metadata.specs.declared.tags.TheConstants.{TRACKS, SEQUENCE, DATA_DEFINITION, PACKAGE_ID, SOURCE_PACKAGE_ID}
use Rattle.mxf_op1a.specs.Metadata.{SetAt, all_of_kind, are_same, clips, has_one_clip, is_of_file, is_value, named, picture_sequences}
use Rattle.mxf_op1a.specs.Metadata.{sequences_of, value_of}
use Rattle.mxf_op1a.specs.KeptMetadata.{EachNamed, EachPictureSequence, HasOneClip, IfPicture, IsOfFile}
use Rattle.mxf_op1a.proofs.Steps.{each_filter, each_flat, each_so, filter_each, flat_each}
use Rattle.mxf_op1a.proofs.SoundLemmas.{is_value_back, value_is}

-- the picture sequences of packages, one after the other or by their tracks
abbrev pub shows_pictures : SetAt → Bool
shows_pictures sequence = is_value PICTURE_KIND (value_of DATA_DEFINITION sequence)

abbrev pub IfShown : (SetAt → Type 0) → SetAt → Type 0
IfShown Holds sequence = shows_pictures sequence ≡ true → Holds sequence

if_picture : (Holds : SetAt → Type 0) (sequence : SetAt) → IfShown Holds sequence → IfPicture Holds sequence
if_picture Holds sequence h is = h (is_value_back PICTURE_KIND (value_of DATA_DEFINITION sequence) is)

if_shown : (Holds : SetAt → Type 0) (sequence : SetAt) → IfPicture Holds sequence → IfShown Holds sequence
if_shown Holds sequence h is = h (value_is PICTURE_KIND (value_of DATA_DEFINITION sequence) is)

by_tracks : (sets : List SetAt) (Holds : SetAt → Type 0) (owner : SetAt) → AllByRecursion Holds (picture_sequences sets owner)
    → EachNamed sets TRACKS TRACK_SET (EachNamed sets SEQUENCE SEQUENCE_SET (IfPicture Holds)) owner
by_tracks sets Holds owner h =
    let tracks : List SetAt = named sets TRACKS TRACK_SET owner in
    let all = filter_each Holds shows_pictures (flat_map (named sets SEQUENCE SEQUENCE_SET) tracks) h in
    each_so (EachNamed sets SEQUENCE SEQUENCE_SET (IfShown Holds)) (EachNamed sets SEQUENCE SEQUENCE_SET (IfPicture Holds))
    (λ track. each_so (IfShown Holds) (IfPicture Holds) (if_picture Holds) (named sets SEQUENCE SEQUENCE_SET track)) tracks
    (flat_each (IfShown Holds) (named sets SEQUENCE SEQUENCE_SET) tracks all)

by_tracks_back : (sets : List SetAt) (Holds : SetAt → Type 0) (owner : SetAt)
    → EachNamed sets TRACKS TRACK_SET (EachNamed sets SEQUENCE SEQUENCE_SET (IfPicture Holds)) owner
    → AllByRecursion Holds (picture_sequences sets owner)
by_tracks_back sets Holds owner h =
    let tracks : List SetAt = named sets TRACKS TRACK_SET owner in
    each_filter Holds shows_pictures (flat_map (named sets SEQUENCE SEQUENCE_SET) tracks)
    (each_flat (IfShown Holds) (named sets SEQUENCE SEQUENCE_SET) tracks
    (each_so (EachNamed sets SEQUENCE SEQUENCE_SET (IfPicture Holds)) (EachNamed sets SEQUENCE SEQUENCE_SET (IfShown Holds))
    (λ track. each_so (IfPicture Holds) (IfShown Holds) (if_shown Holds) (named sets SEQUENCE SEQUENCE_SET track)) tracks h))

pub by_packages : (sets : List SetAt) (kind : ℕ) (Holds : SetAt → Type 0) → AllByRecursion Holds (sequences_of sets kind) → EachPictureSequence sets kind Holds
by_packages sets kind Holds h =
    each_so (λ owner. AllByRecursion Holds (picture_sequences sets owner))
    (EachNamed sets TRACKS TRACK_SET (EachNamed sets SEQUENCE SEQUENCE_SET (IfPicture Holds)))
    (by_tracks sets Holds) (all_of_kind kind sets) (flat_each Holds (picture_sequences sets) (all_of_kind kind sets) h)

pub by_packages_back : (sets : List SetAt) (kind : ℕ) (Holds : SetAt → Type 0) → EachPictureSequence sets kind Holds
    → AllByRecursion Holds (sequences_of sets kind)
by_packages_back sets kind Holds h =
    each_flat Holds (picture_sequences sets) (all_of_kind kind sets)
    (each_so (EachNamed sets TRACKS TRACK_SET (EachNamed sets SEQUENCE SEQUENCE_SET (IfPicture Holds)))
    (λ owner. AllByRecursion Holds (picture_sequences sets owner))
    (by_tracks_back sets Holds) (all_of_kind kind sets) h)

-- one source clip
only_one : (found : List SetAt) → length found ≡ 1 → (s : SetAt) × (found ≡ s ∷ [])
only_one [] e = absurd (omega arith)
only_one (s ∷ []) e = (s, refl)
only_one (s ∷ other ∷ found) e = absurd (omega arith)

pub one_clip : (sets : List SetAt) (sequence : SetAt) → has_one_clip sets sequence ≡ true → HasOneClip sets sequence
one_clip sets sequence e =
    let one = only_one (clips sets sequence) (eqb-true (length (clips sets sequence)) 1 e) in record { clip = one.0; one = one.1 }

pub one_clip_back : (sets : List SetAt) (sequence : SetAt) → HasOneClip sets sequence → has_one_clip sets sequence ≡ true
one_clip_back sets sequence k =
    eq-eqb (length (clips sets sequence)) 1 (ap (λ (found : List SetAt). length found) k.one)

-- a clip of the one file package
same_are : (own source : Option (List ℕ)) → are_same own source ≡ true → (id : List ℕ) × (own ≡ Some id) × (source ≡ Some id)
same_are None source e = absurd (cc)
same_are (Some id) source e = (id, refl, value_is id source e)

of_one : (sets : List SetAt) (clip : SetAt) (files : List SetAt) → all_of_kind FILE_SET sets ≡ files → is_of_file files clip ≡ true → IsOfFile sets clip
of_one sets clip [] is e = absurd (cc)
of_one sets clip (file ∷ other ∷ files) is e = absurd (cc)
of_one sets clip (file ∷ []) is e =
    let same = same_are (value_of PACKAGE_ID file) (value_of SOURCE_PACKAGE_ID clip) e in
    record { file = file; one = is; id = same.0; own = same.1; source = same.2 }

pub of_file : (sets : List SetAt) (clip : SetAt) → is_of_file (all_of_kind FILE_SET sets) clip ≡ true → IsOfFile sets clip
of_file sets clip e = of_one sets clip (all_of_kind FILE_SET sets) refl e

pub of_file_back : (sets : List SetAt) (clip : SetAt) → IsOfFile sets clip → is_of_file (all_of_kind FILE_SET sets) clip ≡ true
of_file_back sets clip k =
    ap (λ (files : List SetAt). is_of_file files clip) k.one
    ∙ ap (λ (own : Option (List ℕ)). are_same own (value_of SOURCE_PACKAGE_ID clip)) k.own
    ∙ is_value_back k.id (value_of SOURCE_PACKAGE_ID clip) k.source

-- Where the clause on metadata is broken.
use Rattle.std.proofs.Common.{◌≡◌, ◌⊎◌, inl, inr, ℕ, ◌≤◌, false, List, [], ◌∷◌, ◌++◌, Option, Some, None, sym, ap, subst, ◌∙◌}
use Rattle.std.proofs.lemmas.List.Concat.{flat_map-append}
use Rattle.std.specs.List.{flat_map}
use Rattle.mxf_metadata.specs.declared.labels.TheConstants.{MATERIAL_SET, FILE_SET}
use Rattle.mxf_metadata_reader.specs.PrimerTags.{tags_of_primer}
use Rattle.mxf_op1a.specs.Contents.{Placed, is_primer}
use Rattle.mxf_op1a.specs.Partitions.{File, Part, from_first}
use Rattle.mxf_op1a.specs.Metadata.{SetAt, all_of_kind, has_one_clip, is_of_file, is_sound, least, material_clips, places_but, sequences_of, sets_behind}
use Rattle.mxf_op1a.specs.Metadata.{wrong_behind, wrong_from, wrong_metadata, wrong_sets}
use Rattle.mxf_op1a.specs.Clauses.{broken_7}
use Rattle.mxf_op1a.specs.KeptMetadata.{HasOneClip, IsOfFile, IsSoundSet}
use Rattle.mxf_op1a.specs.BrokenMetadata.{BreaksMetadata, IsWrongAt, IsWrongSet}
use Rattle.mxf_op1a.proofs.Among.{Among, IsBut, IsLeast, among, among_both, among_flat, among_left, among_places, among_right, contained, in_flat}
use Rattle.mxf_op1a.proofs.Among.{in_places, least_back, least_so}
use Rattle.mxf_op1a.proofs.ClipLemmas.{of_file, of_file_back, one_clip, one_clip_back}
use Rattle.mxf_op1a.proofs.FirstLemmas.{first_is, first_none, found}
use Rattle.mxf_op1a.proofs.MetadataLemmas.{told}
use Rattle.mxf_op1a.proofs.SoundLemmas.{sound_set, sound_set_back}
use Rattle.mxf_op1a.proofs.WrongEndLemmas.{is_false, not_kept}

-- a set that is wrong, at its place
abbrev pub WrongAt : List ℕ → List SetAt → ℕ → Type 0
WrongAt tags sets at = (s : SetAt) × IsWrongSet tags sets s × (at ≡ s.at)

-- the four kinds of places
abbrev pub unsound : List ℕ → List SetAt → List ℕ
unsound tags sets = places_but (is_sound tags sets) sets

abbrev pub clipless : List SetAt → ℕ → List ℕ
clipless sets kind = places_but (has_one_clip sets) (sequences_of sets kind)

abbrev pub strange : List SetAt → List ℕ
strange sets = places_but (is_of_file (all_of_kind FILE_SET sets)) (material_clips sets)

from_unsound : (tags : List ℕ) (sets : List SetAt) (at : ℕ) → IsBut (is_sound tags sets) sets at → WrongAt tags sets at
from_unsound tags sets at b =
    (b.0, inl (contained b.0 sets b.1, not_kept (is_sound tags sets b.0) (IsSoundSet tags sets b.0) (sound_set_back tags sets b.0) b.2), b.3)

clip_missing : (sets : List SetAt) (s : SetAt) → has_one_clip sets s ≡ false → ¬ HasOneClip sets s
clip_missing sets s e = not_kept (has_one_clip sets s) (HasOneClip sets s) (one_clip_back sets s) e

from_material : (tags : List ℕ) (sets : List SetAt) (at : ℕ) → IsBut (has_one_clip sets) (sequences_of sets MATERIAL_SET) at → WrongAt tags sets at
from_material tags sets at b =
    let all : List SetAt = sequences_of sets MATERIAL_SET ++ sequences_of sets FILE_SET in
    (b.0, inr (inl (contained b.0 all (among_left b.0 (sequences_of sets MATERIAL_SET) (sequences_of sets FILE_SET) b.1), clip_missing sets b.0 b.2)), b.3)

from_file : (tags : List ℕ) (sets : List SetAt) (at : ℕ) → IsBut (has_one_clip sets) (sequences_of sets FILE_SET) at → WrongAt tags sets at
from_file tags sets at b =
    let all : List SetAt = sequences_of sets MATERIAL_SET ++ sequences_of sets FILE_SET in
    (b.0, inr (inl (contained b.0 all (among_right b.0 (sequences_of sets MATERIAL_SET) (sequences_of sets FILE_SET) b.1), clip_missing sets b.0 b.2)), b.3)

from_strange : (tags : List ℕ) (sets : List SetAt) (at : ℕ) → IsBut (is_of_file (all_of_kind FILE_SET sets)) (material_clips sets) at → WrongAt tags sets at
from_strange tags sets at b = (
  b.0,
  inr (inr (
    contained b.0 (material_clips sets) b.1,
    not_kept (is_of_file (all_of_kind FILE_SET sets) b.0) (IsOfFile sets b.0) (of_file_back sets b.0) b.2,
  )),
  b.3,
)

wrong_set : (tags : List ℕ) (sets : List SetAt) (at : ℕ) → Among at (wrong_sets tags sets) → WrongAt tags sets at
wrong_set tags sets at a =
    let own : List ℕ = unsound tags sets in
    let material : List ℕ = clipless sets MATERIAL_SET in
    let file : List ℕ = clipless sets FILE_SET in
    elim (among_both at (own ++ material ++ file) (strange sets) a) [
      | inr d ↦ from_strange tags sets at (in_places (is_of_file (all_of_kind FILE_SET sets)) (material_clips sets) at d)
      | inl abc ↦ elim (among_both at (own ++ material) file abc) [
        | inr c ↦ from_file tags sets at (in_places (has_one_clip sets) (sequences_of sets FILE_SET) at c)
        | inl ab ↦ elim (among_both at own material ab) [
          | inr b ↦ from_material tags sets at (in_places (has_one_clip sets) (sequences_of sets MATERIAL_SET) at b)
          | inl alone ↦ from_unsound tags sets at (in_places (is_sound tags sets) sets at alone)
        ]
      ]
    ]

clip_false : (sets : List SetAt) (s : SetAt) → ¬ HasOneClip sets s → has_one_clip sets s ≡ false
clip_false sets s none = is_false (has_one_clip sets s) (HasOneClip sets s) (one_clip sets s) none

to_sequences : (tags : List ℕ) (sets : List SetAt) (s : SetAt) → Among s (sequences_of sets MATERIAL_SET) ⊎ Among s (sequences_of sets FILE_SET)
    → ¬ HasOneClip sets s
    → Among s.at (wrong_sets tags sets)
to_sequences tags sets s (inl a) none =
    let own : List ℕ = unsound tags sets in
    let material : List ℕ = clipless sets MATERIAL_SET in
    let file : List ℕ = clipless sets FILE_SET in
    among_left s.at (own ++ material ++ file) (strange sets) (among_left s.at (own ++ material) file (among_right s.at own material
    (among_places (has_one_clip sets) s (sequences_of sets MATERIAL_SET) a (clip_false sets s none))))
to_sequences tags sets s (inr a) none =
    let own : List ℕ = unsound tags sets in
    let material : List ℕ = clipless sets MATERIAL_SET in
    let file : List ℕ = clipless sets FILE_SET in
    among_left s.at (own ++ material ++ file) (strange sets) (among_right s.at (own ++ material) file
    (among_places (has_one_clip sets) s (sequences_of sets FILE_SET) a (clip_false sets s none)))

to_wrong : (tags : List ℕ) (sets : List SetAt) (s : SetAt) → IsWrongSet tags sets s → Among s.at (wrong_sets tags sets)
to_wrong tags sets s (inl w) =
    let own : List ℕ = unsound tags sets in
    let material : List ℕ = clipless sets MATERIAL_SET in
    let file : List ℕ = clipless sets FILE_SET in
    among_left s.at (own ++ material ++ file) (strange sets) (among_left s.at (own ++ material) file (among_left s.at own material
    (among_places (is_sound tags sets) s sets (among s sets w.0) (is_false (is_sound tags sets s) (IsSoundSet tags sets s) (sound_set tags sets s) w.1))))
to_wrong tags sets s (inr (inl w)) =
    to_sequences tags sets s
    (among_both s (sequences_of sets MATERIAL_SET) (sequences_of sets FILE_SET)
    (among s (sequences_of sets MATERIAL_SET ++ sequences_of sets FILE_SET) w.0)) w.1
to_wrong tags sets s (inr (inr w)) =
    let files : List SetAt = all_of_kind FILE_SET sets in
    among_right s.at (unsound tags sets ++ clipless sets MATERIAL_SET ++ clipless sets FILE_SET) (strange sets)
    (among_places (is_of_file files) s (material_clips sets) (among s (material_clips sets) w.0)
    (is_false (is_of_file files s) (IsOfFile sets s) (of_file sets s) w.1))

-- what is wrong with a partition
one_place : (at place : ℕ) → Among at (place ∷ []) → at ≡ place
one_place at place (inl e) = sym e
one_place at place (inr a) = absurd a

wrong_at : (len : ℕ) (part : Part) (at : ℕ) → Among at (wrong_metadata len part) → IsWrongAt len part at
wrong_at len part at a = elim (found is_primer part.items) [
  | inr none ↦ inl (none.1, one_place at len (subst (λ (ps : List Placed). Among at (wrong_from len ps)) none.0 a))
  | inl f ↦
      let here : Among at (wrong_behind f.0.at (tags_of_primer f.0.item) f.1) = subst (λ (ps : List Placed). Among at (wrong_from len ps)) f.2 a in
      elim (told (tags_of_primer f.0.item)) [
        | inl none ↦ inr (inl (record {
          primer = f.0;
          behind = f.1;
          is_first = f.3;
          wrong = none;
          at_is = one_place at f.0.at (subst (λ (o : Option (List ℕ)). Among at (wrong_behind f.0.at o f.1)) none here);
        }))
        | inr some ↦
            let w = wrong_set some.0 (sets_behind f.1) at (subst (λ (o : Option (List ℕ)). Among at (wrong_behind f.0.at o f.1)) some.1 here) in
            inr (inr (record { primer = f.0; behind = f.1; is_first = f.3; tags = some.0; lists = some.1; set = w.0; wrong = w.1; at_is = w.2 }))
      ]
]

-- at the first primer of a partition
at_primer : (len at : ℕ) (part : Part) (primer : Placed) (behind : List Placed) (o : Option (List ℕ)) → from_first is_primer part.items ≡ primer ∷ behind
    → tags_of_primer primer.item ≡ o → Among at (wrong_behind primer.at o behind) → Among at (wrong_metadata len part)
at_primer len at part primer behind o is tags a =
    subst (λ (ps : List Placed). Among at (wrong_from len ps)) (sym is)
    (subst (λ (p : Option (List ℕ)). Among at (wrong_behind primer.at p behind)) (sym tags) a)

wrong_back : (len : ℕ) (part : Part) (at : ℕ) → IsWrongAt len part at → Among at (wrong_metadata len part)
wrong_back len part at (inl w) = subst (λ (ps : List Placed). Among at (wrong_from len ps)) (sym (first_none is_primer part.items w.0)) (inl (sym w.1))
wrong_back len part at (inr (inl w)) =
    at_primer len at part w.primer w.behind None (first_is is_primer part.items w.primer w.behind w.is_first) w.wrong (inl (sym w.at_is))
wrong_back len part at (inr (inr w)) =
    at_primer len at part w.primer w.behind (Some w.tags) (first_is is_primer part.items w.primer w.behind w.is_first) w.lists
    (subst (λ (n : ℕ). Among n (wrong_sets w.tags (sets_behind w.behind))) (sym w.at_is) (to_wrong w.tags (sets_behind w.behind) w.set w.wrong))

-- 7.
both_lists : (len : ℕ) (file : File)
    → flat_map (wrong_metadata len) (file.header ++ file.footer) ≡ flat_map (wrong_metadata len) file.header ++ flat_map (wrong_metadata len) file.footer
both_lists len file = flat_map-append (wrong_metadata len) file.header file.footer

least_of : (len : ℕ) (file : File) → broken_7 len file ≡ least (flat_map (wrong_metadata len) (file.header ++ file.footer))
least_of len file = ap least (sym (both_lists len file))

pub metadata_breaks : (len : ℕ) (file : File) (at : ℕ) → broken_7 len file ≡ Some at → BreaksMetadata len file at
metadata_breaks len file at e =
    let parts : List Part = file.header ++ file.footer in
    let l : IsLeast at (flat_map (wrong_metadata len) parts) = least_so (flat_map (wrong_metadata len) parts) at (sym (least_of len file) ∙ e) in
    let own = in_flat at (wrong_metadata len) parts l.0 in
    record {
      part = own.0;
      among = contained own.0 parts own.1;
      wrong = wrong_at len own.0 at own.2;
      least = λ other place there w. l.1 place (among_flat place (wrong_metadata len) other parts (among other parts there) (wrong_back len other place w));
    }

pub metadata_breaks_back : (len : ℕ) (file : File) (at : ℕ) → BreaksMetadata len file at → broken_7 len file ≡ Some at
metadata_breaks_back len file at b =
    let parts : List Part = file.header ++ file.footer in
    let own : Among at (flat_map (wrong_metadata len) parts) =
    among_flat at (wrong_metadata len) b.part parts (among b.part parts b.among) (wrong_back len b.part at b.wrong) in
    let below = λ (place : ℕ) (a : Among place (flat_map (wrong_metadata len) parts)). at_least place (in_flat place (wrong_metadata len) parts a) in
    least_of len file ∙ least_back (flat_map (wrong_metadata len) parts) at (own, below)
  where
    at_least : (place : ℕ) → (part : Part) × Among part (file.header ++ file.footer) × Among place (wrong_metadata len part) → at ≤ place
    at_least place f = b.least f.0 place (contained f.0 (file.header ++ file.footer) f.1) (wrong_at len f.0 place f.2)

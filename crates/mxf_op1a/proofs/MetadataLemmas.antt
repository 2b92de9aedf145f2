-- The clause on metadata.
use Rattle.std.proofs.Common.{◌≡◌, ◌⊎◌, inl, inr, ℕ, true, List, [], ◌∷◌, ◌++◌, filter, Option, Some, None, refl, sym, ap, ◌∙◌}
use Rattle.std.specs.List.{flat_map, AllByRecursion}
use Rattle.mxf_metadata.specs.declared.labels.TheConstants.{MATERIAL_SET, FILE_SET, CLIP_SET}
use Rattle.mxf_metadata.specs.declared.tags.TheConstants.{STRUCTURAL_COMPONENTS}
use Rattle.mxf_metadata_reader.specs.PrimerTags.{tags_of_primer}
use Rattle.mxf_op1a.specs.Contents.{Placed, is_primer}
use Rattle.mxf_op1a.specs.Partitions.{File, Part}
use Rattle.mxf_op1a.specs.Metadata.{SetAt, all_of_kind, clips, has_one_clip, is_of_file, is_sound, least, material_clips, places_but, sequences_of}
use Rattle.mxf_op1a.specs.Metadata.{sets_behind, wrong_behind, wrong_from, wrong_metadata, wrong_sets}
use Rattle.mxf_op1a.specs.Clauses.{broken_7}
use Rattle.mxf_op1a.specs.KeptMetadata.{AreSoundSets, EachNamed, HasOneClip, HasSoundMetadata, IsOfFile, IsSoundSet}
use Rattle.mxf_op1a.specs.Kept.{HasMetadata}
use Rattle.mxf_op1a.proofs.ClipLemmas.{by_packages, by_packages_back, of_file, of_file_back, one_clip, one_clip_back}
use Rattle.mxf_op1a.proofs.FirstLemmas.{first_is, found}
use Rattle.mxf_op1a.proofs.SoundLemmas.{sound_set, sound_set_back}
use Rattle.mxf_op1a.proofs.Steps.{both_none, each_both, each_filter, each_flat, each_none, each_so, filter_each, flat_each, kept_sets, no_least}
use Rattle.mxf_op1a.proofs.Steps.{none_both, none_each, sets_kept}

-- sequences with one clip, and clips of the one file package
abbrev pub Clipped : List SetAt → SetAt → Type 0
Clipped sets sequence = has_one_clip sets sequence ≡ true

abbrev pub Shown : List SetAt → SetAt → Type 0
Shown sets clip = is_of_file (all_of_kind FILE_SET sets) clip ≡ true

abbrev pub ShowsFile : List SetAt → SetAt → Type 0
ShowsFile sets sequence = EachNamed sets STRUCTURAL_COMPONENTS CLIP_SET (IsOfFile sets) sequence

clipped : (sets : List SetAt) (kind : ℕ) → places_but (has_one_clip sets) (sequences_of sets kind) ≡ [] → AllByRecursion (Clipped sets) (sequences_of sets kind)
clipped sets kind e = sets_kept (has_one_clip sets) (sequences_of sets kind) e

-- what clips show, sequence by sequence
shown : (sets : List SetAt) → AllByRecursion (Clipped sets) (sequences_of sets MATERIAL_SET) → AllByRecursion (Shown sets) (material_clips sets)
    → AllByRecursion (ShowsFile sets) (sequences_of sets MATERIAL_SET)
shown sets one h =
    let sequences : List SetAt = sequences_of sets MATERIAL_SET in
    let each = filter_each (λ s. AllByRecursion (Shown sets) (clips sets s)) (has_one_clip sets) sequences
    (flat_each (Shown sets) (clips sets) (filter (has_one_clip sets) sequences) h) in
    each_both (Clipped sets) (λ s. Clipped sets s → AllByRecursion (Shown sets) (clips sets s)) (ShowsFile sets)
    (λ s own so. each_so (Shown sets) (IsOfFile sets) (of_file sets) (clips sets s) (so own)) sequences one each

shown_back : (sets : List SetAt) → AllByRecursion (ShowsFile sets) (sequences_of sets MATERIAL_SET) → AllByRecursion (Shown sets) (material_clips sets)
shown_back sets h =
    let sequences : List SetAt = sequences_of sets MATERIAL_SET in
    each_flat (Shown sets) (clips sets) (filter (has_one_clip sets) sequences)
    (each_filter (λ s. AllByRecursion (Shown sets) (clips sets s)) (has_one_clip sets) sequences
    (each_so (ShowsFile sets) (λ s. Clipped sets s → AllByRecursion (Shown sets) (clips sets s))
    (λ s k own. each_so (IsOfFile sets) (Shown sets) (of_file_back sets) (clips sets s) k) sequences h))

sound_sets : (tags : List ℕ) (sets : List SetAt) → wrong_sets tags sets ≡ [] → AreSoundSets tags sets
sound_sets tags sets e =
    let broken : List ℕ = places_but (is_sound tags sets) sets in
    let material : List ℕ = places_but (has_one_clip sets) (sequences_of sets MATERIAL_SET) in
    let file : List ℕ = places_but (has_one_clip sets) (sequences_of sets FILE_SET) in
    let other : List ℕ = places_but (is_of_file (all_of_kind FILE_SET sets)) (material_clips sets) in
    let a = both_none (broken ++ material ++ file) other e in
    let b = both_none (broken ++ material) file a.0 in
    let c = both_none broken material b.0 in
    let one = clipped sets MATERIAL_SET c.1 in
    record {
      each = each_so (λ s. is_sound tags sets s ≡ true) (IsSoundSet tags sets) (sound_set tags sets) sets (sets_kept (is_sound tags sets) sets c.0);
      material = by_packages sets MATERIAL_SET (HasOneClip sets)
          (each_so (Clipped sets) (HasOneClip sets) (one_clip sets) (sequences_of sets MATERIAL_SET) one);
      file = by_packages sets FILE_SET (HasOneClip sets)
          (each_so (Clipped sets) (HasOneClip sets) (one_clip sets) (sequences_of sets FILE_SET) (clipped sets FILE_SET b.1));
      shown = by_packages sets MATERIAL_SET (ShowsFile sets) (shown sets one (sets_kept (is_of_file (all_of_kind FILE_SET sets)) (material_clips sets) a.1));
    }

clipped_back : (sets : List SetAt) (kind : ℕ) → AllByRecursion (HasOneClip sets) (sequences_of sets kind)
    → places_but (has_one_clip sets) (sequences_of sets kind) ≡ []
clipped_back sets kind h =
    kept_sets (has_one_clip sets) (sequences_of sets kind) (each_so (HasOneClip sets) (Clipped sets) (one_clip_back sets) (sequences_of sets kind) h)

sound_sets_back : (tags : List ℕ) (sets : List SetAt) → AreSoundSets tags sets → wrong_sets tags sets ≡ []
sound_sets_back tags sets k =
    let broken : List ℕ = places_but (is_sound tags sets) sets in
    let material : List ℕ = places_but (has_one_clip sets) (sequences_of sets MATERIAL_SET) in
    let file : List ℕ = places_but (has_one_clip sets) (sequences_of sets FILE_SET) in
    let other : List ℕ = places_but (is_of_file (all_of_kind FILE_SET sets)) (material_clips sets) in
    let sound : broken ≡ [] =
    kept_sets (is_sound tags sets) sets (each_so (IsSoundSet tags sets) (λ s. is_sound tags sets s ≡ true) (sound_set_back tags sets) sets k.each) in
    let c = none_both broken material sound (clipped_back sets MATERIAL_SET (by_packages_back sets MATERIAL_SET (HasOneClip sets) k.material)) in
    let b = none_both (broken ++ material) file c (clipped_back sets FILE_SET (by_packages_back sets FILE_SET (HasOneClip sets) k.file)) in
    none_both (broken ++ material ++ file) other b
    (kept_sets (is_of_file (all_of_kind FILE_SET sets)) (material_clips sets) (shown_back sets (by_packages_back sets MATERIAL_SET (ShowsFile sets) k.shown)))

-- a primer that lists tags
pub told : (o : Option (List ℕ)) → (o ≡ None) ⊎ ((tags : List ℕ) × (o ≡ Some tags))
told None = inl refl
told (Some tags) = inr (tags, refl)

sound_part : (len : ℕ) (part : Part) → wrong_metadata len part ≡ [] → HasSoundMetadata part
sound_part len part e = elim (found is_primer part.items) [
  | inl f ↦
      let primer : Placed = f.0 in
      let behind : List Placed = f.1 in
      let at : wrong_behind primer.at (tags_of_primer primer.item) behind ≡ [] = ap (wrong_from len) (sym f.2) ∙ e in
      elim (told (tags_of_primer primer.item)) [
        | inl none ↦ let bad : primer.at ∷ [] ≡ [] = ap (λ (o : Option (List ℕ)). wrong_behind primer.at o behind) (sym none) ∙ at in absurd (cc)
        | inr some ↦ record {
          primer = primer;
          behind = behind;
          is_first = f.3;
          tags = some.0;
          lists = some.1;
          sound = sound_sets some.0 (sets_behind behind) (ap (λ (o : Option (List ℕ)). wrong_behind primer.at o behind) (sym some.1) ∙ at);
        }
      ]
  | inr none ↦ let bad : len ∷ [] ≡ [] = ap (wrong_from len) (sym none.0) ∙ e in absurd (cc)
]

sound_part_back : (len : ℕ) (part : Part) → HasSoundMetadata part → wrong_metadata len part ≡ []
sound_part_back len part k =
    ap (wrong_from len) (first_is is_primer part.items k.primer k.behind k.is_first)
    ∙ ap (λ (o : Option (List ℕ)). wrong_behind k.primer.at o k.behind) k.lists
    ∙ sound_sets_back k.tags (sets_behind k.behind) k.sound

-- 7.
sound_parts : (len : ℕ) (parts : List Part) → flat_map (wrong_metadata len) parts ≡ [] → AllByRecursion HasSoundMetadata parts
sound_parts len parts e = each_so (λ part. wrong_metadata len part ≡ []) HasSoundMetadata (sound_part len) parts (none_each (wrong_metadata len) parts e)

sound_parts_back : (len : ℕ) (parts : List Part) → AllByRecursion HasSoundMetadata parts → flat_map (wrong_metadata len) parts ≡ []
sound_parts_back len parts k =
    each_none (wrong_metadata len) parts (each_so HasSoundMetadata (λ part. wrong_metadata len part ≡ []) (sound_part_back len) parts k)

pub metadata : (len : ℕ) (file : File) → broken_7 len file ≡ None → HasMetadata file
metadata len file e =
    let both = both_none (flat_map (wrong_metadata len) file.header) (flat_map (wrong_metadata len) file.footer)
    (no_least (flat_map (wrong_metadata len) file.header ++ flat_map (wrong_metadata len) file.footer) e) in
    record { header = sound_parts len file.header both.0; footer = sound_parts len file.footer both.1 }

pub metadata_back : (len : ℕ) (file : File) → HasMetadata file → broken_7 len file ≡ None
metadata_back len file k =
    ap least (none_both (flat_map (wrong_metadata len) file.header) (flat_map (wrong_metadata len) file.footer)
    (sound_parts_back len file.header k.header) (sound_parts_back len file.footer k.footer))

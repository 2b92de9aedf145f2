-- What is wrong with sets, place by place.
use Rattle.std.proofs.Common.{◌≡◌, ℕ, not, Bool, true, false, cond, List, [], ◌∷◌, ◌++◌, map, filter, Option, refl, sym, ap, ap₂, ◌∙◌}
use Rattle.std.proofs.lemmas.Grind.{flat_map-append}
use Rattle.std.specs.List.{flat_map}
use Rattle.mxf_metadata.specs.declared.labels.TheConstants.{MATERIAL_SET, FILE_SET, TRACK_SET, SEQUENCE_SET}
use Rattle.mxf_metadata.specs.declared.tags.TheConstants.{TRACKS, SEQUENCE}
use Rattle.mxf_metadata_check.specs.inner.Chain.{is_picture, place_but, places_if}
use Rattle.mxf_metadata_check.specs.inner.Held.{lesser}
use Rattle.mxf_metadata_check.proofs.Least.{least_both}
use Rattle.mxf_op1a.specs.Metadata.{SetAt, all_of_kind, clips, has_one_clip, is_of_file, is_sound, least, material_clips, named, picture_sequences, places_but, sequences_of, wrong_sets}

flat_same : (f g : SetAt → List ℕ) (xs : List SetAt) → ((x : SetAt) → f x ≡ g x) → flat_map f xs ≡ flat_map g xs
flat_same f g [] e = refl
flat_same f g (x ∷ xs) e = ap₂ (λ (a b : List ℕ). a ++ b) (e x) (flat_same f g xs e)

flat_flat : (g : SetAt → List ℕ) (h : SetAt → List SetAt) (xs : List SetAt) → flat_map g (flat_map h xs) ≡ flat_map (λ x. flat_map g (h x)) xs
flat_flat g h [] = refl
flat_flat g h (x ∷ xs) = flat_map-append g (h x) (flat_map h xs) ∙ ap (λ (ys : List ℕ). flat_map g (h x) ++ ys) (flat_flat g h xs)

flat_filter : (g : SetAt → List ℕ) (test : SetAt → Bool) (xs : List SetAt) → flat_map g (filter test xs) ≡ flat_map (places_if test g) xs
flat_filter g test [] = refl
flat_filter g test (x ∷ xs) =
    elim (test x) as (λ (b : Bool). flat_map g (cond b (x ∷ filter test xs) (filter test xs)) ≡ cond b (g x) [] ++ flat_map (places_if test g) xs) [
      | true ↦ ap (λ (ys : List ℕ). g x ++ ys) (flat_filter g test xs)
      | false ↦ flat_filter g test xs
    ]

pub but_flat : (test : SetAt → Bool) (xs : List SetAt) → places_but test xs ≡ flat_map (place_but test) xs
but_flat test [] = refl
but_flat test (x ∷ xs) =
    elim (test x) as (λ (b : Bool). map (λ (s : SetAt). s.at) (cond (not b) (x ∷ filter (λ (s : SetAt). not (test s)) xs) (filter (λ (s : SetAt). not (test s)) xs))
    ≡ map (λ (s : SetAt). s.at) (cond (not b) (x ∷ []) []) ++ flat_map (place_but test) xs) [
      | true ↦ but_flat test xs
      | false ↦ ap (λ (ys : List ℕ). x.at ∷ ys) (but_flat test xs)
    ]

-- the places of picture sequences, by their tracks and packages
abbrev pub of_tracks : List SetAt → (SetAt → List ℕ) → SetAt → List ℕ
of_tracks sets places track = flat_map (places_if is_picture places) (named sets SEQUENCE SEQUENCE_SET track)

abbrev pub of_packages : List SetAt → (SetAt → List ℕ) → SetAt → List ℕ
of_packages sets places package_set = flat_map (of_tracks sets places) (named sets TRACKS TRACK_SET package_set)

of_package : (sets : List SetAt) (places : SetAt → List ℕ) (one : SetAt) → flat_map places (picture_sequences sets one) ≡ of_packages sets places one
of_package sets places one =
    flat_filter places is_picture (flat_map (named sets SEQUENCE SEQUENCE_SET) (named sets TRACKS TRACK_SET one))
    ∙ flat_flat (places_if is_picture places) (named sets SEQUENCE SEQUENCE_SET) (named sets TRACKS TRACK_SET one)

pub by_packages : (sets : List SetAt) (places : SetAt → List ℕ) (kind : ℕ)
    → flat_map (of_packages sets places) (all_of_kind kind sets) ≡ flat_map places (sequences_of sets kind)
by_packages sets places kind =
    sym (flat_flat places (picture_sequences sets) (all_of_kind kind sets)
    ∙ flat_same (λ one. flat_map places (picture_sequences sets one)) (of_packages sets places) (all_of_kind kind sets) (of_package sets places))

-- the clips of the material package
pub by_clips : (sets : List SetAt) (test : SetAt → Bool)
    → flat_map (places_if (has_one_clip sets) (λ s. flat_map (place_but test) (clips sets s))) (sequences_of sets MATERIAL_SET) ≡ places_but test (material_clips sets)
by_clips sets test =
    sym (but_flat test (material_clips sets)
    ∙ flat_flat (place_but test) (clips sets) (filter (has_one_clip sets) (sequences_of sets MATERIAL_SET))
    ∙ flat_filter (λ s. flat_map (place_but test) (clips sets s)) (has_one_clip sets) (sequences_of sets MATERIAL_SET))

-- all together
pub all_wrong : (tags : List ℕ) (sets : List SetAt) (a b c d : Option ℕ) → a ≡ least (places_but (is_sound tags sets) sets)
    → b ≡ least (places_but (has_one_clip sets) (sequences_of sets MATERIAL_SET)) → c ≡ least (places_but (has_one_clip sets) (sequences_of sets FILE_SET))
    → d ≡ least (places_but (is_of_file (all_of_kind FILE_SET sets)) (material_clips sets))
    → lesser (lesser (lesser a b) c) d ≡ least (wrong_sets tags sets)
all_wrong tags sets a b c d ea eb ec ed =
    let xs : List ℕ = places_but (is_sound tags sets) sets in
    let ys : List ℕ = places_but (has_one_clip sets) (sequences_of sets MATERIAL_SET) in
    let zs : List ℕ = places_but (has_one_clip sets) (sequences_of sets FILE_SET) in
    let ws : List ℕ = places_but (is_of_file (all_of_kind FILE_SET sets)) (material_clips sets) in
    ap₂ lesser (ap₂ lesser (ap₂ lesser ea eb ∙ sym (least_both xs ys)) ec ∙ sym (least_both (xs ++ ys) zs)) ed ∙ sym (least_both (xs ++ ys ++ zs) ws)

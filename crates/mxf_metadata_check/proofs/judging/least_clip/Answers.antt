use Rattle.std.proofs.Common.{◌≡◌, ℕ, Bool, List, Option, sym, ap, subst, ◌∙◌}
use Rattle.std.proofs.lemmas.Result.{IfOk-weaker}
use Rattle.std.specs.List.{flat_map}
use Rattle.mxf_metadata.specs.declared.labels.TheConstants.{FILE_SET, MATERIAL_SET}
use Rattle.mxf_metadata_check.specs.inner.Chain.{HasLeast, Tells, place_but, places_if}
use Rattle.mxf_metadata_check.specs.inner.Held.{sets_held}
use Rattle.mxf_metadata_check.proofs.Joined.{by_clips}
use Rattle.mxf_op1a.specs.Metadata.{SetAt, all_of_kind, clips, has_one_clip, is_of_file, least, material_clips, places_but, sequences_of}
use Rattle.mxf_metadata_check.proofs.judging.least_clip.Goals as goal

pub returns : goal.returns
returns c =
    let bytes : List ℕ = c.args.bytes.now in
    let all : List SetAt = sets_held bytes c.args.sets.now in
    let test : SetAt → Bool = is_of_file (all_of_kind FILE_SET all) in
    let shown : SetAt → List ℕ = λ s. flat_map (place_but test) (clips all s) in
    let files = subst (λ (xs : List Bool). Tells test all xs) (sym c.deref.ensures.value) c.in_ok-files.ensures in
    let others = c.in_ok-others.ensures.least bytes test files in
    let named = c.in_ok-named.ensures.least (place_but test) (subst (λ (xs : List (Option ℕ)). HasLeast (place_but test) all xs) (sym c.deref-2.ensures.value) others) in
    let kept = c.in_ok-clips.ensures.least all (has_one_clip all) shown c.requires.ones
    (subst (λ (xs : List (Option ℕ)). HasLeast shown all xs) (sym c.deref-3.ensures.value) named) in
    let has = subst (λ (xs : List (Option ℕ)). HasLeast (places_if (has_one_clip all) shown) all xs) (sym c.deref-4.ensures.value) kept in
    IfOk-weaker c.least_of_sequences.result
    (λ (place : Option ℕ). (places : SetAt → List ℕ) → HasLeast places all c.deref-4.result.now → place ≡ least (flat_map places (sequences_of all MATERIAL_SET)))
    (λ (place : Option ℕ). place ≡ least (places_but test (material_clips all)))
    (λ place so. so (places_if (has_one_clip all) shown) has ∙ ap least (by_clips all test))
    c.least_of_sequences.ensures

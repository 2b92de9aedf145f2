use Rattle.std.proofs.Common.{◌≡◌, ℕ, List, Option, sym, ap, subst, ◌∙◌}
use Rattle.std.proofs.lemmas.Result.{IfOk-weaker}
use Rattle.std.specs.List.{flat_map}
use Rattle.mxf_metadata_check.specs.inner.Chain.{HasLeast, place_but}
use Rattle.mxf_metadata_check.specs.inner.Held.{sets_held}
use Rattle.mxf_metadata_check.proofs.Joined.{but_flat}
use Rattle.mxf_op1a.specs.Metadata.{SetAt, has_one_clip, least, places_but, sequences_of}
use Rattle.mxf_metadata_check.proofs.judging.least_clipless.Goals as goal

pub returns : goal.returns
returns c =
    let all : List SetAt = sets_held c.args.bytes.now c.args.sets.now in
    let sequences : List SetAt = sequences_of all c.args.kind in
    let has = subst (λ (xs : List (Option ℕ)). HasLeast (place_but (has_one_clip all)) all xs) (sym c.deref.ensures.value)
    (c.in_ok-clipless.ensures.least c.args.bytes.now (has_one_clip all) c.requires.ones) in
    IfOk-weaker c.least_of_sequences.result
    (λ (place : Option ℕ). (places : SetAt → List ℕ) → HasLeast places all c.deref.result.now → place ≡ least (flat_map places sequences))
    (λ (place : Option ℕ). place ≡ least (places_but (has_one_clip all) sequences))
    (λ place so. so (place_but (has_one_clip all)) has ∙ ap least (sym (but_flat (has_one_clip all) sequences)))
    c.least_of_sequences.ensures

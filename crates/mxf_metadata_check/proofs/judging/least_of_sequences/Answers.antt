use Rattle.std.proofs.Common.{ℕ, List, Option, sym, ap, subst, ◌∙◌}
use Rattle.mxf_metadata_check.specs.inner.Chain.{HasLeast, is_picture, places_if}
use Rattle.mxf_metadata_check.specs.inner.Held.{sets_held}
use Rattle.mxf_metadata_check.proofs.Joined.{by_packages, of_packages, of_tracks}
use Rattle.mxf_op1a.specs.Metadata.{SetAt, least}
use Rattle.mxf_metadata_check.proofs.judging.least_of_sequences.Goals as goal

pub returns : goal.returns
returns c = λ places has.
    let all : List SetAt = sets_held c.args.bytes.now c.args.sets.now in
    let pictured = c.in_ok-pictured.ensures.least all is_picture places c.requires.pictures has in
    let tracks = c.in_ok-tracks.ensures.least (places_if is_picture places)
    (subst (λ (xs : List (Option ℕ)). HasLeast (places_if is_picture places) all xs) (sym c.deref.ensures.value) pictured) in
    let packages = c.in_ok-packages.ensures.least (of_tracks all places)
    (subst (λ (xs : List (Option ℕ)). HasLeast (of_tracks all places) all xs) (sym c.deref-2.ensures.value) tracks) in
    c.least_of_kind.ensures c.args.bytes.now (of_packages all places)
    (subst (λ (xs : List (Option ℕ)). HasLeast (of_packages all places) all xs) (sym c.deref-3.ensures.value) packages)
    ∙ ap least (by_packages all places c.args.kind)

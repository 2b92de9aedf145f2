use Rattle.std.proofs.Common.{◌≡◌, ℕ, List, length, None, sym, subst, ◌∙◌, arith}
use Rattle.std.specs.List.{AllByRecursion}
use Rattle.mxf_op1a.specs.Op1a.{first_broken, units_in}
use Rattle.take_disk.specs.laws.TimeLaws.{elapsed_more}
use Rattle.mxf_reader.specs.inner.Inside.{IsPlaceInside}
use Rattle.mxf_reader.proofs.CatalogueLemmas.{catalogued}
use Rattle.mxf_reader.proofs.JudgeLemmas.{keeps_both}
use Rattle.mxf_reader.proofs.catalogue.Catalogue.read.Goals as goal

pub returns-in-Some-clause-refused : goal.returns-in-Some-clause-refused
returns-in-Some-clause-refused g c =
    λ told is.
    let seen = c.in_ok-file.ensures.seen told is in
    record { outline = seen.outline; is = c.in_ok-broken.ensures.broken told (c.in_ok-file.ensures.stays.same ∙ is) seen ∙ c.in-Some.is }

pub returns-in_err-take_id-clause-time : goal.returns-in_err-take_id-clause-time
returns-in_err-take_id-clause-time g c =
    elapsed_more _ _ _ _ _ _ _ _ _ (elapsed_more _ _ _ _ _ _ _ _ _ c.in_ok-file.ensures.time c.in_ok-broken.ensures.time) c.read_take_id.ensures.time

pub invariant_of-result : goal.invariant_of-result
invariant_of-result g c =
    let inside = c.in_ok-file.ensures.inside in
    subst (λ (len : ℕ). AllByRecursion (IsPlaceInside len) c.in_ok-file.file.elements.items) (sym inside.len_is) inside.elements

pub returns-clause-read : goal.returns-clause-read
returns-clause-read g c =
    let file = c.in_ok-file.file in
    λ told is.
    let bytes : List ℕ = told.essence.reads in
    let seen = c.in_ok-file.ensures.seen told is in
    let judged = c.in_ok-file.ensures.stays.same ∙ is in
    let named = c.in_ok-broken.ensures.stays.same ∙ judged in
    let kept : first_broken (length bytes) seen.outline.items ≡ None = c.in_ok-broken.ensures.broken told judged seen ∙ c.in_default.is in
    let count : c.len.result ≡ length file.parts.items = omega (arith, c.len.ensures, file.parts.ok.0) in
    let both = keeps_both bytes file seen kept in (
      units_in seen.outline.items,
      catalogued bytes file c.in_ok-take_id.take_id c.len.result seen (c.items_stand_at_their_places.ensures.stand bytes seen.outline) kept both.held
          (c.in_ok-take_id.ensures.id told named seen) count,
    )

pub returns-clause-time : goal.returns-clause-time
returns-clause-time g c =
    elapsed_more _ _ _ _ _ _ _ _ _ (elapsed_more _ _ _ _ _ _ _ _ _ c.in_ok-file.ensures.time c.in_ok-broken.ensures.time) c.read_take_id.ensures.time

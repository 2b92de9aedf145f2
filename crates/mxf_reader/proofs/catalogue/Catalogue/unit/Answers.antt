use Rattle.std.proofs.Common.{ℕ, List, Some, length, sym, ap, ◌∙◌}
use Rattle.std.proofs.lemmas.Option.{slice_get_within}
use Rattle.std.proofs.lemmas.Result.{IfOk-weaker}
use Rattle.mxf_reader.proofs.CatalogueLemmas.{unit_read}
use Rattle.mxf_reader.proofs.catalogue.Catalogue.unit.Goals as goal

pub returns-in-Ok-clause-read : goal.returns-in-Ok-clause-read
returns-in-Ok-clause-read g c =
    let kept = c.args.self.now in
    IfOk-weaker c.read_unit.result _ _
    (λ unit read told is units whole.
    unit_read told.essence.reads units kept c.args.n c.in-Ok.place whole c.in-Ok.ensures.place c.in-Ok.ensures.inside
    ∙ ap (λ (bytes : List ℕ). Some bytes) (sym (read told is)))
    c.read_unit.ensures.read

pub returns-in-Ok-clause-cause : goal.returns-in-Ok-clause-cause
returns-in-Ok-clause-cause g c =
    let kept = c.args.self.now in
    c.read_unit.ensures.cause (length kept.places) c.args.n (slice_get_within kept.places c.args.n c.in-Ok.place c.in-Ok.ensures.place)

use Rattle.std.proofs.Common.{Option, sym, ap, ◌∙◌}
use Rattle.std.specs.List.{flat_map}
use Rattle.mxf_metadata_check.specs.inner.Held.{sets_held}
use Rattle.mxf_metadata_check.proofs.Numbered.{found_is, none_is}
use Rattle.mxf_op1a.specs.Metadata.{SetAt, least, of_kind}
use Rattle.mxf_metadata_check.proofs.chain.value_with.Goals as goal

pub returns-in-None : goal.returns-in-None
returns-in-None c = λ bytes places tells has.
    sym (ap (λ (o : Option SetAt). least (flat_map places (of_kind c.args.kind o)))
    (none_is (sets_held bytes c.args.sets.now) c.args.id.now (sym (c.in-None.ensures (sets_held bytes c.args.sets.now) tells))))

pub returns-in-Some : goal.returns-in-Some
returns-in-Some c = λ bytes places tells has.
    let f = found_is (sets_held bytes c.args.sets.now) c.args.id.now c.in-Some.k (sym (c.in-Some.ensures (sets_held bytes c.args.sets.now) tells)) in
    c.value_if.ensures bytes places f.s has f.nth
    ∙ sym (ap (λ (o : Option SetAt). least (flat_map places (of_kind c.args.kind o))) f.is)

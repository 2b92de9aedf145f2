use Rattle.std.proofs.Common.{Option, length, sym, ap, ◌∙◌}
use Rattle.mxf_metadata_check.specs.inner.Held.{sets_held}
use Rattle.mxf_metadata_check.proofs.Numbered.{found_is, none_is}
use Rattle.mxf_op1a.specs.Metadata.{SetAt, of_kind}
use Rattle.mxf_metadata_check.proofs.flags.count_one.Goals as goal

pub returns-in-None-clause-count : goal.returns-in-None-clause-count
returns-in-None-clause-count c = λ bytes tells.
    sym (ap (λ (o : Option SetAt). length (of_kind c.args.kind o))
    (none_is (sets_held bytes c.args.sets.now) c.args.id.now (sym (c.in-None.ensures (sets_held bytes c.args.sets.now) tells))))

pub returns-in-Some-clause-count : goal.returns-in-Some-clause-count
returns-in-Some-clause-count c = λ bytes tells.
    let f = found_is (sets_held bytes c.args.sets.now) c.args.id.now c.in-Some.k (sym (c.in-Some.ensures (sets_held bytes c.args.sets.now) tells)) in
    c.count_if.ensures.count bytes f.s f.nth
    ∙ sym (ap (λ (o : Option SetAt). length (of_kind c.args.kind o)) f.is)

use Rattle.std.proofs.Common.{true, false, Some, sym, ap, ◌∙◌}
use Rattle.mxf_metadata_check.specs.declared.outline.Held.{Held}
use Rattle.mxf_metadata_check.specs.inner.Held.{sets_held}
use Rattle.mxf_metadata_check.proofs.Least.{but_one}
use Rattle.mxf_metadata_check.proofs.Numbered.{flag_is, nth_held}
use Rattle.mxf_op1a.specs.Metadata.{SetAt}
use Rattle.mxf_metadata_check.proofs.chain.place_but.Goals as goal

pub returns-then-flags-k : goal.returns-then-flags-k
returns-then-flags-k c = λ bytes test s tells nth.
    sym (but_one test s true (sym (flag_is test (sets_held bytes c.args.sets.now) c.args.flags.now c.args.k s tells nth) ∙ c.if-flags-k.true))

pub returns-else-flags-k : goal.returns-else-flags-k
returns-else-flags-k c = λ bytes test s tells nth.
    let d : Held = record { at = 0; kind = 0; value_at = 0; value_len = 0 } in
    ap (λ (s : SetAt). Some s.at) (nth_held bytes c.args.sets.now c.args.k s d nth)
    ∙ sym (but_one test s false (sym (flag_is test (sets_held bytes c.args.sets.now) c.args.flags.now c.args.k s tells nth) ∙ c.if-flags-k.false))

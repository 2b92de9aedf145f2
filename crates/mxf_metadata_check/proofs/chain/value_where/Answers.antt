use Rattle.std.proofs.Common.{true, false, sym, ◌∙◌}
use Rattle.mxf_metadata_check.proofs.Numbered.{flag_is, if_is, value_is}
use Rattle.mxf_metadata_check.proofs.chain.value_where.Goals as goal

pub returns-then-flags-k : goal.returns-then-flags-k
returns-then-flags-k c = λ all test places s tells has nth.
    value_is places all c.args.values.now c.args.k s has nth
    ∙ sym (if_is test places s true (sym (flag_is test all c.args.flags.now c.args.k s tells nth) ∙ c.if-flags-k.true))

pub returns-else-flags-k : goal.returns-else-flags-k
returns-else-flags-k c = λ all test places s tells has nth.
    sym (if_is test places s false (sym (flag_is test all c.args.flags.now c.args.k s tells nth) ∙ c.if-flags-k.false))

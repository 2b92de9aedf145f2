use Rattle.std.proofs.Common.{refl, arith}
use Rattle.std.proofs.lemmas.Result.{err_from_is_err_and}
use Rattle.mxf_index.specs.Dues.{first_fault}
use Rattle.mxf_index.specs.inner.Items.{dues_len}
use Rattle.mxf_index.specs.declared.due.Due.{Due}
use Rattle.mxf_index.specs.declared.due.Holds.TheVariants.{Bytes}
use Rattle.mxf_index.proofs.DueLemmas.{one_more, stops}
use Rattle.mxf_index.proofs.due.read_dues.Goals as goal

none : Due
none = record { tag = 0; holds = Bytes 0 }

pub dues-init : goal.dues-init
unfolding first_fault dues_len
dues-init c = record { read = refl; end = refl; within = omega arith }

pub returns-in_err-end-clause-refused : goal.returns-in_err-end-clause-refused
unfolding none
returns-in_err-end-clause-refused c =
    let p = err_from_is_err_and c.from_residual.result c.from_residual.ensures.1 in
    rw (p.1, p.2) (stops c.args.value.now c.args.dues.now c.dues.due-index c.dues.end none _ c.dues-test.true c.dues.invariant.read
    c.dues.invariant.end c.in_err-end.ensures.refused)

pub dues-preserved : goal.dues-preserved
unfolding none
dues-preserved c =
    let more = one_more c.args.value.now c.args.dues.now c.dues.due-index c.dues.end c.in_ok-end.end none c.dues-test.true c.dues.invariant.read
    c.dues.invariant.end c.in_ok-end.ensures.read c.in_ok-end.ensures.behind in
    record { read = more.0; end = more.1; within = c.in_ok-end.ensures.within }

use Rattle.std.proofs.Common.{◌∙◌}
use Rattle.std.proofs.lemmas.Result.{err_from_is_err_and}
use Rattle.mxf_index.proofs.DueLemmas.{items_opening, items_rest}
use Rattle.mxf_index.proofs.reading.read_items.Goals as goal

pub returns-in_err-read_opening-clause-refused : goal.returns-in_err-read_opening-clause-refused
returns-in_err-read_opening-clause-refused c =
    let p = err_from_is_err_and c.from_residual.result c.from_residual.ensures.1 in
    rw (p.1, p.2) (items_opening c.args.value.now _ c.in_err-read_opening.ensures.refused)

pub returns-in_err-read_rest-clause-refused : goal.returns-in_err-read_rest-clause-refused
returns-in_err-read_rest-clause-refused c =
    let p = err_from_is_err_and c.from_residual-in_err-read_rest.result c.from_residual-in_err-read_rest.ensures.1 in
    rw (p.1, p.2) (items_rest c.args.value.now c.u64_at-count.result c.in_ok-read_opening.ensures.read c.u64_at-count.ensures
    ∙ c.in_err-read_rest.ensures.refused)

pub returns-clause-read : goal.returns-clause-read
returns-clause-read c =
    items_rest c.args.value.now c.u64_at-count.result c.in_ok-read_opening.ensures.read c.u64_at-count.ensures ∙ c.in_ok-read_rest.ensures.read

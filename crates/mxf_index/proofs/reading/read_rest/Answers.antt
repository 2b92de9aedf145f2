use Rattle.std.proofs.Common.{sym, ◌∙◌, arith}
use Rattle.std.proofs.lemmas.Result.{err_from_is_err_and}
use Rattle.mxf_index.proofs.DueLemmas.{end_right, end_wrong, rest_entries, rest_closing, rest_items}
use Rattle.mxf_index.proofs.reading.read_rest.Goals as goal

pub returns-in_err-closing_at-clause-refused : goal.returns-in_err-closing_at-clause-refused
returns-in_err-closing_at-clause-refused c =
    let p = err_from_is_err_and c.from_residual.result c.from_residual.ensures.1 in
    rw (p.1, p.2) (rest_entries c.args.value.now c.args.count c.new-entries.result _ c.new-entries.ensures c.in_err-closing_at.ensures.refused)

pub returns-in_err-end-clause-refused : goal.returns-in_err-end-clause-refused
returns-in_err-end-clause-refused c =
    let p = err_from_is_err_and c.from_residual-in_err-end.result c.from_residual-in_err-end.ensures.1 in
    rw (p.1, p.2) (rest_closing c.args.value.now c.args.count c.in_ok-closing_at.closing_at c.new-entries.result c.new-closing.result _
    c.new-entries.ensures c.new-closing.ensures c.in_ok-closing_at.ensures.read c.in_ok-closing_at.ensures.behind c.in_err-end.ensures.refused)

pub returns-then-end-value-clause-refused : goal.returns-then-end-value-clause-refused
returns-then-end-value-clause-refused c =
    let items = rest_items c.args.value.now c.args.count c.in_ok-closing_at.closing_at c.in_ok-end.end c.new-entries.result c.new-closing.result
    c.new-entries.ensures c.new-closing.ensures c.in_ok-closing_at.ensures.read c.in_ok-closing_at.ensures.behind c.in_ok-end.ensures.read
    c.in_ok-end.ensures.behind in
    items.0 ∙ end_wrong c.args.value.now c.in_ok-end.end (λ same. c.if-end-value.true (sym same))

pub returns-clause-read : goal.returns-clause-read
returns-clause-read c =
    let items = rest_items c.args.value.now c.args.count c.in_ok-closing_at.closing_at c.in_ok-end.end c.new-entries.result c.new-closing.result
    c.new-entries.ensures c.new-closing.ensures c.in_ok-closing_at.ensures.read c.in_ok-closing_at.ensures.behind c.in_ok-end.ensures.read
    c.in_ok-end.ensures.behind in
    items.0 ∙ end_right c.args.value.now c.in_ok-end.end (sym c.if-end-value.false)

pub returns-clause-long : goal.returns-clause-long
returns-clause-long c =
    let items = rest_items c.args.value.now c.args.count c.in_ok-closing_at.closing_at c.in_ok-end.end c.new-entries.result c.new-closing.result
    c.new-entries.ensures c.new-closing.ensures c.in_ok-closing_at.ensures.read c.in_ok-closing_at.ensures.behind c.in_ok-end.ensures.read
    c.in_ok-end.ensures.behind in
    omega (arith, items.1, c.if-end-value.false)

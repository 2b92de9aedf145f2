use Rattle.std.proofs.lemmas.Result.{err_from_is_err_and}
use Rattle.prores_codes.specs.Pairs.{IsPair}
use Rattle.slice_parts.proofs.TablePairs.{less_one, table_bits, table_length}
use Rattle.slice_parts.proofs.pairs.put_short_pair.Goals as goal

pub returns-in_err-put-clause-accepted : goal.returns-in_err-put-clause-accepted
returns-in_err-put-clause-accepted c = λ run size s of_row is.
    let p : IsPair c.args.row c.args.zeros c.args.number c.get-pair.result = rw (← c.from.ensures, ← c.from-2.ensures) c.get-pair.ensures in
    let q = err_from_is_err_and c.from_residual.result c.from_residual.ensures.1 in
    rw (q.1, table_length run size c.args.zeros c.args.number c.args.row c.get-pair.result s c.requires.number.0 of_row p is) c.in_err-put.ensures.accepted

pub returns-clause-accepted : goal.returns-clause-accepted
returns-clause-accepted c = λ run size s of_row is.
    let p : IsPair c.args.row c.args.zeros c.args.number c.get-pair.result = rw (← c.from.ensures, ← c.from-2.ensures) c.get-pair.ensures in
    rw (table_length run size c.args.zeros c.args.number c.args.row c.get-pair.result s c.requires.number.0 of_row p is) c.in_ok-put.ensures.accepted

pub returns-clause-spelled : goal.returns-clause-spelled
returns-clause-spelled c = λ run size s of_row is.
    let p : IsPair c.args.row c.args.zeros c.args.number c.get-pair.result = rw (← c.from.ensures, ← c.from-2.ensures) c.get-pair.ensures in
    rw (table_bits run size c.args.zeros c.args.number c.args.row c.get-pair.result s c.requires.number.0 of_row p is) c.in_ok-put.ensures.put

pub returns-clause-row : goal.returns-clause-row
returns-clause-row c =
    let p : IsPair c.args.row c.args.zeros c.args.number c.get-pair.result = rw (← c.from.ensures, ← c.from-2.ensures) c.get-pair.ensures in
    rw (less_one c.args.number c.requires.number.0) p.next

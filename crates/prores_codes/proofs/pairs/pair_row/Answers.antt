use Rattle.prores_codes.proofs.PairLemmas.{pair_row_is}
use Rattle.prores_codes.proofs.pairs.pair_row.Goals as goal

pub returns : goal.returns
returns c =
    let one = c.run_class in
    let two = c.level_class in
    rw c.from.ensures (pair_row_is c.args.run c.args.size_less_one one.result two.result one.ensures.within two.ensures.within one.ensures.code two.ensures.code)

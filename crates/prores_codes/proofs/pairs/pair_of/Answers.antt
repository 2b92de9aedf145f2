use Rattle.std.proofs.Common.{arith}
use Rattle.prores_codes.proofs.PairLemmas.{pair_is}
use Rattle.prores_codes.proofs.pairs.pair_of.Goals as goal

pub returns : goal.returns
returns c =
    let one = c.short_run-one in
    let two = c.small_level-two in
    pair_is c.args.state c.args.run c.args.level one.result two.result _ one.ensures.form (rw (← c.saturating_sub-size_less_one.ensures) two.ensures.form)
    one.ensures.short two.ensures.short (omega arith) c.joined.ensures (rw (← c.saturating_sub-size_less_one.ensures) c.pair_row.ensures)

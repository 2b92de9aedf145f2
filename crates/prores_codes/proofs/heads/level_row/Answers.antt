use Rattle.prores_codes.proofs.HeadLemmas.{level_row_is}
use Rattle.prores_codes.proofs.heads.level_row.Goals as goal

pub returns : goal.returns
returns c =
    let class = c.level_class in
    rw c.from.ensures (level_row_is c.args.size_less_one class.result class.ensures.within class.ensures.code)

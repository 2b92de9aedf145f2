use Rattle.prores_codes.proofs.HeadLemmas.{run_row_is}
use Rattle.prores_codes.proofs.heads.run_row.Goals as goal

pub returns : goal.returns
returns c =
    let class = c.run_class in
    rw c.from.ensures (run_row_is c.args.run class.result class.ensures.within class.ensures.code)

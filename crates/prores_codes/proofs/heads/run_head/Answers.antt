use Rattle.prores_codes.proofs.HeadLemmas.{run_head_is}
use Rattle.prores_codes.proofs.heads.run_head.Goals as goal

pub returns : goal.returns
returns c =
    let found = c.run_in-found in
    run_head_is c.args.class c.args.nine found.result.size _ found.ensures.size found.ensures.found c.marked.ensures.small c.marked.ensures.marked c.run_row.ensures

use Rattle.rec_bytes.specs.Views.{view}
use Rattle.commit_sidecar.proofs.HeadLemmas.{head_is, says_none, spells_itself}
use Rattle.commit_sidecar.proofs.head.put_head.Goals as goal

pub returns-clause-written : goal.returns-clause-written
returns-clause-written c =
    head_is (view c.args.cfg.now) c.args.out.now c.put_bytes.new.out c.put_bytes-2.new.out c.put_u8.new.out c.put_config.new.out c.told-out
    c.put_config.ensures.spelled c.put_bytes.ensures c.put_bytes-2.ensures c.put_u8.ensures

pub returns-clause-says : goal.returns-clause-says
returns-clause-says c =
    says_none c.put_u8.new.out (view c.args.cfg.now) (spells_itself c.put_config.new.out (view c.args.cfg.now) c.put_config.ensures.spelled) (
    head_is (view c.args.cfg.now) c.args.out.now c.put_bytes.new.out c.put_bytes-2.new.out c.put_u8.new.out c.put_config.new.out c.told-out
    c.put_config.ensures.spelled c.put_bytes.ensures c.put_bytes-2.ensures c.put_u8.ensures
    )

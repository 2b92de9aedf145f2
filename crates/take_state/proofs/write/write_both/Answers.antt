use Rattle.std.proofs.Common.{Ok}
use Rattle.std.proofs.lemmas.Result.{err_from_is_err_and}
use Rattle.take_disk.specs.declared.area.Area.TheVariants.{Essence}
use Rattle.take_state.proofs.WriteLemmas.{wrote_first, wrote_both}
use Rattle.take_state.proofs.write.write_both.Goals as goal

pub returns-in_err-write_at-clause-wrote : goal.returns-in_err-write_at-clause-wrote
returns-in_err-write_at-clause-wrote g c =
    let p = err_from_is_err_and c.from_residual.result c.from_residual.ensures.1 in
    rw p.1 (wrote_first g.D.TakeDisk Essence c.args.at c.args.first.now c.args.second.now c.args.disk.now c.write_at.new.disk _ c.in_err-write_at.ensures.wrote)

pub returns-clause-wrote : goal.returns-clause-wrote
returns-clause-wrote g c =
    wrote_both g.D.TakeDisk Essence c.args.at c.args.first.now c.args.second.now c.args.disk.now c.write_at.new.disk c.write_at-2.new.disk
    c.in_ok-write_at.field-0 c.write_at-2.result g.met.D.TakeDisk.long c.requires.inside c.in_ok-write_at.ensures.wrote c.write_at-2.ensures.wrote

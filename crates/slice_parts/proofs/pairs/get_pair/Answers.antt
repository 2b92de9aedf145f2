use Rattle.std.proofs.Common.{◌<◌, arith, rules, w64, FitsSigned}
use Rattle.std.proofs.lemmas.Int.{to_z-of_z}
use Rattle.std.proofs.lemmas.Result.{err_from_is_err_and}
use Rattle.slice_parts.proofs.HeadLemmas.{pair_reads, no_level}
use Rattle.slice_parts.proofs.pairs.get_pair.Goals as goal

pub returns-in_err-level-clause-refused : goal.returns-in_err-level-clause-refused
returns-in_err-level-clause-refused c =
    let p = err_from_is_err_and c.from_residual-in_err-level.result c.from_residual-in_err-level.ensures.1 in
    let inside : c.in_ok-run.run'.run < c.args.free = omega (arith, c.if-run-free.false) in
    rw (p.1, p.2) (no_level c.args.run c.args.size_less_one c.args.free c.args.bits.now c.read_run.new.bits c.in_ok-run.run'.run c.in_err-level.field-0.0 c.in_ok-run.ensures.read inside c.in_err-level.ensures.refused)

pub returns-clause-read : goal.returns-clause-read
returns-clause-read c =
    let fits : FitsSigned w64 c.in_ok-level.level.level = search rules in
    simp to_z-of_z (pair_reads c.args.run c.args.size_less_one c.args.bits.now c.read_run.new.bits c.read_level.new.bits c.in_ok-run.run'.run c.in_ok-level.level.level
    c.in_ok-run.ensures.read c.in_ok-level.ensures.read)

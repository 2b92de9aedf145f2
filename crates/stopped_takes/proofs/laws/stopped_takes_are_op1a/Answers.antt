use Rattle.std.proofs.Common.{ℕ, List, sym, subst, take}
use Rattle.mxf_op1a.specs.Op1a.{IsOp1a}
use Rattle.mxf_take_file.specs.Layout.{is_unit}
use Rattle.commit_sidecar.proofs.RangeLemmas.{ranged}
use Rattle.recovery.specs.Recoveries.{mark_in}
use Rattle.stopped_takes.proofs.FirstLemmas.{are_first}
use Rattle.stopped_takes.proofs.laws.stopped_takes_are_op1a.Goals as goal

pub returns-clause-recovered : goal.returns-clause-recovered
returns-clause-recovered g c = λ named seen done now is.
    let cfg = seen.config in
    let count : ℕ = (mark_in done).count in
    subst (λ (xs : List ℕ). IsOp1a xs (take count is.units)) (sym is.keeps.essence)
    (c.closed_files_are_op1a.ensures.file cfg (take count is.units) (ranged cfg is.says.is_config)
    (are_first (is_unit cfg) cfg.max_frames count is.units is.stands.are_units))

pub returns-clause-kept : goal.returns-clause-kept
returns-clause-kept g c = λ cfg units acked done now range are keeps.
    let count : ℕ = (mark_in done).count in
    subst (λ (xs : List ℕ). IsOp1a xs (take count units)) (sym keeps.essence)
    (c.closed_files_are_op1a.ensures.file cfg (take count units) range (are_first (is_unit cfg) cfg.max_frames count units are))

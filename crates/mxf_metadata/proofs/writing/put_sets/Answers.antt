use Rattle.std.proofs.Common.{arith}
use Rattle.rec_bytes.specs.Views.{view}
use Rattle.mxf_metadata.specs.Metadata.{material_sets, file_sets, sets}
use Rattle.mxf_metadata.proofs.Joins.{joined}
use Rattle.mxf_metadata.proofs.writing.put_sets.Goals as goal

pub returns-clause-written : goal.returns-clause-written
unfolding sets
returns-clause-written c =
    let step_0 = c.put_material_sets-file_at.ensures.written in
    let step_1 = c.put_file_sets.ensures.written in
    let front_1 = joined c.args.out.now c.put_material_sets-file_at.new.out c.put_file_sets.new.out c.args.at c.put_material_sets-file_at.result c.put_file_sets.result (material_sets (view c.args.cfg.now) c.args.ids.now c.args.frames) (file_sets (view c.args.cfg.now) c.args.ids.now c.args.frames) (omega arith) step_0 step_1 in
    front_1

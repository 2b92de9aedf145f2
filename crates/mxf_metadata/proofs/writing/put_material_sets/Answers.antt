use Rattle.std.proofs.Common.{ℕ, List, ◌++◌, subst, arith}
use Rattle.rec_bytes.specs.Views.{view}
use Rattle.mxf_names.specs.Identifiers.{umid}
use Rattle.mxf_metadata.specs.Metadata.{storage_sets, timecode_track, picture_track, material_sets}
use Rattle.mxf_metadata.specs.inner.Writing.{Written}
use Rattle.mxf_metadata.proofs.Joins.{joined}
use Rattle.mxf_metadata.proofs.writing.put_material_sets.Goals as goal

pub returns-clause-written : goal.returns-clause-written
unfolding material_sets
returns-clause-written c =
    let step_0 = c.put_storage_sets-timecode_at.ensures.written in
    let step_1 = c.put_timecode_track-picture_at.ensures.written in
    let front_1 = joined c.args.out.now c.put_storage_sets-timecode_at.new.out c.put_timecode_track-picture_at.new.out c.args.at c.put_storage_sets-timecode_at.result c.put_timecode_track-picture_at.result (storage_sets c.args.ids.now) (timecode_track (view c.args.cfg.now) c.args.ids.now c.args.frames 6) (omega arith) step_0 step_1 in
    let step_2 = subst (λ (source : List ℕ). Written c.put_timecode_track-picture_at.new.out c.put_timecode_track-picture_at.result (picture_track (view c.args.cfg.now) c.args.ids.now c.args.frames 9 0 source 2) c.put_picture_track.result c.put_picture_track.new.out) c.umid.ensures c.put_picture_track.ensures.written in
    let front_2 = joined c.args.out.now c.put_timecode_track-picture_at.new.out c.put_picture_track.new.out c.args.at c.put_timecode_track-picture_at.result c.put_picture_track.result ((storage_sets c.args.ids.now) ++ (timecode_track (view c.args.cfg.now) c.args.ids.now c.args.frames 6)) (picture_track (view c.args.cfg.now) c.args.ids.now c.args.frames 9 0 (umid c.args.ids.now.file) 2) (omega arith) front_1 step_2 in
    front_2

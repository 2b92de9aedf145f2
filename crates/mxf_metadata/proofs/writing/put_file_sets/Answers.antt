use Rattle.std.proofs.Common.{[], ◌∷◌, ◌++◌, arith}
use Rattle.rec_bytes.specs.Views.{view}
use Rattle.mxf_metadata.specs.Metadata.{metadata_set, timecode_track, picture_track, file_sets}
use Rattle.mxf_metadata.specs.Sets.{file_package, descriptor}
use Rattle.mxf_metadata.specs.declared.labels.TheConstants.{NO_SOURCE}
use Rattle.mxf_metadata.specs.declared.labels.TheConstants.{DESCRIPTOR_SET, FILE_SET}
use Rattle.mxf_names.specs.declared.keys.TheConstants.{PICTURE_TRACK_NUMBER}
use Rattle.mxf_metadata.proofs.Joins.{joined, known}
use Rattle.mxf_metadata.proofs.writing.put_file_sets.Goals as goal

pub returns-clause-written : goal.returns-clause-written
unfolding file_sets
returns-clause-written c =
    let step_0 = known c.args.out.now c.put_one-timecode_at.new.out c.args.at c.put_one-timecode_at.result FILE_SET c.file_package.result (file_package c.args.ids.now) c.file_package.ensures.is c.put_one-timecode_at.ensures.written in
    let step_1 = c.put_timecode_track-picture_at.ensures.written in
    let front_1 = joined c.args.out.now c.put_one-timecode_at.new.out c.put_timecode_track-picture_at.new.out c.args.at c.put_one-timecode_at.result c.put_timecode_track-picture_at.result (metadata_set FILE_SET (file_package c.args.ids.now) ∷ []) (timecode_track (view c.args.cfg.now) c.args.ids.now c.args.frames 13) (omega arith) step_0 step_1 in
    let step_2 = c.put_picture_track-descriptor_at.ensures.written in
    let front_2 = joined c.args.out.now c.put_timecode_track-picture_at.new.out c.put_picture_track-descriptor_at.new.out c.args.at c.put_timecode_track-picture_at.result c.put_picture_track-descriptor_at.result ((metadata_set FILE_SET (file_package c.args.ids.now) ∷ []) ++ (timecode_track (view c.args.cfg.now) c.args.ids.now c.args.frames 13)) (picture_track (view c.args.cfg.now) c.args.ids.now c.args.frames 16 PICTURE_TRACK_NUMBER NO_SOURCE 0) (omega arith) front_1 step_2 in
    let step_3 = known c.put_picture_track-descriptor_at.new.out c.put_one.new.out c.put_picture_track-descriptor_at.result c.put_one.result DESCRIPTOR_SET c.descriptor.result (descriptor (view c.args.cfg.now) c.args.ids.now c.args.frames) c.descriptor.ensures.is c.put_one.ensures.written in
    let front_3 = joined c.args.out.now c.put_picture_track-descriptor_at.new.out c.put_one.new.out c.args.at c.put_picture_track-descriptor_at.result c.put_one.result (((metadata_set FILE_SET (file_package c.args.ids.now) ∷ []) ++ (timecode_track (view c.args.cfg.now) c.args.ids.now c.args.frames 13)) ++ (picture_track (view c.args.cfg.now) c.args.ids.now c.args.frames 16 PICTURE_TRACK_NUMBER NO_SOURCE 0)) (metadata_set DESCRIPTOR_SET (descriptor (view c.args.cfg.now) c.args.ids.now c.args.frames) ∷ []) (omega arith) front_2 step_3 in
    front_3

use Rattle.std.proofs.Common.{◌+◌, [], ◌∷◌, ◌++◌, arith}
use Rattle.rec_bytes.specs.Views.{view}
use Rattle.mxf_metadata.specs.Metadata.{metadata_set, timecode_track}
use Rattle.mxf_metadata.specs.Sets.{track, sequence, timecode}
use Rattle.mxf_metadata.specs.declared.labels.TheConstants.{SEQUENCE_SET, TIMECODE_KIND, TIMECODE_SET, TRACK_SET}
use Rattle.mxf_metadata.proofs.Joins.{joined, known}
use Rattle.mxf_metadata.proofs.writing.put_timecode_track.Goals as goal

pub returns-clause-written : goal.returns-clause-written
unfolding timecode_track
returns-clause-written c =
    let step_0 = known c.args.out.now c.put_one-second.new.out c.args.at c.put_one-second.result TRACK_SET c.track.result (track (view c.args.cfg.now) c.args.ids.now c.args.number 1 0) c.track.ensures.is c.put_one-second.ensures.written in
    let step_1 = known c.put_one-second.new.out c.put_one-third.new.out c.put_one-second.result c.put_one-third.result SEQUENCE_SET c.sequence.result (sequence c.args.ids.now (c.args.number + 1) TIMECODE_KIND c.args.frames) c.sequence.ensures.is c.put_one-third.ensures.written in
    let front_1 = joined c.args.out.now c.put_one-second.new.out c.put_one-third.new.out c.args.at c.put_one-second.result c.put_one-third.result (metadata_set TRACK_SET (track (view c.args.cfg.now) c.args.ids.now c.args.number 1 0) ∷ []) (metadata_set SEQUENCE_SET (sequence c.args.ids.now (c.args.number + 1) TIMECODE_KIND c.args.frames) ∷ []) (omega arith) step_0 step_1 in
    let step_2 = known c.put_one-third.new.out c.put_one.new.out c.put_one-third.result c.put_one.result TIMECODE_SET c.timecode.result (timecode (view c.args.cfg.now) c.args.ids.now (c.args.number + 2) c.args.frames) c.timecode.ensures.is c.put_one.ensures.written in
    let front_2 = joined c.args.out.now c.put_one-third.new.out c.put_one.new.out c.args.at c.put_one-third.result c.put_one.result ((metadata_set TRACK_SET (track (view c.args.cfg.now) c.args.ids.now c.args.number 1 0) ∷ []) ++ (metadata_set SEQUENCE_SET (sequence c.args.ids.now (c.args.number + 1) TIMECODE_KIND c.args.frames) ∷ [])) (metadata_set TIMECODE_SET (timecode (view c.args.cfg.now) c.args.ids.now (c.args.number + 2) c.args.frames) ∷ []) (omega arith) front_1 step_2 in
    front_2

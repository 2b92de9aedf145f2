use Rattle.std.proofs.Common.{◌≡◌, ◌≤◌, ◌-◌, length}
use Rattle.picture_plane.specs.Sizes.{size_of}
use Rattle.raw_feed.specs.declared.head.TheConstants.{FEED_HEAD_LEN}
use Rattle.raw_feed.specs.declared.kind.Kind.TheVariants.{Pictures}
use Rattle.raw_feed.specs.declared.stage.Stage.TheVariants.{Open}
use Rattle.raw_feed.specs.Reading.{IfTold}
use Rattle.ingest_run.specs.Paces.{IsEncoded}
use Rattle.ingest_run.proofs.ExitLemmas.{Passed}
use Rattle.ingest_run.proofs.encode.encode_pictures.Given as goal

-- the growing file of the frames of the pictures so far was written, and nothing failed
abbrev pub invariant-pictures : goal.invariant-pictures
invariant-pictures g l = record {
  opened : l.reader.stage ≡ Open;
  kind : l.reader.kind ≡ Pictures;
  most : l.reader.count ≤ l.reader.config.max_frames;
  behind : FEED_HEAD_LEN ≤ l.reader.at;
  size : l.picture.size ≡ size_of l.reader.config;
  coding : l.encoder.config ≡ l.reader.config;
  config : l.file.config ≡ l.reader.config;
  counted : length l.file.places ≡ l.reader.count;
  passed : IfTold (g.S.Source.told l.fn.feed) (g.S.Source.told l.feed)
      (λ before. Passed g.L.TakeLayout IsEncoded l.reader l.file.places before (g.S.Source.told l.feed) (g.W.Sink.written l.fn.out) (g.W.Sink.written l.out));
  source : g.S.Source.fault_count l.feed ≡ g.S.Source.fault_count l.fn.feed;
  sink : g.W.Sink.fault_count l.out ≡ g.W.Sink.fault_count l.fn.out;
}

abbrev pub decreases-pictures : goal.decreases-pictures
decreases-pictures g l = l.reader.config.max_frames - l.reader.count

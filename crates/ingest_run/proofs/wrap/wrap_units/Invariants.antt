use Rattle.std.proofs.Common.{◌≡◌, ◌≤◌, ◌-◌, length}
use Rattle.raw_feed.specs.declared.head.TheConstants.{FEED_HEAD_LEN}
use Rattle.raw_feed.specs.declared.kind.Kind.TheVariants.{Units}
use Rattle.raw_feed.specs.declared.stage.Stage.TheVariants.{Open}
use Rattle.raw_feed.specs.Reading.{IfTold}
use Rattle.ingest_run.specs.Paces.{IsPassedOn}
use Rattle.ingest_run.proofs.ExitLemmas.{Passed}
use Rattle.ingest_run.proofs.wrap.wrap_units.Given as goal

-- the growing file of the units so far was written, and nothing failed
abbrev pub invariant-units : goal.invariant-units
invariant-units g l = record {
  opened : l.reader.stage ≡ Open;
  kind : l.reader.kind ≡ Units;
  most : l.reader.count ≤ l.reader.config.max_frames;
  behind : FEED_HEAD_LEN ≤ l.reader.at;
  config : l.file.config ≡ l.reader.config;
  counted : length l.file.places ≡ l.reader.count;
  passed : IfTold (g.S.Source.told l.fn.feed) (g.S.Source.told l.feed)
      (λ before. Passed g.L.TakeLayout IsPassedOn l.reader l.file.places before (g.S.Source.told l.feed) (g.W.Sink.written l.fn.out) (g.W.Sink.written l.out));
  source : g.S.Source.fault_count l.feed ≡ g.S.Source.fault_count l.fn.feed;
  sink : g.W.Sink.fault_count l.out ≡ g.W.Sink.fault_count l.fn.out;
}

abbrev pub decreases-units : goal.decreases-units
decreases-units g l = l.reader.config.max_frames - l.reader.count

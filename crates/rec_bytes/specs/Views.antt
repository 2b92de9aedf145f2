-- A configuration as its fields.
use Rattle.rec_bytes.specs.Configuration.{Fields}
use Rattle.rec_bytes.specs.declared.config.Config.{Config}

-- the fields of a configuration
abbrev pub view : Config → Fields
view cfg = record {
  width = cfg.width;
  height = cfg.height;
  interlace = cfg.interlace;
  rate = cfg.rate;
  aspect = cfg.aspect;
  primaries = cfg.primaries;
  transfer = cfg.transfer;
  matrix = cfg.matrix;
  log2 = cfg.log2;
  qmin = cfg.qmin;
  qmax = cfg.qmax;
  weights = cfg.weights;
  coding = cfg.coding;
  drop = cfg.drop;
  budget = cfg.budget;
  part = cfg.part;
  max_frames = cfg.max_frames;
  lag = cfg.lag;
  start = cfg.start;
  take_id = cfg.take_id;
  encoder = cfg.encoder;
}

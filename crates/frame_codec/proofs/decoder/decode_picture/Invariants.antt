use Rattle.frame_codec.specs.Frames.{number_of}
use Rattle.frame_codec.specs.inner.Decoding.{IsReached}
use Rattle.frame_codec.proofs.decoder.decode_picture.Given as goal

abbrev pub invariant-loop-n : goal.invariant-loop-n
invariant-loop-n g l = record {
  reached : IsReached l.bytes l.parts l.slices (g.S.SampleSource.setup l.source) l.out (number_of l.parts l.picture l.n);
  held : g.S.SampleSource.holds l.source l.bytes;
}

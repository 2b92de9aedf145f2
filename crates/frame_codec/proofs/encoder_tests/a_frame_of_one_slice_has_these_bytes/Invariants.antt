use Rattle.std.proofs.Common.{◌≡◌}
use Rattle.rec_bytes.specs.Views.{view}
use Rattle.frame_codec.proofs.encoder_tests.a_frame_of_one_slice_has_these_bytes.Given as goal

abbrev pub invariant-loop-value : goal.invariant-loop-value
invariant-loop-value g l = l.encoder.config ≡ view l.cfg

use Rattle.std.proofs.Common.{◌≡◌}
use Rattle.rec_bytes.specs.Views.{view}
use Rattle.slice_workers.proofs.tests.an_encoder_serves_for_many_pictures.Given as goal

abbrev pub invariant-loop-seed : goal.invariant-loop-seed
invariant-loop-seed g l = l.encoder.config ≡ view l.cfg

use Rattle.std.proofs.Common.{◌≡◌, true, refl}
use Rattle.clap.specs.Words.{is_simple_and_free}
use Rattle.clap.proofs.OnLiterals.{clap_on_literals}
use Rattle.ingest_run.specs.Words.{recover}

is_simple_command : is_simple_and_free recover ≡ true
unfolding clap_on_literals
is_simple_command = refl

use Rattle.std.proofs.Common.{codes, sym}
use Rattle.ingest_run.proofs.PathLemmas.{call_none}
use Rattle.ingest_run.proofs.paths.read_paths.Goals as goal

pub returns-in_default : goal.returns-in_default
returns-in_default c = sym (call_none (codes "--dir") c.args.words.now c.in_default.ensures.cases)

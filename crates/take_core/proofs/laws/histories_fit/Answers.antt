use Rattle.take_core.proofs.HistoryLemmas.{growing-len}
use Rattle.take_core.proofs.laws.histories_fit.Goals as goal

pub returns : goal.returns
returns c = λ lag max_frames history legal grows. growing-len lag max_frames history legal grows

use Rattle.commit_sidecar.specs.laws.Windows.{window_looks, window_head, window_no_take}
use Rattle.commit_sidecar.proofs.laws.first_bytes_decide.Goals as goal

pub returns : goal.returns
returns c = record { looks = window_looks; head = window_head; no_take = window_no_take }

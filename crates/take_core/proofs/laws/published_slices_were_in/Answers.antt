use Rattle.std.proofs.Common.{List, [], inl, inr, arith}
use Rattle.take_core.specs.Runs.{Turn, IsRun}
use Rattle.take_core.specs.States.{CoreState, fresh, published}
use Rattle.take_core.proofs.TakenLemmas.{AreTaken, runs-taken}
use Rattle.rec_bytes.specs.Configuration.{Fields}
use Rattle.take_core.proofs.laws.published_slices_were_in.Goals as goal

-- nothing is in when a take begins
taken-fresh : (cfg : Fields) → AreTaken [] (fresh cfg)
taken-fresh cfg = record { now = λ frame index is. cc; before = λ frame index less few. absurd (omega arith) }

-- along a run
taken : (cfg : Fields) (turns : List Turn) (last : CoreState) → IsRun cfg turns last → AreTaken turns last
taken cfg turns last run = runs-taken [] turns (fresh cfg) last run (taken-fresh cfg)

pub returns : goal.returns
returns c = record {
  at_publish = λ cfg turns state new len index run steps few. elim steps [
    | inl happens ↦ (taken cfg turns state run).now (published state) index (happens.does.whole index few)
    | inr refused ↦ let told = refused.told in cc
  ];
  published = λ cfg turns last frame index run less few. (taken cfg turns last run).before frame index less few;
}

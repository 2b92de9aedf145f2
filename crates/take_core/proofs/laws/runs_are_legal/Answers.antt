use Rattle.std.proofs.Common.{ℕ, subst}
use Rattle.take_core.specs.History.{IsLegal}
use Rattle.take_core.specs.States.{fresh}
use Rattle.take_core.proofs.SoundLemmas.{sound-fresh, sound-runs, same-runs}
use Rattle.take_core.proofs.laws.runs_are_legal.Goals as goal

pub returns : goal.returns
returns c = λ cfg turns last run.
    let sound = sound-runs turns (fresh cfg) last run (sound-fresh cfg) in
    let same = same-runs turns (fresh cfg) last run in
    subst (λ (n : ℕ). IsLegal n cfg.max_frames last.history) same.lag
    (subst (λ (n : ℕ). IsLegal last.lag n last.history) same.max_frames sound.legal)

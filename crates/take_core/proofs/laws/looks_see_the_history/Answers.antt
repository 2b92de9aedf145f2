use Rattle.std.proofs.Common.{◌∷◌, ◌++◌}
use Rattle.take_core.specs.Runs.{look}
use Rattle.take_core.specs.States.{fresh}
use Rattle.take_core.proofs.SeenLemmas.{looks-latest, runs-seen, runs-append, looks-rise}
use Rattle.take_core.proofs.laws.looks_see_the_history.Goals as goal

pub returns : goal.returns
returns c = record {
  at_look = λ state new reader answer steps. looks-latest state new reader answer steps;
  first_entries = λ cfg turns last reader seen run among.
      let shown = runs-seen turns (fresh cfg) last reader seen run among in (shown.few, shown.shown);
  rising = λ cfg before between behind last one other sooner later run.
      let parts = runs-append before (look one sooner ∷ (between ++ look other later ∷ behind)) (fresh cfg) last run in
      looks-rise between behind parts.0 last one other sooner later parts.2;
}

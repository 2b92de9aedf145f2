use Rattle.take_disk.specs.declared.area.Area.TheVariants.{Commits}
use Rattle.commit_phases.specs.laws.Runs.{all_long}
use Rattle.commit_phases.specs.laws.Told.{two}
use Rattle.recovery.proofs.WindowLemmas.{window_sees}
use Rattle.recovery.proofs.window.Window.look.Goals as goal

pub returns-clause-sees : goal.returns-clause-sees
returns-clause-sees g c =
    let d = g.D.TakeDisk in let first = c.args.disk.now in
    two (d.told first) _ _ _ (all_long d g.met.D.TakeDisk.long first Commits) c.in_ok-reach.ensures.shows
    (λ told long shows. window_sees c.reach.new.self (d.length_of first Commits) c.args.at c.reach.new.bytes told.commits.reads c.args.last c.look_at.result
    c.first_bytes_decide.ensures.looks long c.in_ok-reach.ensures.reached shows c.look_at.ensures)

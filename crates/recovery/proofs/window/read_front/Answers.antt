use Rattle.std.proofs.Common.{take, refl, sym, ap, ◌∙◌, ℕ}
use Rattle.rec_bytes.specs.Views.{view}
use Rattle.take_disk.specs.declared.area.Area.TheVariants.{Commits}
use Rattle.commit_phases.specs.laws.Runs.{all_long}
use Rattle.commit_phases.specs.laws.Told.{two, on_ok}
use Rattle.recovery.proofs.WindowLemmas.{head_within, front_refused}
use Rattle.recovery.proofs.window.read_front.Goals as goal

pub returns-in-Ok-clause-inside : goal.returns-in-Ok-clause-inside
returns-in-Ok-clause-inside g c =
    head_within c.read.new.out (view c.in-Ok.config) (g.D.TakeDisk.length_of c.args.disk.now Commits) c.in-Ok.ensures.head (c.read.auto.out ∙ c.requires.room)

pub returns-in-Err-clause-refused : goal.returns-in-Err-clause-refused
returns-in-Err-clause-refused g c =
    let d = g.D.TakeDisk in let first = c.args.disk.now in
    two (d.told first) _ _ _ (all_long d g.met.D.TakeDisk.long first Commits)
    (on_ok c.read.result _ c.read.ensures.read (sym c.is_err.ensures.value ∙ c.if-is_err.false))
    (λ told long read. (
      front_refused c.read.new.out told.commits.reads (d.length_of first Commits) c.in-Err.at
          c.first_bytes_decide.ensures.no_take long (c.read.auto.out ∙ c.requires.room)
          (read ∙ ap (λ (n : ℕ). take n told.commits.reads) c.requires.room) c.in-Err.ensures.refused,
      refl,
    ))

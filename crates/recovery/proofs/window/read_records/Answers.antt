use Rattle.std.proofs.Common.{◌+◌, ℕ, drop, sym, subst, ◌∙◌, Some}
use Rattle.rec_bytes.specs.Views.{view}
use Rattle.take_disk.specs.Calls.{IfTold}
use Rattle.take_disk.specs.declared.area.Area.TheVariants.{Commits}
use Rattle.take_disk.specs.laws.TimeLaws.{elapsed_more}
use Rattle.commit_phases.specs.laws.Told.{two, same_told}
use Rattle.commit_sidecar.specs.Looks.{Sees}
use Rattle.commit_sidecar.specs.declared.looks.Look.{Look}
use Rattle.essence_walk.specs.laws.Rests.{rests_more}
use Rattle.recovery.specs.inner.Windows.{HasPlace, HasReadTo, SaysUpTo, SeesWithin}
use Rattle.recovery.proofs.WindowLemmas.{says_shut, read_on, breaks_at}
use Rattle.recovery.proofs.window.read_records.Goals as goal

pub returns-in-Ok-Shut-clause-says : goal.returns-in-Ok-Shut-clause-says
returns-in-Ok-Shut-clause-says g c =
    let T = g.D.TakeDisk.told in let i = c.records.invariant in let at = c.records.gate in let last = c.records.mark in
    let sees = subst (λ (look : Look). IfTold (T c.records.disk)
    (λ told. Sees last (drop at told.commits.reads) look)) c.in-Ok-Shut.field-0-is c.in-Ok-Shut.ensures.sees in
    two (T c.args.disk.now) _ _ (λ told. SaysUpTo told.commits.reads (record { config = c.args.config; gate = at; mark = last })) i.read
    (same_told (T c.records.disk) (T c.args.disk.now) _ (sym i.stays.same) sees)
    (λ told read sees. says_shut told.commits.reads c.args.config at last read sees)

pub returns-in-Ok-Broken-clause-refused : goal.returns-in-Ok-Broken-clause-refused
returns-in-Ok-Broken-clause-refused g c =
    let T = g.D.TakeDisk.told in let i = c.records.invariant in let at = c.records.gate in let last = c.records.mark in
    let sees = subst (λ (look : Look). IfTold (T c.records.disk)
    (λ told. Sees last (drop at told.commits.reads) look)) c.in-Ok-Broken.field-0-is c.in-Ok-Broken.ensures.sees in
    two (T c.args.disk.now) _ _ _ i.read
    (same_told (T c.records.disk) (T c.args.disk.now) _ (sym i.stays.same) sees)
    (λ told read sees. breaks_at told.commits.reads (view c.args.config) at last read sees)

pub records-preserved : goal.records-preserved
records-preserved g c =
    let d = g.D.TakeDisk in let T = g.D.TakeDisk.told in let i = c.records.invariant in let at = c.records.gate in let last = c.records.mark in
    let next = c.in-Ok-Open.next in let first = c.args.disk.now in let old = c.records.disk in let new = c.look.new.disk in let new_window = c.look.new.self in
    let sees = subst (λ (look : Look). IfTold (T old)
    (λ told. Sees last (drop at told.commits.reads) look)) c.in-Ok-Open.field-0-is c.in-Ok-Open.ensures.sees in
    record {
      read = two (T first) _ _ (λ told. HasReadTo told.commits.reads (view c.args.config) (at + 18) (Some next)) i.read
          (same_told (T old) (T first) _ (sym i.stays.same) sees)
          (λ told read sees. read_on told.commits.reads (view c.args.config) at last next read sees);
      long = c.look.auto.bytes ∙ i.long;
      place = subst (λ (len : ℕ). HasPlace new_window len (at + 18)) (i.stays.lengths Commits)
          (subst (λ (look : Look). SeesWithin new_window (d.length_of old Commits) at look) c.in-Ok-Open.field-0-is c.in-Ok-Open.ensures.within);
      shows = same_told (T old) (T first) _ (sym i.stays.same) c.in-Ok-Open.ensures.shows;
      stays = record {
        same = c.in-Ok-Open.ensures.stays.same ∙ i.stays.same;
        lengths = λ area. c.in-Ok-Open.ensures.stays.lengths area ∙ i.stays.lengths area;
      };
      rests = rests_more d first old new i.stays.same i.time.later i.rests c.in-Ok-Open.ensures.rests;
      time = elapsed_more _ _ _ _ _ _ _ _ _ i.time c.in-Ok-Open.ensures.time;
      count = c.in-Ok-Open.ensures.cause.kept ∙ i.count;
    }

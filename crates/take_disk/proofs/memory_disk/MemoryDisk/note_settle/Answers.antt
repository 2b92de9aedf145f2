use Rattle.std.proofs.Common.{◌+◌, ℕ, refl, sym, ◌∙◌, subst, arith}
use Rattle.take_disk.specs.declared.area.Area.{Area}
use Rattle.take_disk.specs.Logs.{Logs}
use Rattle.take_disk.specs.Recorded.{logs_of}
use Rattle.take_disk.specs.Entered.{log_of, Settles, SettlesIn}
use Rattle.take_disk.proofs.DiskNumbers.{AreRight, settled_essence, settled_commits, same_pieces}
use Rattle.take_disk.proofs.memory_disk.MemoryDisk.note_settle.Goals as goal

pub invariant_of-self : goal.invariant_of-self
invariant_of-self c =
    let s = c.args.self.now in
    let n = c.settle.new.self in
    let old : AreRight (log_of s.essence) (log_of s.commits) s.tickets s.number =
    record {
      recorded = s.recorded;
      essence = record { latest = s.essence_past; synced = s.essence_synced };
      commits = record { latest = s.commits_past; synced = s.commits_synced };
    } in
    let settles = subst (λ (m : ℕ). Settles (m + 1) c.args.upto (log_of s.essence) (log_of n)) c.moment-moment.ensures.now c.settle.ensures.log in
    let right = settled_essence (log_of s.essence) (log_of s.commits) (log_of n) s.tickets s.number c.args.upto old c.requires.past settles in
    let pieces = same_pieces _ c.args.upto (log_of s.essence) (log_of n) settles in
    record {
      same_room = s.same_room ∙ sym c.settle.ensures.limits.0;
      same_calls = s.same_calls ∙ sym c.settle.ensures.limits.1;
      few_calls = omega (arith, s.few_calls, c.settle.ensures.limits.1);
      few_tickets = s.few_tickets;
      piece_room = omega (arith, pieces, s.piece_room, c.settle.ensures.limits.0);
      recorded = right.recorded;
      essence_past = right.essence.latest;
      commits_past = right.commits.latest;
      essence_synced = right.essence.synced;
      commits_synced = right.commits.synced;
    }

pub returns-in-Essence-clause-logs : goal.returns-in-Essence-clause-logs
returns-in-Essence-clause-logs c =
    let s = c.args.self.now in
    let n = c.settle.new.self in
    let settles = subst (λ (m : ℕ). Settles (m + 1) c.args.upto (log_of s.essence) (log_of n)) c.moment-moment.ensures.now c.settle.ensures.log in
    let new : Logs = record (logs_of s) { essence = log_of n } in
    subst (λ (a : Area). SettlesIn a c.args.upto (logs_of s) new) (sym c.in-Essence.is) (record { log = log_of n; settles = settles; is = refl })

pub invariant_of-self-in-Commits : goal.invariant_of-self-in-Commits
invariant_of-self-in-Commits c =
    let s = c.args.self.now in
    let n = c.settle-in-Commits.new.self in
    let old : AreRight (log_of s.essence) (log_of s.commits) s.tickets s.number =
    record {
      recorded = s.recorded;
      essence = record { latest = s.essence_past; synced = s.essence_synced };
      commits = record { latest = s.commits_past; synced = s.commits_synced };
    } in
    let settles = subst (λ (m : ℕ). Settles (m + 1) c.args.upto (log_of s.commits) (log_of n)) c.moment-moment.ensures.now c.settle-in-Commits.ensures.log in
    let right = settled_commits (log_of s.essence) (log_of s.commits) (log_of n) s.tickets s.number c.args.upto old c.requires.past settles in
    let pieces = same_pieces _ c.args.upto (log_of s.commits) (log_of n) settles in
    record {
      same_room = c.settle-in-Commits.ensures.limits.0 ∙ s.same_room;
      same_calls = c.settle-in-Commits.ensures.limits.1 ∙ s.same_calls;
      few_calls = omega (arith, s.few_calls, c.settle-in-Commits.ensures.limits.1);
      few_tickets = s.few_tickets;
      piece_room = omega (arith, pieces, s.piece_room, c.settle-in-Commits.ensures.limits.0);
      recorded = right.recorded;
      essence_past = right.essence.latest;
      commits_past = right.commits.latest;
      essence_synced = right.essence.synced;
      commits_synced = right.commits.synced;
    }

pub returns-in-Commits-clause-logs : goal.returns-in-Commits-clause-logs
returns-in-Commits-clause-logs c =
    let s = c.args.self.now in
    let n = c.settle-in-Commits.new.self in
    let settles = subst (λ (m : ℕ). Settles (m + 1) c.args.upto (log_of s.commits) (log_of n)) c.moment-moment.ensures.now c.settle-in-Commits.ensures.log in
    let new : Logs = record (logs_of s) { commits = log_of n } in
    subst (λ (a : Area). SettlesIn a c.args.upto (logs_of s) new) (sym c.in-Commits.is) (record { log = log_of n; settles = settles; is = refl })

use Rattle.std.proofs.Common.{◌≡◌, ◌<◌, ◌+◌, ℕ, length, refl, sym, ◌∙◌, ap, arith}
use Rattle.take_disk.specs.declared.entry.Deed.TheVariants.{Fail}
use Rattle.take_disk.specs.Logs.{Log}
use Rattle.take_disk.specs.Entered.{log_of}
use Rattle.take_disk.proofs.DiskNumbers.{AreRight, IsOneMore, right_essence, right_commits}
use Rattle.take_disk.proofs.memory_disk.MemoryDisk.note_failure.Goals as goal

pub invariant_of-self-in-Essence : goal.invariant_of-self-in-Essence
invariant_of-self-in-Essence c =
    let s = c.args.self.now in
    let n = c.fail.new.self in
    let now : ℕ = length s.essence.entries.items + length s.commits.entries.items + s.tickets in
    let old : AreRight (log_of s.essence) (log_of s.commits) s.tickets s.number =
    record {
      recorded = s.recorded;
      essence = record { latest = s.essence_past; synced = s.essence_synced };
      commits = record { latest = s.commits_past; synced = s.commits_synced };
    } in
    let moment : c.moment-moment.result ≡ now = c.moment-moment.ensures.now in
    let more : IsOneMore now (log_of s.essence) (log_of n) = record {
      entry = record { moment = c.moment-moment.result + 1; deed = Fail c.args.from c.args.to };
      entries = ap (λ (l : Log). l.entries) c.fail.ensures.log;
      moment = omega (arith, moment);
      change = refl;
      synced = ap (λ (l : Log). l.synced) c.fail.ensures.log;
    } in
    let calls : s.number < s.essence.calls = omega (arith, c.if-call-self.false) in
    let right = right_essence (log_of s.essence) (log_of s.commits) (log_of n) s.tickets s.number c.saturating_add-self.result old more
    (omega (arith, calls, s.few_calls, c.saturating_add-self.ensures)) in
    let pieces : length n.pieces.items ≡ length s.essence.pieces.items = ap (λ (l : Log). length l.pieces) c.fail.ensures.log in
    record {
      same_room = s.same_room ∙ sym c.fail.ensures.limits.0;
      same_calls = s.same_calls ∙ sym c.fail.ensures.limits.1;
      few_calls = omega (arith, s.few_calls, c.fail.ensures.limits.1);
      few_tickets = s.few_tickets;
      piece_room = omega (arith, pieces, s.piece_room, c.fail.ensures.limits.0);
      recorded = right.recorded;
      essence_past = right.essence.latest;
      commits_past = right.commits.latest;
      essence_synced = right.essence.synced;
      commits_synced = right.commits.synced;
    }

pub invariant_of-self-in-Commits : goal.invariant_of-self-in-Commits
invariant_of-self-in-Commits c =
    let s = c.args.self.now in
    let n = c.fail-in-Commits.new.self in
    let now : ℕ = length s.essence.entries.items + length s.commits.entries.items + s.tickets in
    let old : AreRight (log_of s.essence) (log_of s.commits) s.tickets s.number =
    record {
      recorded = s.recorded;
      essence = record { latest = s.essence_past; synced = s.essence_synced };
      commits = record { latest = s.commits_past; synced = s.commits_synced };
    } in
    let moment : c.moment-moment.result ≡ now = c.moment-moment.ensures.now in
    let more : IsOneMore now (log_of s.commits) (log_of n) = record {
      entry = record { moment = c.moment-moment.result + 1; deed = Fail c.args.from c.args.to };
      entries = ap (λ (l : Log). l.entries) c.fail-in-Commits.ensures.log;
      moment = omega (arith, moment);
      change = refl;
      synced = ap (λ (l : Log). l.synced) c.fail-in-Commits.ensures.log;
    } in
    let calls : s.number < s.essence.calls = omega (arith, c.if-call-self.false) in
    let right = right_commits (log_of s.essence) (log_of s.commits) (log_of n) s.tickets s.number c.saturating_add-self.result old more
    (omega (arith, calls, s.few_calls, c.saturating_add-self.ensures)) in
    let pieces : length n.pieces.items ≡ length s.commits.pieces.items = ap (λ (l : Log). length l.pieces) c.fail-in-Commits.ensures.log in
    record {
      same_room = c.fail-in-Commits.ensures.limits.0 ∙ s.same_room;
      same_calls = c.fail-in-Commits.ensures.limits.1 ∙ s.same_calls;
      few_calls = omega (arith, s.few_calls, c.fail-in-Commits.ensures.limits.1);
      few_tickets = s.few_tickets;
      piece_room = omega (arith, pieces, s.piece_room, c.fail-in-Commits.ensures.limits.0);
      recorded = right.recorded;
      essence_past = right.essence.latest;
      commits_past = right.commits.latest;
      essence_synced = right.essence.synced;
      commits_synced = right.commits.synced;
    }

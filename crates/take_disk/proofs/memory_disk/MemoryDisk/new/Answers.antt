use Rattle.std.proofs.Common.{◌≡◌, ℕ, List, length, sym, ◌∙◌, ap, arith}
use Rattle.take_disk.proofs.LogLemmas.{fresh_counts, fresh_latest}
use Rattle.take_disk.proofs.memory_disk.MemoryDisk.new.Goals as goal

pub invariant_of-result : goal.invariant_of-result
invariant_of-result c =
    let a = c.in_ok-new in let b = c.in_ok-new-2 in
    let e = a.field-0.entries.items in let f = b.field-0.entries.items in
    let ce = fresh_counts e a.ensures.empty.0 in let cf = fresh_counts f b.ensures.empty.0 in
    let le = fresh_latest e a.ensures.empty.0 in let lf = fresh_latest f b.ensures.empty.0 in
    let pe : length a.field-0.pieces.items ≡ 0 = ap (λ (l : List ℕ). length l) a.ensures.empty.1 in
    let pf : length b.field-0.pieces.items ≡ 0 = ap (λ (l : List ℕ). length l) b.ensures.empty.1 in
    record {
      same_room = b.ensures.limits.0 ∙ sym a.ensures.limits.0;
      same_calls = b.ensures.limits.1 ∙ sym a.ensures.limits.1;
      few_calls = omega (arith, a.ensures.limits.1, c.if-calls-gt-MAX_CALLS.false);
      few_tickets = omega arith;
      piece_room = omega (arith, pe, pf);
      recorded = omega (arith, ce.0, cf.0);
      essence_past = omega (arith, le);
      commits_past = omega (arith, lf);
      essence_synced = omega (arith, a.ensures.empty.2);
      commits_synced = omega (arith, b.ensures.empty.2);
    }

use Rattle.std.proofs.Common.{◌-◌, ◌+◌, length, rules, arith, w16, FitsSigned, ◌∙◌}
use Rattle.std.specs.Int.RustNames.{unsigned_abs}
use Rattle.std.proofs.lemmas.Int.{to_z-of_z}
use Rattle.std.proofs.lemmas.List.{length-set}
use Rattle.slice_parts.proofs.PairLemmas.{pairs_more}
use Rattle.slice_parts.proofs.short_pairs.head_pairs.Goals.{else-loop-free-test, then-loop-free-test+in-None}
use Rattle.slice_parts.proofs.short_pairs.head_pairs.Goals as goal

pub loop-free-preserved : goal.loop-free-preserved
loop-free-preserved c =
    let l = c.loop-free in
    let found = c.in-Some.found in
    let fits : FitsSigned w16 c.in-Some.found.level = search rules in
    let one = c.in-Some.ensures.read l.last.run (unsigned_abs l.last.level - 1) l.invariant.runs l.invariant.levels in
    simp to_z-of_z (record {
      read = λ start read. pairs_more start c.loop-free.bits c.head_pair.new.bits (length c.args.out.now) l.last.run (unsigned_abs l.last.level - 1) l.at c.loop-free.out
          found.run found.level (l.invariant.read start read) one (omega (arith, c.if-found-free.false, l.invariant.long));
      runs = c.in-Some.ensures.rows.0;
      levels = c.in-Some.ensures.rows.1;
      from = omega (arith, l.invariant.from);
      to = omega (arith, c.if-found-free.false, l.invariant.long);
      long = length-set c.loop-free.out (c.loop-free.at + found.run) found.level ∙ l.invariant.long;
    })

pub returns-clause-read : goal.returns-clause-read
returns-clause-read c =
    let fits : FitsSigned w16 c.args.level = search rules in
    let read = simp to_z-of_z at c.loop-free.invariant.read in
    elim c.loop-free-test.branch [
      | else-loop-free-test w ↦ rw w.bits-is read
      | then-loop-free-test+in-None w ↦ rw (w.bits-is, w.in-None.ensures.unchanged) read
    ]

use Rattle.std.proofs.Common.{◌-◌, length, rules, w16, FitsSigned}
use Rattle.std.proofs.lemmas.Int.{to_z-of_z}
use Rattle.slice_parts.proofs.short_pairs.read_short_pairs.Goals as goal

pub returns-then-rest_is_zero-clause-read : goal.returns-then-rest_is_zero-clause-read
returns-then-rest_is_zero-clause-read c = λ yes.
    let fits : FitsSigned w16 c.loop-turn.state.last.level = search rules in
    let known = simp to_z-of_z at c.in-Some.ensures.read in
    let more = rw c.loop-turn.invariant.long at known in
    let r = more c.args.bits c.loop-turn.invariant.read in
    record {
      pairs = r.pairs;
      here = c.in-Some.next.bits;
      read = r.read;
      entries = (length c.args.out.now - c.in-Some.next.at, r.entries);
      ended = c.rest_is_zero.ensures.0 (search rules);
    }

pub loop-turn-preserved : goal.loop-turn-preserved
loop-turn-preserved c =
    let fits : FitsSigned w16 c.loop-turn.state.last.level = search rules in
    let known = simp to_z-of_z at c.in-Some.ensures.read in
    let more = rw c.loop-turn.invariant.long at known in
    let one = rw (c.in-Some.ensures.long, c.loop-turn.invariant.long) at c.in-Some-code_pair.ensures.read in
    record {
      read = one c.args.bits (more c.args.bits c.loop-turn.invariant.read);
      runs = c.in-Some-code_pair.ensures.rows.0;
      within = search rules;
      long = search rules;
      levels = c.in-Some-code_pair.ensures.rows.1;
    }

use Rattle.std.proofs.Common.{length, rules, arith, w64, FitsSigned}
use Rattle.std.proofs.lemmas.Int.{to_z-of_z}
use Rattle.slice_parts.proofs.PairLemmas.{pairs_more}
use Rattle.slice_parts.proofs.pairs.read_pairs.Goals as goal

pub loop-free-preserved : goal.loop-free-preserved
loop-free-preserved c =
    let l = c.loop-free in
    let found = c.in_ok-found.found in
    let fits : FitsSigned w64 c.in_ok-found.found.level = search rules in
    let more = pairs_more c.args.bits.now c.loop-free.bits c.get_pair.new.bits (length c.args.out.now) l.run l.size_less_one l.at l.out found.run found.level l.invariant.read c.in_ok-found.ensures.read (omega (arith, c.in_ok-found.ensures.inside, l.invariant.read.long)) in
    record { read = simp to_z-of_z (rw c.in_ok-found.ensures.size more); runs = c.in_ok-found.ensures.rows.0; levels = c.in_ok-found.ensures.rows.1 }

use Rattle.std.proofs.Common.{◌++◌, length, subst, drop, arith, length-take}
use Rattle.rec_bytes.specs.Ranges.{IsInRange}
use Rattle.rec_bytes.specs.Views.{view}
use Rattle.recovery.proofs.CloseLemmas.{tail_small}
use Rattle.recovery.proofs.close.tail_of.Goals as goal

pub returns-clause-small : goal.returns-clause-small
returns-clause-small g c = λ at at_is.
    let len = c.tail_len-len.result in
    let range = subst IsInRange c.config.ensures c.ranges-2.ensures in
    let small = tail_small g.L.TakeLayout c.lays_out.ensures c.args.file.now.config (view c.config-2.result.now) c.args.file.now.places c.places.result.now len
    c.config-2.ensures c.places.ensures.places range c.places.ensures.lie c.tail_len-len.ensures at at_is in
    omega (
      arith,
      small,
      length-take c.in-Ok.tail.len
          (c.put_tail.new.out ++ drop (length c.put_tail.new.out) c.in-Ok.tail.items),
      c.in-Ok.ensures.len,
      c.in-Ok.tail.ok,
    )

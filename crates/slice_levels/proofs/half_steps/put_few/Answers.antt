use Rattle.std.proofs.Common.{◌≢◌, ◌+◌, ◌<◌, ◌≤◌, length, ⊎_elim, below_more, get_or-set_same, get_or-set_other, arith}
use Rattle.slice_levels.proofs.half_steps.put_few.Goals as goal

pub loop-lane-preserved : goal.loop-lane-preserved
loop-lane-preserved c =
    record {
      placed = below_more _ _
          (λ j h. let other : c.args.to + j ≢ c.args.to + c.loop-lane.lane = omega arith in rw get_or-set_other (c.loop-lane.invariant.placed j h))
          (let within : c.args.to + c.loop-lane.lane < length c.loop-lane.out = omega arith in
          rw get_or-set_same (record { value = c.half_steps_from.ensures.half_steps }));
      kept = λ n apart.
          let other : n ≢ c.args.to + c.loop-lane.lane = ⊎_elim (λ (lt : n < c.args.to). omega arith) (λ (ge : c.args.to + c.args.filled ≤ n). omega arith) apart in
          rw get_or-set_other (c.loop-lane.invariant.kept n apart);
    }

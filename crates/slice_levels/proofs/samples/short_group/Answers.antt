use Rattle.std.proofs.Common.{◌-◌, ◌+◌, ◌≡◌, ℕ, pos, [], get_or, length, ap, arith, ◌∙◌, slice_index}
use Rattle.slice_levels.proofs.LaneLemmas.{inverse_of_group}
use Rattle.slice_levels.proofs.samples.short_group.Goals as goal

pub returns-clause-inverse : goal.returns-clause-inverse
returns-clause-inverse c = λ b le lt within.
    let e : c.args.first + (b - c.args.first) ≡ b = omega arith in
    inverse_of_group c.args.scan (length c.args.out.now) c.args.first b c.args.products.now c.put_group.new.lanes c.inverse_lanes.new.samples
    (get_or c.loop-lane.out b []) le lt within c.inverse_lanes.ensures.samples c.put_group.ensures
    (λ p p_lt. c.loop-lane.invariant.taken (b - c.args.first) (omega arith) p p_lt
    ∙ ap (λ (n : ℕ). pos (slice_index (get_or c.loop-lane.out n []) p)) e)

use Rattle.std.proofs.Common.{◌≡◌, ◌+◌, ◌-◌, ℕ, [], length, get_or, slice_index, subst, arith}
use Rattle.slice_levels.specs.Interleaved.{entry_of, weight_of}
use Rattle.slice_levels.specs.Coefficients.{coefficient}
use Rattle.prores_scan.specs.HalfSteps.{half_steps_of}
use Rattle.slice_levels.proofs.CoefficientLemmas.{lane_half_steps}
use Rattle.slice_levels.proofs.half_steps.group_half_steps.Goals as goal

pub returns-clause-half_steps : goal.returns-clause-half_steps
returns-clause-half_steps c = λ b k le lt within k_lt.
    let count = length c.args.blocks.now in
    let lane = b - c.args.first in
    let e : c.args.first + (b - c.args.first) ≡ b = omega arith in
    let scan = c.args.weighing.now.scan in
    subst (λ (n : ℕ). slice_index c.put_weighed.new.out (entry_of count k n) ≡ half_steps_of (coefficient scan (get_or c.args.blocks.now n []) k) (weight_of scan c.args.weighing.now.weights k)) e
    (lane_half_steps scan (get_or c.args.blocks.now (c.args.first + lane) []) c.put_blocks.new.lanes c.forward_lanes.new.sizes c.forward_lanes.new.negative lane k
    (weight_of scan c.args.weighing.now.weights k) (slice_index c.put_weighed.new.out (entry_of count k (c.args.first + lane))) k_lt (omega arith)
    c.forward_lanes.ensures.coefficients (λ q q_lt. c.put_blocks.ensures.placed lane q (omega arith) (omega arith) q_lt)
    (c.put_weighed.ensures.half_steps lane k (omega arith) (omega arith) k_lt))

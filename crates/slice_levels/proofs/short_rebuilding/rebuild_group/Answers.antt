use Rattle.std.proofs.Common.{◌-◌, ◌+◌, ◌≡◌, ◌<◌, ◌^◌, ℕ, pos, [], get_or, length, ap, sym, subst, arith, rules, ◌∙◌, slice_index}
use Rattle.std.specs.Int.RustNames.{unsigned_abs}
use Rattle.slice_levels.specs.Products.{product_at}
use Rattle.slice_levels.specs.inner.Short.{products_of}
use Rattle.slice_levels.proofs.LaneLemmas.{inverse_of_group}
use Rattle.slice_levels.proofs.ShortLemmas.{are_products_of}
use Rattle.slice_levels.proofs.short_rebuilding.rebuild_group.Goals as goal

pub returns-clause-small : goal.returns-clause-small
returns-clause-small c = λ yes b k le lt within k_lt.
    let e : c.args.first + (b - c.args.first) ≡ b = omega arith in
    subst (λ (n : ℕ). unsigned_abs (product_at c.args.scan c.args.weights.now c.args.scale (length c.args.out.now) c.args.levels.now k n) < 2 ^ 15) e
    (c.put_short_group.ensures (search rules) (b - c.args.first) k (omega arith) (omega arith) k_lt).small

pub returns-clause-inverse : goal.returns-clause-inverse
returns-clause-inverse c = λ yes b le lt within.
    let a = c.args in
    let count : ℕ = length c.args.out.now in
    let e : c.args.first + (b - c.args.first) ≡ b = omega arith in
    inverse_of_group a.scan count a.first b (products_of a.scan a.weights.now a.scale count a.levels.now) c.put_short_group.new.lanes c.inverse_lanes.new.samples
    (get_or c.loop-lane.out b []) le lt within c.inverse_lanes.ensures.samples
    (λ lane k lane_lt there k_lt. (c.put_short_group.ensures (search rules) lane k lane_lt there k_lt).put
    ∙ sym (are_products_of a.scan a.weights.now a.scale count a.levels.now (a.first + lane) k there k_lt))
    (λ p p_lt. c.loop-lane.invariant.taken (b - c.args.first) (omega (arith, c.loop-lane-test.false, c.min-lane-end.ensures)) p p_lt
    ∙ ap (λ (n : ℕ). pos (slice_index (get_or c.loop-lane.out n []) p)) e)

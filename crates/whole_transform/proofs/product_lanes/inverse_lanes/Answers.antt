use Rattle.std.proofs.Common.{◌∙◌, ◌+◌, ◌*◌, ℤ, pos, ◌*ℤ◌, ap, arith}
use Rattle.whole_transform.specs.Sums.{sum_to}
use Rattle.whole_transform.specs.Transform.{basis, inverse_sum, lane_cell, sample}
use Rattle.whole_transform.proofs.SumLemmas.{sum_ext, columns_then_rows}
use Rattle.whole_transform.proofs.Rounding.{all_lanes_in_range}
use Rattle.whole_transform.proofs.product_lanes.inverse_lanes.Goals as goal

pub returns-clause-samples : goal.returns-clause-samples
unfolding inverse_sum
returns-clause-samples c = λ b y x b_lt y_lt x_lt.
    c.lane_rows.ensures b y x b_lt y_lt x_lt
    ∙ ap (λ (z : ℤ). pos (sample z)) (sum_ext 8 (λ u. basis u x *ℤ lane_cell c.lane_columns.new.columns b y u) (λ u. basis u x *ℤ sum_to 8 (λ v. basis v y *ℤ lane_cell c.args.products.now b v u))
    (λ u lt. ap (λ (z : ℤ). basis u x *ℤ z) (c.lane_columns.ensures.sums y (8 * u + b) y_lt (omega arith)))
    ∙ columns_then_rows 8 8 (λ v. basis v y) (λ u. basis u x) (lane_cell c.args.products.now b))

pub returns-clause-range : goal.returns-clause-range
returns-clause-range c = all_lanes_in_range c.lane_rows.new.blocks
    (λ b y x. sum_to 8 (λ u. basis u x *ℤ lane_cell c.lane_columns.new.columns b y u)) c.lane_rows.ensures

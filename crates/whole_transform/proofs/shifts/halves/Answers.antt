use Rattle.std.proofs.Common.{◌≡◌, pos, ◌-ℤ◌, ◌*ℤ◌, w32, FitsSigned}
use Rattle.std.proofs.lemmas.Int.{to_z-of_z}
use Rattle.whole_transform.proofs.Rounding.{halves_of}
use Rattle.whole_transform.proofs.shifts.halves.Goals as goal

pub overflow_mul-high : goal.overflow_mul-high
overflow_mul-high c =
    let value_fits = c.ranges.value in
    let high_fits : FitsSigned w32 c.shifted_sum-high.result = record { sfits = c.shifted_sum-high.type_inv } in
    let parts = halves_of c.args.value c.shifted_sum-high.result c.requires (simp to_z-of_z at c.shifted_sum-high.ensures) in
    let product_fits = parts.product_fits in
    simp to_z-of_z product_fits

pub overflow_sub-value : goal.overflow_sub-value
overflow_sub-value c =
    let value_fits = c.ranges.value in
    let high_fits : FitsSigned w32 c.shifted_sum-high.result = record { sfits = c.shifted_sum-high.type_inv } in
    let parts = halves_of c.args.value c.shifted_sum-high.result c.requires (simp to_z-of_z at c.shifted_sum-high.ensures) in
    let product_fits = parts.product_fits in
    simp to_z-of_z parts.low_fits

pub overflow_cast-value : goal.overflow_cast-value
overflow_cast-value c =
    let value_fits = c.ranges.value in
    let high_fits : FitsSigned w32 c.shifted_sum-high.result = record { sfits = c.shifted_sum-high.type_inv } in
    let parts = halves_of c.args.value c.shifted_sum-high.result c.requires (simp to_z-of_z at c.shifted_sum-high.ensures) in
    let product_fits = parts.product_fits in
    let low_fits = parts.low_fits in
    simp to_z-of_z parts.low_is_short

pub returns-clause-whole : goal.returns-clause-whole
returns-clause-whole c =
    let value_fits = c.ranges.value in
    let high_fits : FitsSigned w32 c.shifted_sum-high.result = record { sfits = c.shifted_sum-high.type_inv } in
    let parts = halves_of c.args.value c.shifted_sum-high.result c.requires (simp to_z-of_z at c.shifted_sum-high.ensures) in
    let product_fits = parts.product_fits in
    let low_fits = parts.low_fits in
    let low_is_short = parts.low_is_short in
    let same : c.from.result ≡ c.args.value -ℤ pos 65536 *ℤ c.shifted_sum-high.result = simp to_z-of_z at c.from.ensures in
    rw same (simp to_z-of_z parts.whole)

pub returns-clause-high : goal.returns-clause-high
returns-clause-high c =
    let value_fits = c.ranges.value in
    let high_fits : FitsSigned w32 c.shifted_sum-high.result = record { sfits = c.shifted_sum-high.type_inv } in
    let parts = halves_of c.args.value c.shifted_sum-high.result c.requires (simp to_z-of_z at c.shifted_sum-high.ensures) in
    simp to_z-of_z parts.high

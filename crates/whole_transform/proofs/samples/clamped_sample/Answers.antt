use Rattle.std.proofs.Common.{w32, FitsSigned}
use Rattle.std.proofs.lemmas.Int.{to_z-of_z}
use Rattle.whole_transform.proofs.Rounding.{clamped_is}
use Rattle.whole_transform.proofs.samples.clamped_sample.Goals as goal

pub returns : goal.returns
returns c =
    let value_fits = c.ranges.value in
    let raised_fits : FitsSigned w32 c.max.result = record { sfits = c.max.type_inv } in
    let lowered_fits : FitsSigned w32 c.min.result = record { sfits = c.min.type_inv } in
    simp to_z-of_z (clamped_is c.args.value c.max.result c.min.result (simp to_z-of_z at c.max.ensures.value) (simp to_z-of_z at c.min.ensures.value))

use Rattle.std.proofs.Common.{rules, ◌∙◌, ℤ, ◌+ℤ◌, ◌*ℤ◌, w64, FitsSigned, arith, lit≤, refl, sym, ap₂}
use Rattle.std.proofs.lemmas.Int.{to_z-of_z}
use Rattle.whole_transform.specs.Sums.{sum_to}
use Rattle.whole_transform.specs.Transform.{basis, cell}
use Rattle.whole_transform.proofs.SumLemmas.{sum_more}
use Rattle.whole_transform.proofs.block.forward_column.Goals as goal

pub loop-j-init : goal.loop-j-init
unfolding sum_to
loop-j-init c = record { value = refl; small = lit≤ tt }

pub loop-j-preserved : goal.loop-j-preserved
loop-j-preserved c =
    let before = c.loop-j.invariant in
    let number_fits : FitsSigned w64 c.basis_number.result = record { sfits = c.basis_number.type_inv } in
    let value_fits : FitsSigned w64 (cell c.args.values.now c.loop-j.j c.args.column) = search rules in
    let result_fits : FitsSigned w64 c.add_product-sum.result = record { sfits = c.add_product-sum.type_inv } in
    let value = simp to_z-of_z at c.add_product-sum.ensures.value in
    let small = c.add_product-sum.ensures.small in
    record {
      value = simp to_z-of_z (value
          ∙ ap₂ (λ (a b : ℤ). a +ℤ b *ℤ cell c.args.values.now c.loop-j.j c.args.column) before.value c.basis_number.ensures.value
          ∙ sym (sum_more c.loop-j.j (λ j. basis c.args.k j *ℤ cell c.args.values.now j c.args.column)));
      small = simp to_z-of_z (omega (arith, small, before.small));
    }

use Rattle.std.proofs.Common.{◌≡◌, ◌≢◌, ◌<◌, ◌+◌, ◌*◌, ℕ, pos, ◌+ℤ◌, ◌*ℤ◌, sym, subst, ⊎_elim, arith, w32, FitsSigned}
use Rattle.std.proofs.lemmas.Int.{to_z-of_z, fits_signed_from_abs}
use Rattle.std.proofs.lemmas.Bool.{cases_eq}
use Rattle.whole_transform.specs.Sums.{at}
use Rattle.whole_transform.specs.Transform.{StandsAt}
use Rattle.whole_transform.proofs.SizeLemmas.{stands_kept, kept_twice}
use Rattle.whole_transform.proofs.sample_lanes.put_coefficients.Goals as goal

pub put_coefficient-requires-clause-small : goal.put_coefficient-requires-clause-small
put_coefficient-requires-clause-small c =
    let lt : c.loop-k.k < 4 = omega arith in
    let high_fits : FitsSigned w32 (at c.args.high c.loop-k.k) = fits_signed_from_abs w32 _ (omega (arith, c.requires.high c.loop-k.k lt)) in
    let low_fits : FitsSigned w32 (at c.args.low c.loop-k.k) = fits_signed_from_abs w32 _ (omega (arith, c.requires.low c.loop-k.k lt)) in
    simp to_z-of_z (c.requires.small c.loop-k.k lt)

pub loop-k-preserved : goal.loop-k-preserved
loop-k-preserved c =
    let here : c.loop-k.k < 4 = omega arith in
    let high_fits : FitsSigned w32 (at c.args.high c.loop-k.k) = fits_signed_from_abs w32 _ (omega (arith, c.requires.high c.loop-k.k here)) in
    let low_fits : FitsSigned w32 (at c.args.low c.loop-k.k) = fits_signed_from_abs w32 _ (omega (arith, c.requires.low c.loop-k.k here)) in
    record {
      placed = λ k lt. ⊎_elim
          (λ (e : k ≡ c.loop-k.k). subst (λ (i : ℕ). StandsAt c.put_coefficient.new.sizes c.put_coefficient.new.negative (128 * i + c.args.place) (pos 65536 *ℤ at c.args.high i +ℤ at c.args.low i)) (sym e)
          (simp to_z-of_z at c.put_coefficient.ensures.placed))
          (λ (n : k ≢ c.loop-k.k). stands_kept (c.loop-k.invariant.placed k (omega arith)) (c.put_coefficient.ensures.kept (128 * k + c.args.place) (λ (same : 128 * k + c.args.place ≡ 128 * c.loop-k.k + c.args.place). n (omega arith))))
          (cases_eq k c.loop-k.k);
      kept = λ k j lt other. kept_twice (c.loop-k.invariant.kept k j lt other) (c.put_coefficient.ensures.kept (128 * k + j) (λ (same : 128 * k + j ≡ 128 * c.loop-k.k + c.args.place). other (omega arith)));
    }

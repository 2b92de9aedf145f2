use Rattle.std.proofs.Common.{ℕ, length, refl, arith}
use Rattle.slice_levels.specs.inner.Short.{products_of}
use Rattle.slice_levels.proofs.SampleLemmas.{inverses_small, rebuilt_of_products}
use Rattle.slice_levels.proofs.ShortLemmas.{are_products_of}
use Rattle.slice_levels.proofs.short_rebuilding.rebuild_short.Goals as goal

pub returns-clause-rebuilt : goal.returns-clause-rebuilt
returns-clause-rebuilt c = λ yes.
    let a = c.args in
    let out = c.loop-group.out in
    let count : ℕ = length c.loop-group.out in
    rebuilt_of_products a.scan a.weights.now a.scale count a.levels.now (products_of a.scan a.weights.now a.scale count a.levels.now) out refl
    (are_products_of a.scan a.weights.now a.scale count a.levels.now)
    (λ b lt. c.loop-group.invariant.inverse b (omega (arith, lt, c.loop-group-test.false, c.div_ceil-group-end.ensures, c.loop-group.invariant.long)) lt)

pub returns-clause-range : goal.returns-clause-range
returns-clause-range c = λ yes.
    let a = c.args in
    let count : ℕ = length c.loop-group.out in
    inverses_small a.scan (products_of a.scan a.weights.now a.scale count a.levels.now) c.loop-group.out
    (λ b lt. c.loop-group.invariant.inverse b (omega (arith, lt, c.loop-group-test.false, c.div_ceil-group-end.ensures, c.loop-group.invariant.long)) lt)

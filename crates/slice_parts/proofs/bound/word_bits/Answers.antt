use Rattle.std.proofs.Common.{◌≡◌, ◌≤◌, ◌<◌, ◌+◌, ◌-◌, ℕ, List, length, slice_index, ap, sym, ◌∙◌, subst, arith}
use Rattle.slice_parts.specs.Bound.{size_at}
use Rattle.slice_parts.specs.inner.Counted.{passed, AreSome}
use Rattle.slice_parts.proofs.CountLemmas.{sum_less}
use Rattle.slice_parts.proofs.WordLemmas.{word_low, no_marks_low, some_are, sizes_long, size_there}
use Rattle.slice_parts.proofs.bound.word_bits.Goals as goal

pub returns-then-marks-eq0-clause-low : goal.returns-then-marks-eq0-clause-low
returns-then-marks-eq0-clause-low c = λ run carries sizes is.
    let from : ℕ = c.args.at + c.args.skip in
    let long : length sizes ≡ length c.args.half_steps.now - (c.args.at + c.args.skip) = ap (λ (ns : List ℕ). length ns) is ∙ sizes_long c.args.half_steps.now c.args.scale from in
    omega (arith, no_marks_low sizes (64 - c.args.skip) run (omega (arith, long, c.requires.inside, c.requires.skip)))

pub returns-clause-low : goal.returns-clause-low
returns-clause-low c = λ run carries sizes is.
    let half : List ℕ = c.args.half_steps.now in
    let from : ℕ = c.args.at + c.args.skip in
    let n : ℕ = 64 - c.args.skip in
    let long : length sizes ≡ length c.args.half_steps.now - (c.args.at + c.args.skip) = ap (λ (ns : List ℕ). length ns) is ∙ sizes_long c.args.half_steps.now c.args.scale from in
    let inside : n ≤ length sizes = omega (arith, long, c.requires.inside, c.requires.skip) in
    let some : AreSome sizes n c.args.marks =
    subst (λ (ns : List ℕ). AreSome ns n c.args.marks) (sym is) (some_are half c.args.scale from n c.args.marks (omega (arith, c.requires.inside, c.requires.skip)) c.requires.marks) in
    let same : (i : ℕ) → i < n → passed 10 (size_at c.args.scale (slice_index c.args.half_steps.now (c.args.at + c.args.skip + i))) ≤ passed 10 (slice_index sizes i) =
    λ i lt.
    let there : slice_index sizes i ≡ size_at c.args.scale (slice_index half (from + i)) =
    ap (λ (ns : List ℕ). slice_index ns i) is ∙ size_there half c.args.scale from i (omega (arith, lt, c.requires.inside, c.requires.skip)) in
    omega (arith, ap (λ (k : ℕ). passed 10 k) there) in
    let bits = sum_less n (λ i. passed 10 (size_at c.args.scale (slice_index c.args.half_steps.now (c.args.at + c.args.skip + i)))) (λ i. passed 10 (slice_index sizes i)) same in
    word_low sizes n run c.args.marks c.gap_bits.result c.size_bits.result inside some
    (c.gap_bits.ensures.low n run sizes (omega arith) inside carries some) (omega (arith, c.size_bits.ensures.low, bits))

use Rattle.std.proofs.Common.{rules, ◌≡◌, ◌+◌, ◌-◌, ◌*◌, ◌%◌, ◌^◌, ◌<◌, ℕ, ℤ, List, subst, arith}
use Rattle.slice_parts.specs.Component.{signed_levels}
use Rattle.slice_parts.specs.Bound.{numbers_at}
use Rattle.slice_parts.specs.inner.Counted.{Tail}
use Rattle.slice_parts.proofs.AcLemmas.{tail_none, tail_same, tail_more, tail_all, left_low, left_none, left_set}
use Rattle.slice_parts.proofs.bound.ac_bits.Goals as goal

pub loop-word-init : goal.loop-word-init
loop-word-init c =
    let half : List ℕ = c.args.half_steps.now in
    record {
      within = search rules;
      small = omega (arith, c.requires.blocks);
      above = λ some. c.marks_from-marks.ensures 1 c.args.scale c.threshold-least.ensures;
      some = λ some. tail_none half c.args.scale (64 * (c.args.blocks - 1) + 64) c.marks_from-marks.result;
      last = λ zero. tail_none half c.args.scale 64 (c.marks_from-first.result * 2 ^ c.args.blocks % 2 ^ 64);
      left = left_none (signed_levels (numbers_at c.args.scale half)) 33;
    }

pub word_bits-bits-requires-clause-marks : goal.word_bits-bits-requires-clause-marks
word_bits-bits-requires-clause-marks c = c.loop-word.invariant.above (omega (arith, c.loop-word-test.true))

pub word_bits-bits-requires-2-clause-marks : goal.word_bits-bits-requires-2-clause-marks
word_bits-bits-requires-2-clause-marks c = c.marks_from-first.ensures 1 c.args.scale c.threshold-least.ensures

pub loop-word-preserved : goal.loop-word-preserved
loop-word-preserved c =
    let l = c.loop-word in
    let half : List ℕ = c.args.half_steps.now in
    let levels : List ℤ = signed_levels (numbers_at c.args.scale half) in
    let some : 0 < l.word = omega (arith, c.loop-word-test.true) in
    let above = l.invariant.above some in
    let there : 64 * l.word + 0 ≡ 64 * l.word = omega arith in
    let before : ℕ = c.marks_before-before.result in
    let bits : ℕ = l.bits + c.word_bits-bits.result in
    let more : Tail half c.args.scale (64 * l.word + 0) bits before =
    tail_more half c.args.scale (64 * l.word) 0 l.bits before l.marks c.word_bits-bits.result
    (omega (arith, c.requires.long, l.invariant.within)) (omega arith) (tail_same half c.args.scale (64 * l.word + 64) l.bits l.marks (omega arith) (l.invariant.some some)) above c.word_bits-bits.ensures.low in
    let tail : Tail half c.args.scale (64 * l.word) bits before = subst (λ (k : ℕ). Tail half c.args.scale k bits before) there more in
    let next : 64 * l.word ≡ 64 * (l.word - 1) + 64 = omega (arith, some) in
    record {
      within = search rules;
      small = omega (arith, l.invariant.small, c.word_bits-bits.ensures.small, some);
      above = λ more. c.marks_before-before.ensures.others (omega (arith, more)) 1 c.args.scale c.threshold-least.ensures;
      some = λ more. subst (λ (k : ℕ). Tail half c.args.scale k bits before) next tail;
      last = λ zero.
          let one : l.word ≡ 1 = omega (arith, zero, some) in
          let place : 64 * l.word ≡ 64 = omega (arith, one) in
          subst (λ (k : ℕ). Tail half c.args.scale 64 bits k) (c.marks_before-before.ensures.first one) (subst (λ (k : ℕ). Tail half c.args.scale k bits before) place tail);
      left = left_set levels l.left l.word c.saturating_sub.result l.invariant.left
          (λ zeros state spelled are. omega (arith, c.saturating_sub.ensures, left_low half c.args.scale l.word bits before zeros state spelled tail are));
    }

pub returns-clause-low : goal.returns-clause-low
returns-clause-low c =
    let l = c.loop-word in
    let half : List ℕ = c.args.half_steps.now in
    let last : l.word ≡ 0 = omega (arith, c.loop-word-test.false) in
    tail_all half c.args.scale c.args.blocks (l.bits + c.word_bits-bits-2.result)
    (tail_more half c.args.scale 0 c.args.blocks l.bits (2 ^ 64 - 1) c.marks_from-first.result c.word_bits-bits-2.result
    (omega (arith, c.requires.long, c.requires.blocks)) (omega (arith, c.requires.blocks)) (l.invariant.last last)
    (c.marks_from-first.ensures 1 c.args.scale c.threshold-least.ensures) c.word_bits-bits-2.ensures.low)

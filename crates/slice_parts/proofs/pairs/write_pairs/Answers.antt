use Rattle.std.proofs.Common.{◌≡◌, ◌≤◌, ◌<◌, ◌-◌, ◌+◌, ◌*◌, ◌^◌, ℕ, ℤ, List, [], drop, length, refl, subst, rules, arith, false, true, slice_index, w64}
use Rattle.std.specs.Int.{trailing_zeros}
use Rattle.std.specs.Int.RustNames.{unsigned_abs}
use Rattle.std.proofs.lemmas.Result.{err_from_is_err_and}
use Rattle.prores_scan.specs.ScaledLevels.{signed_of}
use Rattle.slice_parts.specs.Component.{signed_levels}
use Rattle.slice_parts.specs.Pairs.{PairState, PairSpells, ArePairsOf, pair_state, pair_of}
use Rattle.slice_parts.specs.inner.Marks.{AreDue, size_before}
use Rattle.slice_parts.proofs.MarkLemmas.{first_mark, due_word, due_behind, due_none, pairs_marked, pairs_over, pairs_to}
use Rattle.slice_parts.proofs.WroteLemmas.{wrote_more, wrote_full, wrote_all, alone, never}
use Rattle.slice_parts.proofs.pairs.write_pairs.Goals as goal

pub loop-marks-init : goal.loop-marks-init
loop-marks-init c = record {
  same = c.loop-word.invariant.same;
  due = due_word c.args.numbers.now c.loop-word.word c.args.blocks c.loop-word.skip c.loop-word.next c.due_marks-marks.result c.loop-word.invariant.first c.loop-word.invariant.others c.loop-word.invariant.zeros
      c.due_marks-marks.ensures;
  row = c.loop-word.invariant.row;
  some = c.loop-word.invariant.some;
  small = c.loop-word.invariant.small;
  wrote = c.loop-word.invariant.wrote;
}

pub overflow_sub-zeros : goal.overflow_sub-zeros
overflow_sub-zeros c =
    (first_mark c.args.numbers.now (64 * c.loop-word.word) c.loop-marks.next c.loop-marks.marks (omega (arith, c.loop-marks-test.true)) (omega arith) c.loop-marks.invariant.due).from

pub put_pair-requires-clause-some : goal.put_pair-requires-clause-some
put_pair-requires-clause-some c =
    (first_mark c.args.numbers.now (64 * c.loop-word.word) c.loop-marks.next c.loop-marks.marks (omega (arith, c.loop-marks-test.true)) (omega arith) c.loop-marks.invariant.due).some

pub returns-in_err-row-clause-accepted : goal.returns-in_err-row-clause-accepted
returns-in_err-row-clause-accepted c = λ s is.
    let l = c.loop-marks in
    let numbers = c.args.numbers.now in
    let first = first_mark numbers (64 * c.loop-word.word) l.next l.marks (omega (arith, c.loop-marks-test.true)) (omega arith) l.invariant.due in
    let place : ℕ = 64 * c.loop-word.word + trailing_zeros w64 l.marks in
    let inside : place < length numbers = omega (arith, first.few, c.requires.long, c.loop-word-test.true, c.loop-word.auto.word-end) in
    let state : PairState = pair_state l.run (size_before l.last) in
    let x : ℤ = signed_of (slice_index numbers place) in
    let k = c.in_err-row.ensures.accepted in
    let p = err_from_is_err_and c.from_residual.result c.from_residual.ensures.1 in
    let full = wrote_full c.args.out.now l.out (ArePairsOf state 0 (drop l.next (signed_levels numbers))) (λ one. PairSpells state one (pair_of (place - l.next) x))
    (ArePairsOf (pair_state (place - l.next) (unsigned_abs x - 1)) 0 (drop (place + 1) (signed_levels numbers))) s
    (l.invariant.wrote s is) (λ rest h. pairs_marked state l.next place numbers rest first.from inside first.some first.none h) (λ one h fits. never ((k one h).1 fits)) in
    rw p.1 ((λ (e : false ≡ true). absurd (never e)), λ fits. absurd (full fits))

pub returns-in_err-fits-clause-accepted : goal.returns-in_err-fits-clause-accepted
returns-in_err-fits-clause-accepted c = λ s is.
    let l = c.loop-marks in
    let numbers = c.args.numbers.now in
    let word = c.loop-word.word in
    let state : PairState = pair_state l.run (size_before l.last) in
    let due : AreDue numbers (64 * word) l.next 0 = subst (AreDue numbers (64 * word) l.next) c.loop-marks-test.false l.invariant.due in
    let inside : 64 * (word + 1) ≤ length numbers = omega (arith, c.requires.long, c.loop-word-test.true, c.loop-word.auto.word-end) in
    let remains = ArePairsOf state 0 (drop l.next (signed_levels numbers)) in
    let p = err_from_is_err_and c.from_residual-in_err-fits.result c.from_residual-in_err-fits.ensures.1 in
    let least : (rest : List ℕ) → remains rest → slice_index c.args.left.now (word + 1) ≤ length rest =
    λ rest h. c.requires.left (word + 1) (64 * (word + 1) - l.next) state rest (omega (arith, c.requires.long, c.requires.blocks, inside))
    (pairs_to state l.next (64 * (word + 1)) numbers rest (omega (arith, due.few)) inside (λ e from lt. due_none numbers (64 * word) l.next due e from (omega (arith, lt))) h) in
    let full = wrote_full c.args.out.now l.out remains remains (λ b. b ≡ []) s (l.invariant.wrote s is) (λ rest h. alone remains rest h)
    (λ rest h fits. never (c.in_err-fits.ensures.accepted.1 (omega (arith, fits, least rest h)))) in
    rw p.1 ((λ (e : false ≡ true). absurd (never e)), λ fits. absurd (full fits))

pub loop-marks-smaller : goal.loop-marks-smaller
loop-marks-smaller c =
    let l = c.loop-marks in
    let first = first_mark c.args.numbers.now (64 * c.loop-word.word) l.next l.marks (omega (arith, c.loop-marks-test.true)) (omega arith) l.invariant.due in
    omega (arith, first.from, first.few)

pub loop-marks-preserved : goal.loop-marks-preserved
loop-marks-preserved c =
    let l = c.loop-marks in
    let numbers = c.args.numbers.now in
    let some : 0 < l.marks = omega (arith, c.loop-marks-test.true) in
    let few : l.marks < 2 ^ 64 = omega arith in
    let first = first_mark numbers (64 * c.loop-word.word) l.next l.marks some few l.invariant.due in
    let place : ℕ = 64 * c.loop-word.word + trailing_zeros w64 l.marks in
    let inside : place < length numbers = omega (arith, first.few, c.requires.long, c.loop-word-test.true, c.loop-word.auto.word-end) in
    let state : PairState = pair_state l.run (size_before l.last) in
    let x : ℤ = signed_of (slice_index numbers place) in
    let k = c.in_ok-row.ensures in
    record {
      same = search rules;
      due = due_behind numbers (64 * c.loop-word.word) l.next l.marks some few l.invariant.due;
      row = k.row;
      some = first.some;
      small = c.requires.small place inside;
      wrote = λ s is. wrote_more c.args.out.now l.out c.put_pair.new.out (ArePairsOf state 0 (drop l.next (signed_levels numbers))) (λ one. PairSpells state one (pair_of (place - l.next) x))
          (ArePairsOf (pair_state (place - l.next) (unsigned_abs x - 1)) 0 (drop (place + 1) (signed_levels numbers))) s
          (l.invariant.wrote s is) (λ rest h. pairs_marked state l.next place numbers rest first.from inside first.some first.none h) (λ one h. k.spelled one h) (λ one h. (k.accepted one h).0 refl);
    }

pub loop-word-preserved : goal.loop-word-preserved
loop-word-preserved c =
    let l = c.loop-marks in
    let due : AreDue c.args.numbers.now (64 * c.loop-word.word) l.next 0 = subst (AreDue c.args.numbers.now (64 * c.loop-word.word) l.next) c.loop-marks-test.false l.invariant.due in
    record {
      same = l.invariant.same;
      first = λ e. absurd (omega (arith, e));
      others = λ e. (refl, omega (arith, due.few));
      zeros = λ e from lt. due_none c.args.numbers.now (64 * c.loop-word.word) l.next due e from (omega (arith, lt));
      row = l.invariant.row;
      some = l.invariant.some;
      small = l.invariant.small;
      wrote = l.invariant.wrote;
    }

pub returns-clause-accepted : goal.returns-clause-accepted
returns-clause-accepted c = λ s is.
    let l = c.loop-word in
    let numbers = c.args.numbers.now in
    let state : PairState = pair_state l.run (size_before l.last) in
    let order : l.next ≤ length numbers = omega (arith, (l.invariant.others (omega (arith, c.loop-word-test.false, l.auto.word-end, c.requires.blocks))).1, c.requires.long, l.auto.word-end) in
    let all = wrote_all c.args.out.now l.out (ArePairsOf state 0 (drop l.next (signed_levels numbers))) s (l.invariant.wrote s is)
    (λ rest h. pairs_over state l.next numbers rest order (λ e from lt. l.invariant.zeros e from (omega (arith, lt, c.requires.long, c.loop-word-test.false))) h) in
    ((λ _. all.1), (λ _. refl))

pub returns-clause-spelled : goal.returns-clause-spelled
returns-clause-spelled c = λ s is.
    let l = c.loop-word in
    let numbers = c.args.numbers.now in
    let state : PairState = pair_state l.run (size_before l.last) in
    let order : l.next ≤ length numbers = omega (arith, (l.invariant.others (omega (arith, c.loop-word-test.false, l.auto.word-end, c.requires.blocks))).1, c.requires.long, l.auto.word-end) in
    (wrote_all c.args.out.now l.out (ArePairsOf state 0 (drop l.next (signed_levels numbers))) s (l.invariant.wrote s is)
    (λ rest h. pairs_over state l.next numbers rest order (λ e from lt. l.invariant.zeros e from (omega (arith, lt, c.requires.long, c.loop-word-test.false))) h)).0

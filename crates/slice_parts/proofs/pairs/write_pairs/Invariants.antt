use Rattle.std.proofs.Common.{◌≡◌, ◌≤◌, ◌<◌, ◌+◌, ◌-◌, ◌*◌, ◌^◌, ℕ, List, drop, slice_index}
use Rattle.bit_io.specs.Written.{lender}
use Rattle.prores_codes.specs.Pairs.{IsPairRow}
use Rattle.slice_parts.specs.Pairs.{ArePairsOf, pair_state, first_pair}
use Rattle.slice_parts.specs.Component.{signed_levels}
use Rattle.slice_parts.specs.inner.Marks.{AreDue, size_before}
use Rattle.slice_parts.specs.inner.Written.{Wrote}
use Rattle.slice_parts.proofs.pairs.write_pairs.Given as goal

-- the pairs so far are written, the rest is due in the state behind them, and up to the word only zeros follow
abbrev pub invariant-loop-word : goal.invariant-loop-word
invariant-loop-word l = record {
  same : lender l.out ≡ lender l.fn.out;
  first : l.word ≡ 0 → (l.skip ≡ l.blocks) × (l.next ≡ l.blocks);
  others : 0 < l.word → (l.skip ≡ 0) × (l.next ≤ 64 * l.word);
  zeros : (e : ℕ) → l.next ≤ e → e < 64 * l.word → slice_index l.numbers e ≤ 1;
  row : IsPairRow l.run (size_before l.last) l.row;
  some : 2 ≤ l.last;
  small : l.last ≤ 2 ^ 14 + 1;
  wrote : (whole : List ℕ) → ArePairsOf first_pair 0 (drop l.blocks (signed_levels l.numbers)) whole → Wrote l.fn.out l.out (ArePairsOf (pair_state l.run (size_before l.last)) 0 (drop l.next (signed_levels l.numbers))) whole;
}

-- the word's marks are those of the levels that are due
abbrev pub invariant-loop-marks : goal.invariant-loop-marks
invariant-loop-marks l = record {
  same : lender l.out ≡ lender l.fn.out;
  due : AreDue l.numbers (64 * l.word) l.next l.marks;
  row : IsPairRow l.run (size_before l.last) l.row;
  some : 2 ≤ l.last;
  small : l.last ≤ 2 ^ 14 + 1;
  wrote : (whole : List ℕ) → ArePairsOf first_pair 0 (drop l.blocks (signed_levels l.numbers)) whole → Wrote l.fn.out l.out (ArePairsOf (pair_state l.run (size_before l.last)) 0 (drop l.next (signed_levels l.numbers))) whole;
}

abbrev pub decreases-loop-marks : goal.decreases-loop-marks
decreases-loop-marks l = 64 * l.word + 64 - l.next

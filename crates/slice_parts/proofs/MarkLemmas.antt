use Rattle.std.proofs.Common.{◌≡◌, ◌≢◌, ℕ, zero, suc, ℤ, pos, ◌+◌, ◌-◌, ◌*◌, ◌/◌, ◌%◌, ◌^◌, ◌≤◌, ◌<◌, ◌↔◌, List, [], length, drop, refl, sym, ap, subst, ◌∙◌, arith, slice_index, w64, ◌⊎◌, inl, inr, bit_and}
use Rattle.std.specs.Int.{bit_at, trailing_zeros}
use Rattle.std.specs.Int.RustNames.{unsigned_abs}
use Rattle.std.proofs.lemmas.Nat.{shr-shr, shr_split, pow_pos, mod_below}
use Rattle.std.proofs.Math.Nat.{add-mul}
use Rattle.std.proofs.lemmas.Nat.Bits.{bit_at-zero, bit_at-trailing_zeros, bit_at-suc, bit_at_lowest, bit_at_and, bit_at_cat_low, bit_at_cat_high, same_from_bits_below}
use Rattle.std.proofs.lemmas.Bool.{cases_lt}
use Rattle.prores_scan.specs.Thresholds.{AreReached}
use Rattle.prores_scan.specs.ScaledLevels.{signed_of}
use Rattle.slice_parts.specs.Joined.{Split}
use Rattle.slice_parts.specs.Pairs.{PairState, PairSpells, ArePairsOf, pair_state, pair_of}
use Rattle.slice_parts.specs.Component.{level_at, signed_levels}
use Rattle.slice_parts.specs.inner.Marks.{AreDue}
use Rattle.slice_parts.specs.laws.PairSteps.{pairs_zero, pairs_level, pairs_end}
use Rattle.slice_parts.proofs.NumberLemmas.{signed_at, signed_long, signed_is, zero_of}

-- a bit below those that were shifted out and in again is 0, any other as it was
low_bit : (marks n j : ℕ) → j < n → bit_at (marks / 2 ^ n * 2 ^ n) j ≡ 0
low_bit marks n j lt =
    let plain : marks / 2 ^ n * 2 ^ n + 0 ≡ marks / 2 ^ n * 2 ^ n = omega arith in
    ap (λ (k : ℕ). bit_at k j) (sym plain) ∙ (bit_at_cat_low (marks / 2 ^ n) n 0 j lt ∙ bit_at-zero j)

high_bit : (marks n j : ℕ) → n ≤ j → bit_at (marks / 2 ^ n * 2 ^ n) j ≡ bit_at marks j
high_bit marks n j le =
    let plain : marks / 2 ^ n * 2 ^ n + 0 ≡ marks / 2 ^ n * 2 ^ n = omega arith in
    let there : n + (j - n) ≡ j = omega (arith, le) in
    ap (λ (k : ℕ). bit_at k j) (sym plain) ∙ (bit_at_cat_high (marks / 2 ^ n) n 0 j (pow_pos n) le
    ∙ (ap (λ (k : ℕ). k % 2) (shr-shr marks n (j - n)) ∙ ap (λ (k : ℕ). bit_at marks k) there))

shifted_less : (marks n : ℕ) → marks / 2 ^ n * 2 ^ n ≤ marks
shifted_less marks n = omega (arith, shr_split marks n)

-- the numbers that a word of marks tells, without the first ones
pub due_is : (numbers : List ℕ) (at skip marks : ℕ) → skip ≤ 32 → marks < 2 ^ 64 → AreReached numbers at 2 marks → AreDue numbers at (at + skip) (marks / 2 ^ skip * 2 ^ skip % 2 ^ 64)
due_is numbers at skip marks few small are = subst (λ (k : ℕ). AreDue numbers at (at + skip) k) whole (record {
  few = omega (arith, few);
  each = λ j lt. each j lt (cases_lt j skip);
  before = λ e from to. absurd (omega (arith, from, to));
})
  where
    whole : marks / 2 ^ skip * 2 ^ skip ≡ marks / 2 ^ skip * 2 ^ skip % 2 ^ 64
    whole = omega (arith, small, shifted_less marks skip)

    each : (j : ℕ) → j < 64 → (j < skip) ⊎ (skip ≤ j) → (bit_at (marks / 2 ^ skip * 2 ^ skip) j ≡ 1) ↔ ((at + skip ≤ at + j) × (2 ≤ slice_index numbers (at + j)))
    each j lt (inl low) = ((λ set. absurd (omega (arith, set, low_bit marks skip j low))), (λ due. absurd (omega (arith, due.0, low))))
    each j lt (inr high) = (
      (λ set. (omega (arith, high), (are j lt).0 (sym (high_bit marks skip j high) ∙ set))),
      (λ due. high_bit marks skip j high ∙ (are j lt).1 due.1),
    )

-- no number between has a mark of its own
pub due_from : (numbers : List ℕ) (at next marks : ℕ) → next ≤ at → ((e : ℕ) → next ≤ e → e < at → slice_index numbers e ≤ 1)
    → AreDue numbers at (at + 0) marks → AreDue numbers at next marks
due_from numbers at next marks order none are = record {
  few = omega (arith, order);
  each = λ j lt. ((λ set. (omega (arith, order), ((are.each j lt).0 set).1)), (λ due. (are.each j lt).1 (omega arith, due.1)));
  before = none;
}

-- a number without a mark is 0 or 1
unmarked : (numbers : List ℕ) (at next marks j : ℕ) → AreDue numbers at next marks → j < 64 → next ≤ at + j → bit_at marks j ≡ 0 → slice_index numbers (at + j) ≤ 1
unmarked numbers at next marks j are lt from none = cases (cases_lt (slice_index numbers (at + j)) 2)
  where
    cases : (slice_index numbers (at + j) < 2) ⊎ (2 ≤ slice_index numbers (at + j)) → slice_index numbers (at + j) ≤ 1
    cases (inl small) = omega (arith, small)
    cases (inr large) = absurd (omega (arith, none, (are.each j lt).1 (from, large)))

-- so are all up to a place where no mark is
unmarked_to : (numbers : List ℕ) (at next marks to : ℕ) → AreDue numbers at next marks → to ≤ 64 → ((j : ℕ) → j < to → bit_at marks j ≡ 0)
    → (e : ℕ) → next ≤ e → e < at + to → slice_index numbers e ≤ 1
unmarked_to numbers at next marks to are few none e from lt = cases (cases_lt e at)
  where
    cases : (e < at) ⊎ (at ≤ e) → slice_index numbers e ≤ 1
    cases (inl low) = are.before e from low
    cases (inr high) =
        let there : at + (e - at) ≡ e = omega (arith, high) in
        subst (λ (k : ℕ). slice_index numbers k ≤ 1) there
        (unmarked numbers at next marks (e - at) are (omega (arith, lt, few, high)) (omega (arith, from, high)) (none (e - at) (omega (arith, lt, high))))

-- the first mark, and none before it
pub record IsFirstMark (numbers : List ℕ) (at next first : ℕ) : Type 0 where
  pub few : first < 64
  pub from : next ≤ at + first
  pub some : 2 ≤ slice_index numbers (at + first)
  pub none : (e : ℕ) → next ≤ e → e < at + first → slice_index numbers e ≤ 1

pub first_mark : (numbers : List ℕ) (at next marks : ℕ) → 0 < marks → marks < 2 ^ 64 → AreDue numbers at next marks → IsFirstMark numbers at next (trailing_zeros w64 marks)
first_mark numbers at next marks some small are =
    let t : ℕ = trailing_zeros w64 marks in
    let lowest = bit_at-trailing_zeros w64 marks some small in
    let due = (are.each t lowest.0).0 lowest.1 in
    record {
      few = lowest.0;
      from = due.0;
      some = due.1;
      none = unmarked_to numbers at next marks (trailing_zeros w64 marks) are (omega (arith, lowest.0)) lowest.2;
    }

-- a number of which the lowest bits are 0 is a multiple
whole_from : (m t : ℕ) → ((i : ℕ) → i < t → bit_at m i ≡ 0) → m ≡ m / 2 ^ t * 2 ^ t
whole_from m t none =
    let low : m % 2 ^ t ≡ 0 = same_from_bits_below t (m % 2 ^ t) 0 (mod_below m (2 ^ t) (pow_pos t)) (pow_pos t)
    (λ i lt. sym (bit_at_cat_low (m / 2 ^ t) t (m % 2 ^ t) i lt) ∙ (ap (λ (n : ℕ). bit_at n i) (shr_split m t) ∙ (none i lt ∙ sym (bit_at-zero i)))) in
    omega (arith, low, shr_split m t)

-- an odd number less one has all its other bits
other_bits : (a k : ℕ) → a % 2 ≡ 1 → bit_at (a - 1) (suc k) ≡ bit_at a (suc k)
other_bits a k odd =
    let half : (a - 1) / 2 ≡ a / 2 = omega (arith, odd) in
    bit_at-suc (a - 1) k ∙ (ap (λ (n : ℕ). bit_at n k) half ∙ sym (bit_at-suc a k))

-- the bits of a number less one, from its lowest bit on
less_one_bits : (m t j : ℕ) → bit_at m t ≡ 1 → ((i : ℕ) → i < t → bit_at m i ≡ 0) → t ≤ j → bit_at (m - 1) j ≡ bit_at (m / 2 ^ t - 1) (j - t)
less_one_bits m t j one none le =
    let a : ℕ = m / 2 ^ t in
    let whole = whole_from m t none in
    let odd : (m / 2 ^ t) % 2 ≡ 1 = one in
    let back : (m / 2 ^ t - 1) * 2 ^ t + 1 * 2 ^ t ≡ m / 2 ^ t * 2 ^ t = sym (add-mul (m / 2 ^ t - 1) 1 (2 ^ t)) ∙ ap (λ (n : ℕ). n * 2 ^ t) (omega (arith, odd)) in
    let split : m - 1 ≡ (m / 2 ^ t - 1) * 2 ^ t + (2 ^ t - 1) = omega (arith, whole, back, pow_pos t) in
    ap (λ (n : ℕ). bit_at n j) split ∙ bit_at_cat_high (m / 2 ^ t - 1) t (2 ^ t - 1) j (omega (arith, pow_pos t)) le

-- a number and itself less one have the bits above its lowest in common
pub higher_bits : (m t j : ℕ) → bit_at m t ≡ 1 → ((i : ℕ) → i < t → bit_at m i ≡ 0) → t < j → bit_at (bit_and m (m - 1)) j ≡ bit_at m j
higher_bits m t j one none lt =
    let up : suc (j - t - 1) ≡ j - t = omega (arith, lt) in
    let there : t + (j - t) ≡ j = omega (arith, lt) in
    let same : bit_at (m - 1) j ≡ bit_at m j =
    less_one_bits m t j one none (omega (arith, lt))
    ∙ (ap (λ (n : ℕ). bit_at (m / 2 ^ t - 1) n) (sym up)
    ∙ (other_bits (m / 2 ^ t) (j - t - 1) one
    ∙ (ap (λ (n : ℕ). bit_at (m / 2 ^ t) n) up ∙ (ap (λ (n : ℕ). n % 2) (shr-shr m t (j - t)) ∙ ap (λ (n : ℕ). bit_at m n) there)))) in
    omega (arith, bit_at_and m (m - 1) j, same)

-- and none of the others
pub lower_bits : (m t j : ℕ) → bit_at m t ≡ 1 → ((i : ℕ) → i < t → bit_at m i ≡ 0) → j ≤ t → bit_at (bit_and m (m - 1)) j ≡ 0
lower_bits m t j one none le = cases (cases_lt j t)
  where
    cases : (j < t) ⊎ (t ≤ j) → bit_at (bit_and m (m - 1)) j ≡ 0
    cases (inl lt) = omega (arith, bit_at_and m (m - 1) j, none j lt)
    cases (inr ge) =
        let zero_place : j - t ≡ 0 = omega (arith, le) in
        let odd : (m / 2 ^ t) % 2 ≡ 1 = one in
        let even : bit_at (m / 2 ^ t - 1) 0 ≡ 0 = bit_at_lowest (m / 2 ^ t - 1) ∙ omega (arith, odd) in
        let clear : bit_at (m - 1) j ≡ 0 = less_one_bits m t j one none ge ∙ (ap (λ (n : ℕ). bit_at (m / 2 ^ t - 1) n) zero_place ∙ even) in
        omega (arith, bit_at_and m (m - 1) j, clear)

-- the marks behind it
pub due_behind : (numbers : List ℕ) (at next marks : ℕ) → 0 < marks → marks < 2 ^ 64 → AreDue numbers at next marks
    → AreDue numbers at (at + trailing_zeros w64 marks + 1) (bit_and marks (marks - 1))
due_behind numbers at next marks some small are = record {
  few = omega (arith, first.few);
  each = λ j lt. each j lt (cases_lt (trailing_zeros w64 marks) j);
  before = λ e from to. absurd (omega (arith, from, to));
}
  where
    first : IsFirstMark numbers at next (trailing_zeros w64 marks)
    first = first_mark numbers at next marks some small are

    one : bit_at marks (trailing_zeros w64 marks) ≡ 1
    one = (bit_at-trailing_zeros w64 marks some small).1

    none : (i : ℕ) → i < trailing_zeros w64 marks → bit_at marks i ≡ 0
    none = (bit_at-trailing_zeros w64 marks some small).2

    each : (j : ℕ) → j < 64 → (trailing_zeros w64 marks < j) ⊎ (j ≤ trailing_zeros w64 marks)
        → (bit_at (bit_and marks (marks - 1)) j ≡ 1) ↔ ((at + trailing_zeros w64 marks + 1 ≤ at + j) × (2 ≤ slice_index numbers (at + j)))
    each j lt (inl high) =
        let same = higher_bits marks (trailing_zeros w64 marks) j one none high in (
          (λ set. (omega (arith, high), ((are.each j lt).0 (sym same ∙ set)).1)),
          (λ due. same ∙ (are.each j lt).1 (omega (arith, first.from, high), due.1)),
        )
    each j lt (inr low) = ((λ set. absurd (omega (arith, set, lower_bits marks (trailing_zeros w64 marks) j one none low))), (λ due. absurd (omega (arith, due.0, low))))

-- no mark is left
pub due_none : (numbers : List ℕ) (at next : ℕ) → AreDue numbers at next 0 → (e : ℕ) → next ≤ e → e < at + 64 → slice_index numbers e ≤ 1
due_none numbers at next are = unmarked_to numbers at next 0 64 are (omega arith) (λ j lt. bit_at-zero j)

-- so many zeros more stand before the levels
pub pairs_zeros : (s : PairState) (before at : ℕ) (numbers : List ℕ) (bits : List ℕ) (n : ℕ) → at + n ≤ length numbers → ((j : ℕ) → j < n → slice_index numbers (at + j) ≤ 1)
    → ArePairsOf s before (drop at (signed_levels numbers)) bits → ArePairsOf s (before + n) (drop (at + n) (signed_levels numbers)) bits
pairs_zeros s before at numbers bits zero inside none is =
    let a : before ≡ before + 0 = omega arith in
    let b : at ≡ at + 0 = omega arith in
    subst (λ (k : ℕ). ArePairsOf s (before + 0) (drop k (signed_levels numbers)) bits) b (subst (λ (k : ℕ). ArePairsOf s k (drop at (signed_levels numbers)) bits) a is)
pairs_zeros s before at numbers bits (suc n) inside none is =
    let a : before + n + 1 ≡ before + suc n = omega arith in
    let b : at + n + 1 ≡ at + suc n = omega arith in
    let null : level_at (signed_levels numbers) (at + n) ≡ pos 0 = signed_at numbers (at + n) ∙ zero_of (slice_index numbers (at + n)) (none n (omega arith)) in
    let more = pairs_zero s (before + n) (at + n) (signed_levels numbers) bits (omega (arith, inside, signed_long numbers)) null
    (pairs_zeros s before at numbers bits n (omega (arith, inside)) (λ j lt. none j (omega (arith, lt))) is) in
    subst (λ (k : ℕ). ArePairsOf s (before + suc n) (drop k (signed_levels numbers)) bits) b (subst (λ (k : ℕ). ArePairsOf s k (drop (at + n + 1) (signed_levels numbers)) bits) a more)

-- where zeros go on up to a place they are a run
pub pairs_to : (s : PairState) (next place : ℕ) (numbers : List ℕ) (bits : List ℕ) → next ≤ place → place ≤ length numbers → ((e : ℕ) → next ≤ e → e < place → slice_index numbers e ≤ 1)
    → ArePairsOf s 0 (drop next (signed_levels numbers)) bits → ArePairsOf s (place - next) (drop place (signed_levels numbers)) bits
pairs_to s next place numbers bits order inside none is =
    let a : 0 + (place - next) ≡ place - next = omega arith in
    let b : next + (place - next) ≡ place = omega (arith, order) in
    subst (λ (k : ℕ). ArePairsOf s (place - next) (drop k (signed_levels numbers)) bits) b
    (subst (λ (k : ℕ). ArePairsOf s k (drop (next + (place - next)) (signed_levels numbers)) bits) a
    (pairs_zeros s 0 next numbers bits (place - next) (omega (arith, order, inside)) (λ j lt. none (next + j) (omega arith) (omega (arith, lt, order))) is))

-- the first level that is marked is that of the next pair, and the zeros before it are its run
pub pairs_marked : (s : PairState) (next place : ℕ) (numbers : List ℕ) (bits : List ℕ) → next ≤ place → place < length numbers → 2 ≤ slice_index numbers place
    → ((e : ℕ) → next ≤ e → e < place → slice_index numbers e ≤ 1)
    → ArePairsOf s 0 (drop next (signed_levels numbers)) bits
    → Split (λ one. PairSpells s one (pair_of (place - next) (signed_of (slice_index numbers place))))
    (ArePairsOf (pair_state (place - next) (unsigned_abs (signed_of (slice_index numbers place)) - 1)) 0 (drop (place + 1) (signed_levels numbers))) bits
pairs_marked s next place numbers bits order inside two none is =
    let levels : List ℤ = signed_levels numbers in
    let same : level_at levels place ≡ signed_of (slice_index numbers place) = signed_at numbers place in
    let some : level_at levels place ≢ pos 0 = λ e. (signed_is (slice_index numbers place) two).some (sym same ∙ e) in
    let P : ℤ → Type 0 = λ x. Split (λ one. PairSpells s one (pair_of (place - next) x)) (ArePairsOf (pair_state (place - next) (unsigned_abs x - 1)) 0 (drop (place + 1) levels)) bits in
    subst P same (pairs_level s (place - next) place levels bits (omega (arith, inside, signed_long numbers)) some (pairs_to s next place numbers bits order (omega (arith, inside)) none is))

-- where zeros go on up to the last level no bits are left
pub pairs_over : (s : PairState) (next : ℕ) (numbers : List ℕ) (bits : List ℕ) → next ≤ length numbers → ((e : ℕ) → next ≤ e → e < length numbers → slice_index numbers e ≤ 1)
    → ArePairsOf s 0 (drop next (signed_levels numbers)) bits → bits ≡ []
pairs_over s next numbers bits order none is =
    pairs_end s (length numbers - next) (length numbers) (signed_levels numbers) bits (omega (arith, signed_long numbers)) (pairs_to s next (length numbers) numbers bits order (omega arith) none is)

-- the marks of a word, of which the first one leaves out the DC levels
pub due_word : (numbers : List ℕ) (word blocks skip next marks : ℕ) → (word ≡ 0 → (skip ≡ blocks) × (next ≡ blocks)) → (0 < word → (skip ≡ 0) × (next ≤ 64 * word))
    → ((e : ℕ) → next ≤ e → e < 64 * word → slice_index numbers e ≤ 1) → AreDue numbers (64 * word) (64 * word + skip) marks → AreDue numbers (64 * word) next marks
due_word numbers zero blocks skip next marks first others none are =
    let there : 64 * 0 + skip ≡ next = omega (arith, first refl) in
    subst (λ (k : ℕ). AreDue numbers (64 * 0) k marks) there are
due_word numbers (suc word) blocks skip next marks first others none are =
    let later = others (omega arith) in
    due_from numbers (64 * suc word) next marks later.1 none (subst (λ (k : ℕ). AreDue numbers (64 * suc word) (64 * suc word + k) marks) later.0 are)

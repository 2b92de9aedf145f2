use Rattle.std.proofs.Common.{◌≡◌, ℕ, ◌+◌, ◌-◌, ◌/◌, ◌^◌, ◌<◌, ◌≤◌, List, ◌++◌, length, take, drop, refl, sym, ap, subst, ◌∙◌, arith, true, false, ◌⊎◌, inl, inr}
use Rattle.std.proofs.lemmas.List.{length-append, take_at, take-append-drop, append_cancel_left}
use Rattle.std.proofs.lemmas.Bool.{cases_lt}
use Rattle.bit_io.specs.Bits.{bits, zeros}
use Rattle.bit_io.specs.Read.{Reading, Takes}
use Rattle.bit_io.specs.laws.BitLaws.{bits-add, bits-zero, length-bits, length-zeros}
use Rattle.prores_codes.specs.Codes.{Parameters, Spells}
use Rattle.prores_codes.specs.inner.Forms.{IsFound, many_zeros}
use Rattle.prores_codes.specs.Spellings.{IsTooLong}
use Rattle.prores_codes.specs.laws.Apart.{spellings_are_apart, not_too_long}
use Rattle.prores_codes.specs.laws.Lengths.{IsNarrow}

-- the first bits of the 32 that are shown
abbrev pub First : ℕ → List ℕ → Type 0
First next left = (k : ℕ) → k ≤ 32 → k ≤ length left → bits k (next / 2 ^ (32 - k)) ≡ take k left

split_next : (next k : ℕ) → k ≤ 32 → bits 32 next ≡ bits k (next / 2 ^ (32 - k)) ++ bits (32 - k) next
split_next next k h =
    let whole : 32 ≡ k + (32 - k) = omega arith in
    ap (λ (j : ℕ). bits j next) whole ∙ bits-add k (32 - k) next

-- what stands first is shown first
there : (next : ℕ) (left s rest : List ℕ) → First next left → length s ≤ 32 → left ≡ s ++ rest → bits 32 next ≡ s ++ bits (32 - length s) next
there next left s rest first small e =
    split_next next (length s) small
    ∙ ap (λ (bs : List ℕ). bs ++ bits (32 - length s) next)
    (first (length s) small (omega (arith, ap length e, length-append s rest)) ∙ (ap (take (length s)) e ∙ take_at s rest (length s) refl))

many_there : (code : Parameters) (next : ℕ) → IsNarrow code → next / 2 ^ (32 - many_zeros code) ≡ 0 → bits 32 next ≡ zeros (many_zeros code) ++ bits (32 - many_zeros code) next
many_there code next narrow none =
    let c : ℕ = many_zeros code in
    split_next next c (omega (arith, narrow.switch)) ∙ ap (λ (bs : List ℕ). bs ++ bits (32 - c) next) (ap (bits c) none ∙ bits-zero c)

-- the spelling that was found passes the end, so none is whole
pub none_whole : (code : Parameters) (next size n m : ℕ) (left s rest : List ℕ) → IsFound code next size n → First next left → length left < size → Spells code s m → left ≡ s ++ rest → ⊥
none_whole code next size n m left s rest found first past spells e =
    let one = spellings_are_apart code s (bits size (next / 2 ^ (32 - size))) (bits (32 - length s) next) (bits (32 - size) next) m n spells found.spelled
    (sym (there next left s rest first spells.most e) ∙ split_next next size found.most) in
    omega (arith, ap length one.0, length-bits size (next / 2 ^ (32 - size)), ap length e, length-append s rest)

pub found_not_long : (code : Parameters) (next size n : ℕ) (left : List ℕ) → IsFound code next size n → First next left → length left < size → IsTooLong code left → ⊥
found_not_long code next size n left found first past long =
    let c : ℕ = long.count in
    let room : c ≤ 32 = omega (arith, ap length long.there, length-append (zeros c) long.rest, length-zeros c, found.most) in
    let shown : bits 32 next ≡ zeros c ++ bits (32 - length (zeros c)) next =
    there next left (zeros c) long.rest first (omega (arith, room, length-zeros c)) long.there in
    not_too_long code (bits size (next / 2 ^ (32 - size))) (bits (32 - size) next) (bits (32 - length (zeros c)) next) n c found.spelled long.above long.long
    (sym (split_next next size found.most) ∙ shown)

-- the spelling that was found is the one that stands there
pub found_again : (code : Parameters) (next size n m : ℕ) (old new : Reading) (s rest : List ℕ) → IsFound code next size n → First next old.left → size ≤ length old.left → Takes old new (take size old.left)
    → Spells code s m → old.left ≡ s ++ rest → (n ≡ m) × (new.left ≡ rest)
found_again code next size n m old new s rest found first room taken spells e =
    let is : bits size (next / 2 ^ (32 - size)) ≡ take size old.left = first size found.most room in
    let P : List ℕ → Type 0 = λ bs. Spells code bs n in
    let same : (take size old.left) ++ new.left ≡ s ++ rest = sym taken.left ∙ e in
    let one = spellings_are_apart code (take size old.left) s new.left rest n m (subst P is found.spelled) spells same in
    (one.1, append_cancel_left s new.left rest (ap (λ (bs : List ℕ). bs ++ new.left) (sym one.0) ∙ same))

pub found_reads : (code : Parameters) (next size n : ℕ) (left : List ℕ) → IsFound code next size n → First next left → size ≤ length left → Spells code (take size left) n
found_reads code next size n left found first room =
    let P : List ℕ → Type 0 = λ bs. Spells code bs n in
    subst P (first size found.most room) found.spelled

-- nothing is spelled behind too many zeros
pub none_spelled : (code : Parameters) (next m : ℕ) (left s rest : List ℕ) → IsNarrow code → next / 2 ^ (32 - many_zeros code) ≡ 0 → First next left → Spells code s m → left ≡ s ++ rest → ⊥
none_spelled code next m left s rest narrow none first spells e =
    not_too_long code s (bits (32 - length s) next) (bits (32 - many_zeros code) next) m (many_zeros code) spells (omega (arith, narrow.switch, narrow.golomb)) (omega (arith, narrow.switch, narrow.golomb))
    (sym (there next left s rest first spells.most e) ∙ many_there code next narrow none)

pub is_too_long : (code : Parameters) (next : ℕ) (left : List ℕ) → IsNarrow code → next / 2 ^ (32 - many_zeros code) ≡ 0 → First next left → many_zeros code ≤ length left → IsTooLong code left
is_too_long code next left narrow none first room =
    let c : ℕ = many_zeros code in
    let zero : take c left ≡ zeros c = sym (first c (omega (arith, narrow.switch)) room) ∙ (ap (bits c) none ∙ bits-zero c) in
    record {
      count = c;
      rest = drop c left;
      above = omega (arith, narrow.switch, narrow.golomb);
      long = omega (arith, narrow.switch, narrow.golomb);
      there = sym (take-append-drop c left) ∙ ap (λ (bs : List ℕ). bs ++ drop c left) zero;
    }

pub not_too_many : (code : Parameters) (left : List ℕ) → IsNarrow code → length left < many_zeros code → IsTooLong code left → ⊥
not_too_many code left narrow few long =
    omega (arith, long.long, long.above, ap length long.there, length-append (zeros long.count) long.rest, length-zeros long.count, narrow.switch, narrow.golomb)

-- where the bits don't reach
pub past_end : (size room : ℕ) → (size ≤ room → false ≡ true) → room < size
past_end size room h = cases (cases_lt room size)
  where
    cases : (room < size) ⊎ (size ≤ room) → room < size
    cases (inl lt) = lt
    cases (inr le) = let never : false ≡ true = h le in absurd (cc)

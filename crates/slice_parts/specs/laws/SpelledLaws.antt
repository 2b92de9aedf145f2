-- Laws of the spelling of levels: that it is there, that there is one, and how long it is: proved here, for proofs to cite.
use Rattle.std.proofs.Common.{◌≡◌, ◌≢◌, ℕ, zero, suc, ℤ, pos, negsuc, neg_ℤ, ◌-ℤ◌, ◌+◌, ◌-◌, ◌*◌, ◌/◌, ◌%◌, ◌==◌, ◌^◌, ◌≤◌, ◌<◌, List, [], ◌∷◌, ◌++◌, length, take, drop, replicate, refl, sym, ap, ◌∙◌, arith, Bool, true, false, if◌then◌else◌, nat_lt}
use Rattle.std.specs.List.{flat_map}
use Rattle.std.specs.Int.RustNames.{unsigned_abs}
use Rattle.std.proofs.lemmas.Int.{ints}
use Rattle.std.proofs.lemmas.List.{append_assoc, append-nil, length-append, length-take, length-drop}
use Rattle.prores_codes.specs.Codes.{Fits, Parameters, combination, order}
use Rattle.prores_codes.specs.Choices.{dc_parameters, run_parameters, level_parameters}
use Rattle.prores_codes.specs.Folded.{folded}
use Rattle.prores_codes.specs.laws.Digits.{pow_le}
use Rattle.prores_codes.specs.laws.Lengths.{IsNarrow, narrow_first, narrow_dc, narrow_run, narrow_level, small_fits, each_fits, each_length}
use Rattle.prores_codes.specs.laws.Apart.{one_spelling}
use Rattle.prores_scan.specs.HalfSteps.{AreAtMost}
use Rattle.prores_scan.specs.ScaledLevels.{signed_of}
use Rattle.slice_parts.specs.Dc.{DcState, dc_next, dc_number, dc_code_of, IsDc}
use Rattle.slice_parts.specs.Dc.DcState.{First, Behind}
use Rattle.slice_parts.specs.Pairs.{Pair, PairState, PairSpells, ArePairsOf, pair_state, pair_of, first_pair, levels_of, sign_bit}
use Rattle.slice_parts.specs.Component.{IsSpelled, AreSmall, signed_levels}
use Rattle.slice_parts.specs.laws.PairSteps.{zero_more, pairs_zero, pairs_level, pairs_end}

-- a size with a sign as its last bit means a level of this size
signed_size : (n : ℕ) → unsigned_abs (signed_of n) ≡ n / 2
signed_size n = cases (n % 2 == 0) (n / 2)
  where
    cases : (plus : Bool) (half : ℕ) → unsigned_abs (if plus then pos half else neg_ℤ (pos half)) ≡ half
    cases true half = refl
    cases false zero = refl
    cases false (suc half) = refl

-- numbers of at most 2^14 + 1 mean small levels
pub numbers_small : (numbers : List ℕ) → AreAtMost (2 ^ 14 + 1) numbers → AreSmall (signed_levels numbers)
numbers_small [] most k = omega arith
numbers_small (n ∷ numbers) most zero = omega (arith, signed_size n, most 0 (omega arith))
numbers_small (n ∷ numbers) most (suc k) = numbers_small numbers (λ j lt. most (suc j) (omega (arith, lt))) k

-- small levels stay small in part
small_take : (n : ℕ) (levels : List ℤ) → AreSmall levels → AreSmall (take n levels)
small_take zero levels small k = omega arith
small_take (suc n) [] small k = omega arith
small_take (suc n) (x ∷ levels) small zero = small 0
small_take (suc n) (x ∷ levels) small (suc k) = small_take n levels (λ j. small (suc j)) k

small_drop : (n : ℕ) (levels : List ℤ) → AreSmall levels → AreSmall (drop n levels)
small_drop zero levels small = small
small_drop (suc n) [] small = small
small_drop (suc n) (x ∷ levels) small = small_drop n levels (λ j. small (suc j))

folded_small : (z : ℤ) → unsigned_abs z ≤ 2 ^ 14 → folded z ≤ 2 ^ 15
folded_small (pos n) h = omega (arith, h)
folded_small (negsuc n) h = omega (arith, h)

-- a state behind a small level
abbrev IsNear : DcState → Type 0
IsNear First = Unit {0}
IsNear (Behind b d) = unsigned_abs b ≤ 2 ^ 13

number_small : (s : DcState) (x : ℤ) → IsNear s → unsigned_abs x ≤ 2 ^ 13 → dc_number s x ≤ 2 ^ 15
number_small First x near h = folded_small x (omega (arith, h))
number_small (Behind b (pos d)) x near h = folded_small (x -ℤ b) (omega (arith, ints, near, h))
number_small (Behind b (negsuc d)) x near h = folded_small (neg_ℤ (x -ℤ b)) (omega (arith, ints, near, h))

near_next : (s : DcState) (x : ℤ) → unsigned_abs x ≤ 2 ^ 13 → IsNear (dc_next s x)
near_next First x h = h
near_next (Behind b d) x h = h

-- a code of DC levels has no more short zeros than its order
pub dc_switch : (size : ℕ) → (dc_parameters size).a ≤ (dc_parameters size).e
dc_switch size = either (nat_lt size 1) (nat_lt size 2) (nat_lt size 3)
  where
    either : (b c d : Bool) → (if b then order 0 else if c then order 1 else if d then combination 1 2 3 else order 3).a ≤ (if b then order 0 else if c then order 1 else if d then combination 1 2 3 else order 3).e
    either true c d = omega arith
    either false true d = omega arith
    either false false true = omega arith
    either false false false = omega arith

switch_of : (s : DcState) → (dc_code_of s).a ≤ (dc_code_of s).e
switch_of First = omega arith
switch_of (Behind b d) = dc_switch (unsigned_abs d)

narrow_of : (s : DcState) → IsNarrow (dc_code_of s)
narrow_of First = narrow_first
narrow_of (Behind b d) = narrow_dc (unsigned_abs d)

dc_fits : (code : Parameters) (n : ℕ) → IsNarrow code → code.a ≤ code.e → n ≤ 2 ^ 15 → Fits code n
dc_fits code n narrow switch small =
    let power : 2 ^ code.e ≤ 64 = pow_le code.e 6 narrow.golomb in
    small_fits code n 16 narrow (omega (arith, power, small)) (omega (arith, switch))

-- small DC levels have a spelling
has_dc : (levels : List ℤ) (s : DcState) → IsNear s → AreSmall levels → (bits : List ℕ) × IsDc s levels bits
has_dc [] s near small = ([], refl)
has_dc (x ∷ levels) s near small =
    let one = dc_fits (dc_code_of s) (dc_number s x) (narrow_of s) (switch_of s) (number_small s x near (small 0)) in
    let others = has_dc levels (dc_next s x) (near_next s x (small 0)) (λ k. small (suc k)) in
    (one.0 ++ others.0, record { one = one.0; rest = others.0; head = one.1; tail = others.1; joined = refl })

-- a small level has a pair behind so many zeros
has_pair : (s : PairState) (before : ℕ) (x : ℤ) → x ≢ pos 0 → before ≤ 2 ^ 13 → unsigned_abs x ≤ 2 ^ 13 → (bits : List ℕ) × PairSpells s bits (pair_of before x)
has_pair s before x some few small =
    let run = each_fits (run_parameters s.run) before (narrow_run s.run) (omega (arith, few)) in
    let size = each_fits (level_parameters s.size_less_one) (unsigned_abs x - 1) (narrow_level s.size_less_one) (omega (arith, small)) in
    (run.0 ++ (size.0 ++ sign_bit x ∷ []), record { some = some; run = run.0; size = size.0; run_spelled = run.1; size_spelled = size.1; joined = refl })

-- a level in front of levels that have pairs
pair_more : (s : PairState) (before : ℕ) (x : ℤ) (levels : List ℤ) → x ≢ pos 0 → before ≤ 2 ^ 13 → unsigned_abs x ≤ 2 ^ 13
    → (bits : List ℕ) × ArePairsOf (pair_state before (unsigned_abs x - 1)) 0 levels bits → (bits : List ℕ) × ArePairsOf s before (x ∷ levels) bits
pair_more s before x levels some few small others =
    let one = has_pair s before x some few small in
    let rest : List ℤ = flat_map levels_of others.1.pairs ++ replicate others.1.behind (pos 0) in (
      one.0 ++ others.0,
      record {
        pairs = pair_of before x ∷ others.1.pairs;
        behind = others.1.behind;
        entries = ap (λ (zs : List ℤ). replicate before (pos 0) ++ x ∷ zs) others.1.entries
            ∙ (sym (append_assoc (replicate before (pos 0)) (x ∷ []) rest) ∙ sym (append_assoc (replicate before (pos 0) ++ x ∷ []) (flat_map levels_of others.1.pairs) (replicate others.1.behind (pos 0))));
        coded = record { one = one.0; rest = others.0; head = one.1; tail = others.1.coded; joined = refl };
      },
    )

-- small levels have pairs
has_pairs : (levels : List ℤ) (s : PairState) (before : ℕ) → before + length levels ≤ 2 ^ 13 → AreSmall levels → (bits : List ℕ) × ArePairsOf s before levels bits
has_pairs [] s before few small = ([], record { pairs = []; behind = before; entries = append-nil (replicate before (pos 0)); coded = refl })
has_pairs (pos zero ∷ levels) s before few small =
    let others = has_pairs levels s (before + 1) (omega (arith, few)) (λ k. small (suc k)) in
    (others.0, record { pairs = others.1.pairs; behind = others.1.behind; entries = sym (zero_more before levels) ∙ others.1.entries; coded = others.1.coded })
has_pairs (pos (suc n) ∷ levels) s before few small =
    pair_more s before (pos (suc n)) levels (λ e. absurd (omega (arith, ap unsigned_abs e))) (omega (arith, few)) (small 0)
    (has_pairs levels (pair_state before (unsigned_abs (pos (suc n)) - 1)) 0 (omega (arith, few)) (λ k. small (suc k)))
has_pairs (negsuc n ∷ levels) s before few small =
    pair_more s before (negsuc n) levels (λ e. absurd (omega (arith, ap unsigned_abs e))) (omega (arith, few)) (small 0)
    (has_pairs levels (pair_state before (unsigned_abs (negsuc n) - 1)) 0 (omega (arith, few)) (λ k. small (suc k)))

-- small levels have a spelling
pub has_spelling : (blocks : ℕ) (levels : List ℤ) → blocks ≤ 32 → length levels ≡ 64 * blocks → AreSmall levels → (bits : List ℕ) × IsSpelled blocks levels bits
has_spelling blocks levels few long small =
    let dc = has_dc (take blocks levels) First tt (small_take blocks levels small) in
    let others = has_pairs (drop blocks levels) first_pair 0 (omega (arith, length-drop blocks levels, long, few)) (small_drop blocks levels small) in
    (dc.0 ++ others.0, record { long = long; part = record { one = dc.0; rest = others.0; head = dc.1; tail = others.1; joined = refl } })

-- DC levels have one spelling at most
one_dc : (levels : List ℤ) (s : DcState) (a b : List ℕ) → IsDc s levels a → IsDc s levels b → a ≡ b
one_dc [] s a b one two = one ∙ sym two
one_dc (x ∷ levels) s a b one two =
    one.joined
    ∙ (ap (λ (bs : List ℕ). bs ++ one.rest) (one_spelling (dc_code_of s) one.one two.one (dc_number s x) one.head two.head)
    ∙ (ap (λ (bs : List ℕ). two.one ++ bs) (one_dc levels (dc_next s x) one.rest two.rest one.tail two.tail) ∙ sym two.joined))

one_pair : (s : PairState) (a b : List ℕ) (p : Pair) → PairSpells s a p → PairSpells s b p → a ≡ b
one_pair s a b p one two =
    one.joined
    ∙ (ap (λ (bs : List ℕ). bs ++ (one.size ++ sign_bit p.level ∷ [])) (one_spelling (run_parameters s.run) one.run two.run p.run one.run_spelled two.run_spelled)
    ∙ (ap (λ (bs : List ℕ). two.run ++ (bs ++ sign_bit p.level ∷ [])) (one_spelling (level_parameters s.size_less_one) one.size two.size (unsigned_abs p.level - 1) one.size_spelled two.size_spelled) ∙ sym two.joined))

-- and so have the others
one_pairs : (levels : List ℤ) (s : PairState) (before : ℕ) (a b : List ℕ) → ArePairsOf s before levels a → ArePairsOf s before levels b → a ≡ b
one_pairs [] s before a b one two = pairs_end s before 0 [] a (omega arith) one ∙ sym (pairs_end s before 0 [] b (omega arith) two)
one_pairs (pos zero ∷ levels) s before a b one two =
    one_pairs levels s (before + 1) a b (pairs_zero s before 0 (pos zero ∷ levels) a (omega arith) refl one) (pairs_zero s before 0 (pos zero ∷ levels) b (omega arith) refl two)
one_pairs (pos (suc n) ∷ levels) s before a b one two =
    let some : pos (suc n) ≢ pos 0 = λ e. absurd (omega (arith, ap unsigned_abs e)) in
    let p = pairs_level s before 0 (pos (suc n) ∷ levels) a (omega arith) some one in
    let q = pairs_level s before 0 (pos (suc n) ∷ levels) b (omega arith) some two in
    p.joined
    ∙ (ap (λ (bs : List ℕ). bs ++ p.rest) (one_pair s p.one q.one (pair_of before (pos (suc n))) p.head q.head)
    ∙ (ap (λ (bs : List ℕ). q.one ++ bs) (one_pairs levels (pair_state before (unsigned_abs (pos (suc n)) - 1)) 0 p.rest q.rest p.tail q.tail) ∙ sym q.joined))
one_pairs (negsuc n ∷ levels) s before a b one two =
    let some : negsuc n ≢ pos 0 = λ e. absurd (omega (arith, ap unsigned_abs e)) in
    let p = pairs_level s before 0 (negsuc n ∷ levels) a (omega arith) some one in
    let q = pairs_level s before 0 (negsuc n ∷ levels) b (omega arith) some two in
    p.joined
    ∙ (ap (λ (bs : List ℕ). bs ++ p.rest) (one_pair s p.one q.one (pair_of before (negsuc n)) p.head q.head)
    ∙ (ap (λ (bs : List ℕ). q.one ++ bs) (one_pairs levels (pair_state before (unsigned_abs (negsuc n) - 1)) 0 p.rest q.rest p.tail q.tail) ∙ sym q.joined))

-- levels have one spelling at most
pub one_spelling_each : (blocks : ℕ) (levels : List ℤ) (a b : List ℕ) → IsSpelled blocks levels a → IsSpelled blocks levels b → a ≡ b
one_spelling_each blocks levels a b one two =
    one.part.joined
    ∙ (ap (λ (bs : List ℕ). bs ++ one.part.rest) (one_dc (take blocks levels) First one.part.one two.part.one one.part.head two.part.head)
    ∙ (ap (λ (bs : List ℕ). two.part.one ++ bs) (one_pairs (drop blocks levels) first_pair 0 one.part.rest two.part.rest one.part.tail two.part.tail) ∙ sym two.part.joined))

-- a DC level has at most 32 bits
dc_short : (levels : List ℤ) (s : DcState) (bits : List ℕ) → IsDc s levels bits → length bits ≤ 32 * length levels
dc_short [] s bits is = omega (arith, ap length is)
dc_short (x ∷ levels) s bits is =
    omega (arith, ap length is.joined, length-append is.one is.rest, is.head.most, dc_short levels (dc_next s x) is.rest is.tail)

-- the pair of a small level behind few zeros has at most 61 bits
pair_short : (s : PairState) (before : ℕ) (x : ℤ) (bits : List ℕ) → before < 2 ^ 13 → unsigned_abs x ≤ 2 ^ 13 → PairSpells s bits (pair_of before x) → length bits ≤ 61
pair_short s before x bits few small is =
    let run = each_length (run_parameters s.run) is.run before (narrow_run s.run) is.run_spelled few in
    let size = each_length (level_parameters s.size_less_one) is.size (unsigned_abs x - 1) (narrow_level s.size_less_one) is.size_spelled (omega (arith, small)) in
    omega (arith, run, size, ap length is.joined, length-append is.run (is.size ++ sign_bit x ∷ []), length-append is.size (sign_bit x ∷ []))

pairs_short : (levels : List ℤ) (s : PairState) (before : ℕ) (bits : List ℕ) → before + length levels ≤ 2 ^ 13 → AreSmall levels → ArePairsOf s before levels bits → length bits ≤ 61 * length levels
pairs_short [] s before bits few small is = omega (arith, ap length (pairs_end s before 0 [] bits (omega arith) is))
pairs_short (pos zero ∷ levels) s before bits few small is =
    omega (arith, pairs_short levels s (before + 1) bits (omega (arith, few)) (λ k. small (suc k)) (pairs_zero s before 0 (pos zero ∷ levels) bits (omega arith) refl is))
pairs_short (pos (suc n) ∷ levels) s before bits few small is =
    let some : pos (suc n) ≢ pos 0 = λ e. absurd (omega (arith, ap unsigned_abs e)) in
    let p = pairs_level s before 0 (pos (suc n) ∷ levels) bits (omega arith) some is in
    omega (
      arith,
      ap length p.joined,
      length-append p.one p.rest,
      pair_short s before (pos (suc n)) p.one (omega (arith, few)) (small 0) p.head,
      pairs_short levels (pair_state before (unsigned_abs (pos (suc n)) - 1)) 0 p.rest (omega (arith, few)) (λ k. small (suc k)) p.tail,
    )
pairs_short (negsuc n ∷ levels) s before bits few small is =
    let some : negsuc n ≢ pos 0 = λ e. absurd (omega (arith, ap unsigned_abs e)) in
    let p = pairs_level s before 0 (negsuc n ∷ levels) bits (omega arith) some is in
    omega (
      arith,
      ap length p.joined,
      length-append p.one p.rest,
      pair_short s before (negsuc n) p.one (omega (arith, few)) (small 0) p.head,
      pairs_short levels (pair_state before (unsigned_abs (negsuc n) - 1)) 0 p.rest (omega (arith, few)) (λ k. small (suc k)) p.tail,
    )

-- small levels have at most 32 bits a DC level and 61 bits another
pub spelled_short : (blocks : ℕ) (levels : List ℤ) (bits : List ℕ) → blocks ≤ 32 → AreSmall levels → IsSpelled blocks levels bits → length bits ≤ 3875 * blocks
spelled_short blocks levels bits few small is =
    omega (
      arith,
      is.long,
      ap length is.part.joined,
      length-append is.part.one is.part.rest,
      length-take blocks levels,
      length-drop blocks levels,
      dc_short (take blocks levels) First is.part.one is.part.head,
      pairs_short (drop blocks levels) first_pair 0 is.part.rest (omega (arith, length-drop blocks levels, is.long, few)) (small_drop blocks levels small) is.part.tail,
    )

-- Laws of spellings that stand in bits: proved here, for proofs to cite.
use Rattle.std.proofs.Common.{◌≡◌, ℕ, zero, suc, ◌+◌, ◌-◌, ◌*◌, ◌/◌, ◌%◌, ◌^◌, ◌<◌, ◌≤◌, List, [], ◌∷◌, ◌++◌, length, drop, sym, ap, subst, ◌∙◌, arith, ◌⊎◌, inl, inr}
use Rattle.std.proofs.lemmas.List.{length-append, append_assoc, append-nil}
use Rattle.std.proofs.lemmas.Nat.{pow_pos, shr_split, mod_below}
use Rattle.bit_io.specs.Bits.{bits, zeros}
use Rattle.bit_io.specs.laws.BitLaws.{bits-mod, bits-same, length-zeros, same_parts}
use Rattle.prores_codes.specs.Codes.{Parameters, Spells, IsShort, IsLong, long_number}
use Rattle.prores_codes.specs.laws.Digits.{digits_same, highest_digit}
use Rattle.prores_codes.specs.laws.Lengths.{short_zeros, short_length, long_more, long_length}

-- zeros before a one are at least as many as zeros before anything
pub zeros_first : (z c : ℕ) (w u : List ℕ) → zeros z ++ 1 ∷ w ≡ zeros c ++ u → c ≤ z
unfolding zeros
zeros_first z zero w u e = omega arith
zeros_first zero (suc c) w u e = absurd (cc)
zeros_first (suc z) (suc c) w u e = omega (arith, zeros_first z c w u (ap (drop 1) e))

zeros_same : (z z' : ℕ) (w w' : List ℕ) → zeros z ++ 1 ∷ w ≡ zeros z' ++ 1 ∷ w' → z ≡ z'
zeros_same z z' w w' e = omega (arith, zeros_first z z' w (1 ∷ w') e, zeros_first z' z w' (1 ∷ w) (sym e))

-- a long spelling has a one behind its zeros
pub long_starts : (code : Parameters) (s : List ℕ) (n : ℕ) → (is : IsLong code s n) → s ≡ zeros (code.a + 1 + (is.digits - 1 - code.e)) ++ 1 ∷ bits (is.digits - 1) (long_number code n)
long_starts code s n is = is.spelled ∙ ap (λ (bs : List ℕ). zeros (code.a + 1 + (is.digits - 1 - code.e)) ++ bs) (highest_digit is.digits (long_number code n) is.binary)

-- no spelling begins with so many zeros that it would be too long
pub not_too_long : (code : Parameters) (s t u : List ℕ) (n c : ℕ) → Spells code s n → code.a < c → 32 + code.a < code.e + 2 * c → s ++ t ≡ zeros c ++ u → ⊥
not_too_long code s t u n c spells above long e = cases spells.cases
  where
    cases : IsShort code s n ⊎ IsLong code s n → ⊥
    cases (inl is) =
        let z : ℕ = n / 2 ^ code.r in
        let less : c ≤ z = zeros_first z c (bits code.r n ++ t) u (sym (append_assoc (zeros z) (1 ∷ bits code.r n) t) ∙ (ap (λ (bs : List ℕ). bs ++ t) (sym is.spelled) ∙ e)) in
        omega (arith, less, short_zeros code n is.small)
    cases (inr is) =
        let z : ℕ = code.a + 1 + (is.digits - 1 - code.e) in
        let w : List ℕ = bits (is.digits - 1) (long_number code n) in
        let less : c ≤ z = zeros_first z c (w ++ t) u (sym (append_assoc (zeros z) (1 ∷ w) t) ∙ (ap (λ (bs : List ℕ). bs ++ t) (sym (long_starts code s n is)) ∙ e)) in
        omega (arith, less, long_length code s n is, spells.most, long_more code s n is)

-- spellings that begin the same bits have as many zeros
starts_same : (s s' t t' w w' : List ℕ) (z z' : ℕ) → s ≡ zeros z ++ 1 ∷ w → s' ≡ zeros z' ++ 1 ∷ w' → s ++ t ≡ s' ++ t' → z ≡ z'
starts_same s s' t t' w w' z z' one two e =
    zeros_same z z' (w ++ t) (w' ++ t')
    (sym (append_assoc (zeros z) (1 ∷ w) t)
    ∙ (ap (λ (bs : List ℕ). bs ++ t) (sym one) ∙ (e ∙ (ap (λ (bs : List ℕ). bs ++ t') two ∙ append_assoc (zeros z') (1 ∷ w') t'))))

one_short : (code : Parameters) (s s' t t' : List ℕ) (n n' : ℕ) → IsShort code s n → IsShort code s' n' → s ++ t ≡ s' ++ t' → (s ≡ s') × (n ≡ n')
one_short code s s' t t' n n' one two e =
    let r : ℕ = code.r in
    let z : ℕ = n / 2 ^ r in
    let z' : ℕ = n' / 2 ^ r in
    let same : z ≡ z' = starts_same s s' t t' (bits r n) (bits r n') z z' one.spelled two.spelled e in
    let size : length s ≡ length s' = omega (arith, short_length code s n one, short_length code s' n' two) in
    let first : s ≡ s' = (same_parts s s' t t' size e).0 in
    let lows : 1 ∷ bits r n ≡ 1 ∷ bits r n' =
    (same_parts (zeros z) (zeros z') (1 ∷ bits r n) (1 ∷ bits r n') (ap (λ (k : ℕ). length (zeros k)) same) (sym one.spelled ∙ (first ∙ two.spelled))).1 in
    let low : n % 2 ^ r ≡ n' % 2 ^ r =
    bits-same r (n % 2 ^ r) (n' % 2 ^ r) (mod_below n (2 ^ r) (pow_pos r)) (mod_below n' (2 ^ r) (pow_pos r))
    (bits-mod r r n (omega arith) ∙ (ap (drop 1) lows ∙ sym (bits-mod r r n' (omega arith)))) in
    (first, sym (shr_split n r) ∙ (ap (λ (k : ℕ). k * 2 ^ r + n % 2 ^ r) same ∙ (ap (λ (k : ℕ). z' * 2 ^ r + k) low ∙ shr_split n' r)))

one_long : (code : Parameters) (s s' t t' : List ℕ) (n n' : ℕ) → IsLong code s n → IsLong code s' n' → s ++ t ≡ s' ++ t' → (s ≡ s') × (n ≡ n')
one_long code s s' t t' n n' one two e =
    let m : ℕ = long_number code n in
    let m' : ℕ = long_number code n' in
    let z : ℕ = code.a + 1 + (one.digits - 1 - code.e) in
    let z' : ℕ = code.a + 1 + (two.digits - 1 - code.e) in
    let same : z ≡ z' = starts_same s s' t t' (bits (one.digits - 1) m) (bits (two.digits - 1) m') z z' (long_starts code s n one) (long_starts code s' n' two) e in
    let digits : two.digits ≡ one.digits = omega (arith, same, long_more code s n one, long_more code s' n' two) in
    let size : length s ≡ length s' = omega (arith, digits, long_length code s n one, long_length code s' n' two) in
    let first : s ≡ s' = (same_parts s s' t t' size e).0 in
    let lows : bits one.digits m ≡ bits two.digits m' =
    (same_parts (zeros z) (zeros z') (bits one.digits m) (bits two.digits m') (ap (λ (k : ℕ). length (zeros k)) same) (sym one.spelled ∙ (first ∙ two.spelled))).1 in
    let small : m' < 2 ^ one.digits = subst (λ (k : ℕ). m' < 2 ^ k) digits two.binary.all in
    let number : m ≡ m' = bits-same one.digits m m' one.binary.all small (lows ∙ ap (λ (k : ℕ). bits k m') digits) in
    (first, omega (arith, number, one.large, two.large))

not_both : (code : Parameters) (s s' t t' : List ℕ) (n n' : ℕ) → IsShort code s n → IsLong code s' n' → s ++ t ≡ s' ++ t' → ⊥
not_both code s s' t t' n n' one two e =
    let same : n / 2 ^ code.r ≡ code.a + 1 + (two.digits - 1 - code.e) =
    starts_same s s' t t' (bits code.r n) (bits (two.digits - 1) (long_number code n')) (n / 2 ^ code.r) (code.a + 1 + (two.digits - 1 - code.e)) one.spelled (long_starts code s' n' two) e in
    omega (arith, same, short_zeros code n one.small)

-- no spelling is the beginning of another, and bits begin with one of one number at most
pub spellings_are_apart : (code : Parameters) (one two rest others : List ℕ) (m n : ℕ) → Spells code one m → Spells code two n
    → one ++ rest ≡ two ++ others → (one ≡ two) × (m ≡ n)
spellings_are_apart code s s' t t' n n' one two e = cases one.cases two.cases
  where
    cases : IsShort code s n ⊎ IsLong code s n → IsShort code s' n' ⊎ IsLong code s' n' → (s ≡ s') × (n ≡ n')
    cases (inl is) (inl of) = one_short code s s' t t' n n' is of e
    cases (inl is) (inr of) = absurd (not_both code s s' t t' n n' is of e)
    cases (inr is) (inl of) = absurd (not_both code s' s t' t n' n of is (sym e))
    cases (inr is) (inr of) = one_long code s s' t t' n n' is of e

-- a number has one spelling at most
pub one_spelling : (code : Parameters) (one two : List ℕ) (n : ℕ) → Spells code one n → Spells code two n → one ≡ two
one_spelling code one two n first second = cases first.cases second.cases
  where
    cases : IsShort code one n ⊎ IsLong code one n → IsShort code two n ⊎ IsLong code two n → one ≡ two
    cases (inl is) (inl of) = is.spelled ∙ sym of.spelled
    cases (inl is) (inr of) = absurd (omega (arith, is.small, of.large))
    cases (inr is) (inl of) = absurd (omega (arith, of.small, is.large))
    cases (inr is) (inr of) =
        let same : is.digits ≡ of.digits = digits_same is.digits of.digits (long_number code n) is.binary of.binary in
        is.spelled
        ∙ (ap (λ (d : ℕ). zeros (code.a + 1 + (d - 1 - code.e)) ++ bits d (long_number code n)) same
        ∙ sym of.spelled)

-- no spelling is the beginning of zeros alone
pub has_one : (code : Parameters) (spelling rest : List ℕ) (n k : ℕ) → Spells code spelling n → spelling ++ rest ≡ zeros k → ⊥
has_one code s rest n k spells e = cases spells.cases
  where
    at : (z : ℕ) (w : List ℕ) → s ≡ zeros z ++ 1 ∷ w → ⊥
    at z w is =
        let whole : zeros z ++ 1 ∷ (w ++ rest) ≡ zeros k = sym (append_assoc (zeros z) (1 ∷ w) rest) ∙ (ap (λ (bs : List ℕ). bs ++ rest) (sym is) ∙ e) in
        let less : k ≤ z = zeros_first z k (w ++ rest) [] (whole ∙ sym (append-nil (zeros k))) in
        absurd (omega (arith, less, ap length whole, length-append (zeros z) (1 ∷ (w ++ rest)), length-zeros z, length-zeros k))

    cases : IsShort code s n ⊎ IsLong code s n → ⊥
    cases (inl is) = at (n / 2 ^ code.r) (bits code.r n) is.spelled
    cases (inr is) = at (code.a + 1 + (is.digits - 1 - code.e)) (bits (is.digits - 1) (long_number code n)) (long_starts code s n is)

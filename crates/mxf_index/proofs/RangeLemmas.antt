-- Tests of the numbers below a bound, one after the other.
use Rattle.std.proofs.Common.{◌≡◌, ℕ, zero, suc, ◌+◌, ◌<◌, List, [], ◌∷◌, ◌++◌, Bool, true, false, cond, Option, Some, None}
use Rattle.std.proofs.Common.{refl, sym, ap, ◌∙◌, arith}
use Rattle.std.proofs.lemmas.List.FromFn.{length-range_with_len, get_or-range_with_len}
use Rattle.std.proofs.lemmas.List.Folds.{find-append, list_all-append, list_all_at}
use Rattle.std.specs.List.{range_with_len, list_all, find}

-- one number more
range_more : (a n : ℕ) → range_with_len a (suc n) ≡ range_with_len a n ++ (a + n) ∷ []
range_more a zero = ap (λ (m : ℕ). m ∷ []) (omega arith)
range_more a (suc n) =
    ap (λ (xs : List ℕ). a ∷ xs) (range_more (a + 1) n ∙ ap (λ (m : ℕ). range_with_len (a + 1) n ++ m ∷ []) (omega arith))

-- the numbers below the next bound
pub one_more : (n : ℕ) → range_with_len 0 (n + 1) ≡ range_with_len 0 n ++ n ∷ []
one_more n =
    let next : n + 1 ≡ suc n = omega arith in
    ap (range_with_len 0) next ∙ range_more 0 n ∙ ap (λ (m : ℕ). range_with_len 0 n ++ m ∷ []) (omega arith)

-- none up to a number, and not that one
pub none_more : (test : ℕ → Bool) (k : ℕ) → find test (range_with_len 0 k) ≡ None → test k ≡ false → find test (range_with_len 0 (k + 1)) ≡ None
none_more test k before not =
    ap (find test) (one_more k) ∙ find-append test (range_with_len 0 k) (k ∷ []) ∙ rw (before, not) refl

-- a number that fails, and what is behind it
pub passed : (b : Bool) (x : ℕ) (rest : Option ℕ) → cond b (Some x) rest ≡ None → (b ≡ false) × (rest ≡ None)
passed true x rest e = absurd (cc)
passed false x rest e = (refl, e)

-- none before a number that holds
first_from : (test : ℕ → Bool) (a k n : ℕ) → k < n → find test (range_with_len a k) ≡ None → test (a + k) ≡ true
    → find test (range_with_len a n) ≡ Some (a + k)
first_from test a k zero less before holds = absurd (omega arith)
first_from test a zero (suc n) less before holds =
    let same : a + 0 ≡ a = omega arith in
    let here : test a ≡ true = ap test (sym same) ∙ holds in
    rw (here, same) refl
first_from test a (suc k) (suc n) less before holds =
    let p = passed (test a) a (find test (range_with_len (a + 1) k)) before in
    let same : a + 1 + k ≡ a + suc k = omega arith in
    rw p.0 (first_from test (a + 1) k n (omega arith) p.1 (ap test same ∙ holds) ∙ ap Some same)

-- the first number that holds
pub first_is : (test : ℕ → Bool) (k n : ℕ) → k < n → find test (range_with_len 0 k) ≡ None → test k ≡ true → find test (range_with_len 0 n) ≡ Some k
first_is test k n less before holds =
    let same : 0 + k ≡ k = omega arith in
    first_from test 0 k n less before (ap test same ∙ holds) ∙ ap Some same

-- all up to a number, and that one
pub all_more : (test : ℕ → Bool) (k : ℕ) → list_all test (range_with_len 0 k) ≡ true → test k ≡ true → list_all test (range_with_len 0 (k + 1)) ≡ true
all_more test k before holds =
    ap (list_all test) (one_more k) ∙ list_all-append test (range_with_len 0 k) (k ∷ []) ∙ rw (before, holds) refl

-- one that fails
pub not_all : (test : ℕ → Bool) (k n : ℕ) → k < n → test k ≡ false → list_all test (range_with_len 0 n) ≡ false
not_all test k n less fails =
    list_all_at test (range_with_len 0 n) k 0 (omega (arith, length-range_with_len 0 n))
    (ap test (get_or-range_with_len 0 n k 0 less ∙ omega arith) ∙ fails)

-- Lists that begin alike, and what a write leaves of them (own).
use Rattle.std.proofs.Common.{◌≡◌, ℕ, zero, suc, ◌+◌, ◌≤◌, ◌<◌, List, [], ◌∷◌, ◌++◌, length, get_or, take, drop, refl, sym, ap, ◌∙◌, arith}
use Rattle.std.proofs.lemmas.List.{ext_get_or, get_or-take, get_or-drop, take_at, drop_all}
use Rattle.std.proofs.lemmas.List.{append-nil, length-take, length-drop, take-append-drop, length-append}
use Rattle.rec_bytes.specs.Places.{with_bytes}

-- so many places from one on that agree are the same bytes
pub piece : (n from : ℕ) (xs ys : List ℕ) → from + n ≤ length xs
    → ((place : ℕ) → from ≤ place → place < from + n → place < length ys)
    → ((place : ℕ) → from ≤ place → place < from + n → get_or ys place 0 ≡ get_or xs place 0)
    → take n (drop from ys) ≡ take n (drop from xs)
piece zero from xs ys long reaches agrees = refl
piece (suc m) from xs ys long reaches agrees =
    let far : from + m < length ys = reaches (from + m) (omega arith) (omega arith) in
    let size_ys : length (take (suc m) (drop from ys)) ≡ suc m = omega (arith, length-take (suc m) (drop from ys), length-drop from ys) in
    let size_xs : length (take (suc m) (drop from xs)) ≡ suc m = omega (arith, length-take (suc m) (drop from xs), length-drop from xs) in
    ext_get_or 0 (take (suc m) (drop from ys)) (take (suc m) (drop from xs)) (omega (arith, size_ys, size_xs)) (λ k small.
    get_or-take (suc m) (drop from ys) k 0 (omega (arith, size_ys))
    ∙ get_or-drop from ys k 0
    ∙ agrees (from + k) (omega arith) (omega (arith, size_ys))
    ∙ sym (get_or-drop from xs k 0)
    ∙ sym (get_or-take (suc m) (drop from xs) k 0 (omega (arith, size_ys))))

-- a list that has the front of another begins as that one does
pub begins_with : (image reads front rest : List ℕ) (n : ℕ) → take n image ≡ take n reads → reads ≡ front ++ rest → length front ≡ n
    → image ≡ front ++ drop n image
begins_with image reads front rest n same is long =
    sym (take-append-drop n image) ∙ ap (λ (xs : List ℕ). xs ++ drop n image) (same ∙ ap (λ (xs : List ℕ). take n xs) is ∙ take_at front rest n long)

-- bytes that are written behind a front stand there
pub written_at : (front rest bytes old new : List ℕ) (at : ℕ) → old ≡ front ++ rest → at ≡ length front → new ≡ with_bytes old at bytes
    → (more : List ℕ) × (new ≡ (front ++ bytes) ++ more)
written_at front rest bytes old new at is place wrote =
    let more : List ℕ = drop (at + length bytes) old in
    let before : take at old ≡ front = ap (λ (xs : List ℕ). take at xs) is ∙ take_at front rest at (sym place) in
    (more, wrote ∙ ap (λ (xs : List ℕ). (xs ++ bytes) ++ more) before)

-- and at the end there is nothing behind them
pub written_end : (front bytes old new : List ℕ) (at : ℕ) → old ≡ front → at ≡ length front → new ≡ with_bytes old at bytes → new ≡ front ++ bytes
written_end front bytes old new at is place wrote =
    let before : take at old ≡ front = ap (λ (xs : List ℕ). take at xs) (is ∙ sym (append-nil front)) ∙ take_at front [] at (sym place) in
    let none : drop (at + length bytes) old ≡ [] = drop_all (at + length bytes) old (omega (arith, place, ap (length {A = ℕ}) is)) in
    wrote ∙ ap (λ (xs : List ℕ). (xs ++ bytes) ++ drop (at + length bytes) old) before
    ∙ ap (λ (xs : List ℕ). (front ++ bytes) ++ xs) none ∙ append-nil (front ++ bytes)

-- a list that is no longer than its front is this front
pub no_rest : (front rest whole : List ℕ) → whole ≡ front ++ rest → length whole ≤ length front → (whole ≡ front) × (rest ≡ [])
no_rest front [] whole is short = (is ∙ append-nil front, refl)
no_rest front (byte ∷ rest) whole is short = absurd (omega (arith, short, ap (length {A = ℕ}) is, length-append front (byte ∷ rest)))

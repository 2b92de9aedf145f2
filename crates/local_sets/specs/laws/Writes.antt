-- Laws of writes one behind the other: proved here, for proofs to cite.
use Rattle.std.proofs.Common.{◌≡◌, ℕ, zero, suc, ◌+◌, ◌<◌, ◌≤◌, List, [], ◌∷◌, ◌++◌, length, take, get_or, sym, ap, ◌∙◌, arith, append_assoc}
use Rattle.std.proofs.Common.{append-nil, length-append}
use Rattle.std.specs.List.{flat_map}
use Rattle.rec_bytes.specs.Places.{with_bytes}
use Rattle.rec_bytes.specs.laws.Places.{with_bytes-more}

-- a mapped front grows by the bytes of one more
pub grows : {A : Type 0} (f : A → List ℕ) (d : A) (i : ℕ) (xs : List A) → i < length xs
    → flat_map f (take (i + 1) xs) ≡ flat_map f (take i xs) ++ f (get_or xs i d)
grows f d i [] h = absurd (omega arith)
grows f d zero (x ∷ xs) h = append-nil (f x)
grows f d (suc i) (x ∷ xs) h =
    let next : suc i + 1 ≡ suc (i + 1) = omega arith in
    ap (λ (n : ℕ). flat_map f (take n (x ∷ xs))) next
    ∙ ap (λ (rest : List ℕ). f x ++ rest) (grows f d i xs (omega arith))
    ∙ sym (append_assoc (f x) (flat_map f (take i xs)) (f (get_or xs i d)))

-- and it stays within the whole
pub within : {A : Type 0} (f : A → List ℕ) (d : A) (i : ℕ) (xs : List A) → i < length xs
    → length (flat_map f (take i xs)) + length (f (get_or xs i d)) ≤ length (flat_map f xs)
within f d i [] h = absurd (omega arith)
within f d zero (x ∷ xs) h = simp length-append (omega arith)
within f d (suc i) (x ∷ xs) h = let rest = within f d i xs (omega arith) in simp length-append (omega arith)

-- there is room for one more of a list
pub room_for : {A : Type 0} (f : A → List ℕ) (d : A) (i : ℕ) (xs : List A) (old mid : List ℕ) (at end : ℕ) → i < length xs
    → at + length (flat_map f xs) ≤ length old → end ≡ at + length (flat_map f (take i xs)) → length mid ≡ length old
    → end + length (f (get_or xs i d)) ≤ length mid
room_for f d i xs old mid at end more room place same = omega (arith, within f d i xs more)

-- what stands when one more of a list was written: where its end is, and all bytes so far
pub one_more : {A : Type 0} (f : A → List ℕ) (d : A) (i : ℕ) (xs : List A) (old mid new : List ℕ) (at end next : ℕ) → i < length xs
    → at + length (flat_map f xs) ≤ length old → end ≡ at + length (flat_map f (take i xs)) → mid ≡ with_bytes old at (flat_map f (take i xs))
    → next ≡ end + length (f (get_or xs i d)) → new ≡ with_bytes mid end (f (get_or xs i d))
    → (next ≡ at + length (flat_map f (take (i + 1) xs))) × (new ≡ with_bytes old at (flat_map f (take (i + 1) xs)))
one_more f d i xs old mid new at end next more room place before beyond after =
    let all = grows f d i xs more in
    let fits = within f d i xs more in (
      omega (arith, ap (λ (bytes : List ℕ). length bytes) all, length-append (flat_map f (take i xs)) (f (get_or xs i d))),
      with_bytes-more old at end (flat_map f (take i xs)) (f (get_or xs i d)) mid new before place (omega arith) after
          ∙ ap (λ (bytes : List ℕ). with_bytes old at bytes) (sym all),
    )

-- What is among the elements of a list, and the least of numbers.
use Rattle.std.proofs.Common.{◌≡◌, ◌⊎◌, inl, inr, ℕ, zero, suc, ◌≤◌, min, Bool, false, List, [], ◌∷◌, ◌++◌, Contains, Some, refl, sym, ap, subst, ◌∙◌, arith}
use Rattle.std.proofs.lemmas.Bool.{cases_Bool, cases_lt}
use Rattle.std.specs.List.{flat_map}
use Rattle.mxf_op1a.specs.Metadata.{SetAt, least, least_behind, places_but}
use Rattle.mxf_op1a.specs.Broken.{set_place}

-- `Contains`, by recursion on the list
abbrev pub Among : {X : Type 0} → X → List X → Type 0
Among x [] = ⊥
Among x (y ∷ ys) = (y ≡ x) ⊎ Among x ys

pub contained : {X : Type 0} (x : X) (xs : List X) → Among x xs → Contains xs x
contained x [] a = absurd a
contained x (y ∷ ys) (inl e) = (0, omega arith, e)
contained x (y ∷ ys) (inr a) = let c = contained x ys a in (suc c.0, omega (arith, c.1), c.2)

pub among : {X : Type 0} (x : X) (xs : List X) → Contains xs x → Among x xs
among x [] (k, low, e) = absurd (omega arith)
among x (y ∷ ys) (zero, low, e) = inl e
among x (y ∷ ys) (suc k, low, e) = inr (among x ys (k, omega arith, e))

pub among_left : {X : Type 0} (x : X) (xs ys : List X) → Among x xs → Among x (xs ++ ys)
among_left x [] ys a = absurd a
among_left x (y ∷ xs) ys (inl e) = inl e
among_left x (y ∷ xs) ys (inr a) = inr (among_left x xs ys a)

pub among_right : {X : Type 0} (x : X) (xs ys : List X) → Among x ys → Among x (xs ++ ys)
among_right x [] ys a = a
among_right x (y ∷ xs) ys a = inr (among_right x xs ys a)

pub among_both : {X : Type 0} (x : X) (xs ys : List X) → Among x (xs ++ ys) → Among x xs ⊎ Among x ys
among_both x [] ys a = inr a
among_both x (y ∷ xs) ys (inl e) = inl (inl e)
among_both x (y ∷ xs) ys (inr a) = elim (among_both x xs ys a) [
  | inl left ↦ inl (inr left)
  | inr right ↦ inr right
]

-- among lists that are joined
pub among_flat : {X Y : Type 0} (y : Y) (f : X → List Y) (x : X) (xs : List X) → Among x xs → Among y (f x) → Among y (flat_map f xs)
among_flat y f x [] a b = absurd a
among_flat y f x (z ∷ xs) (inl e) b = among_left y (f z) (flat_map f xs) (at_same e b)
  where
    at_same : z ≡ x → Among y (f x) → Among y (f z)
    at_same same c = rw same c
among_flat y f x (z ∷ xs) (inr a) b = among_right y (f z) (flat_map f xs) (among_flat y f x xs a b)

pub in_flat : {X Y : Type 0} (y : Y) (f : X → List Y) (xs : List X) → Among y (flat_map f xs) → (x : X) × Among x xs × Among y (f x)
in_flat y f [] a = absurd a
in_flat y f (x ∷ xs) a = elim (among_both y (f x) (flat_map f xs) a) [
  | inl here ↦ (x, inl refl, here)
  | inr later ↦ let rest = in_flat y f xs later in (rest.0, inr rest.1, rest.2)
]

-- among the places of sets that don't keep a test
abbrev pub IsBut : (SetAt → Bool) → List SetAt → ℕ → Type 0
IsBut test sets at = (s : SetAt) × Among s sets × (test s ≡ false) × (at ≡ s.at)

but_more : (test : SetAt → Bool) (s : SetAt) (sets : List SetAt) (at : ℕ) → IsBut test sets at → IsBut test (s ∷ sets) at
but_more test s sets at b = (b.0, inr b.1, b.2, b.3)

but_first : (test : SetAt → Bool) (s : SetAt) (sets : List SetAt) (at : ℕ) → test s ≡ false → (Among at (places_but test sets) → IsBut test sets at)
    → (s.at ≡ at) ⊎ Among at (places_but test sets) → IsBut test (s ∷ sets) at
but_first test s sets at bad later (inl e) = (s, inl refl, bad, sym e)
but_first test s sets at bad later (inr a) = but_more test s sets at (later a)

pub in_places : (test : SetAt → Bool) (sets : List SetAt) (at : ℕ) → Among at (places_but test sets) → IsBut test sets at
in_places test [] at a = absurd a
in_places test (s ∷ sets) at a = elim (cases_Bool (test s)) [
  | inl is ↦ but_more test s sets at (in_places test sets at (rw is at a))
  | inr bad ↦ but_first test s sets at bad (in_places test sets at) (rw bad at a)
]

-- a place that stays among them behind a set
stays : (test : SetAt → Bool) (s : SetAt) (sets : List SetAt) (at : ℕ) → Among at (places_but test sets) → Among at (places_but test (s ∷ sets))
stays test s sets at a = elim (cases_Bool (test s)) [
  | inl is ↦ rw is a
  | inr bad ↦ rw bad (inr a)
]

pub among_places : (test : SetAt → Bool) (s : SetAt) (sets : List SetAt) → Among s sets → test s ≡ false → Among s.at (places_but test sets)
among_places test s [] a bad = absurd a
among_places test s (t ∷ sets) (inl e) bad =
    let other : test t ≡ false = ap test e ∙ bad in
    let at : t.at ≡ s.at = ap set_place e in
    rw other (inl at)
among_places test s (t ∷ sets) (inr a) bad = stays test t sets s.at (among_places test s sets a bad)

-- the least of a place and others
abbrev pub IsLeast : ℕ → List ℕ → Type 0
IsLeast m xs = Among m xs × ((x : ℕ) → Among x xs → m ≤ x)

least_in : (place y m : ℕ) (ys : List ℕ) → Among m (min place y ∷ ys) → Among m (place ∷ y ∷ ys)
least_in place y m ys (inr a) = inr (inr a)
least_in place y m ys (inl e) = elim (cases_lt place y) [
  | inl lt ↦ inl (omega arith)
  | inr ge ↦ inr (inl (omega arith))
]

least_below : (place y m : ℕ) (ys : List ℕ) → ((x : ℕ) → Among x (min place y ∷ ys) → m ≤ x) → (x : ℕ) → Among x (place ∷ y ∷ ys) → m ≤ x
least_below place y m ys below x (inl e) = let least = below (min place y) (inl refl) in omega arith
least_below place y m ys below x (inr (inl e)) = let least = below (min place y) (inl refl) in omega arith
least_below place y m ys below x (inr (inr a)) = below x (inr a)

only : (place x : ℕ) → Among x (place ∷ []) → place ≤ x
only place x (inl e) = omega arith
only place x (inr a) = absurd a

least_is : (place : ℕ) (xs : List ℕ) → IsLeast (least_behind place xs) (place ∷ xs)
unfolding least_behind
least_is place [] = (inl refl, only place)
least_is place (y ∷ ys) =
    let m : ℕ = least_behind (min place y) ys in
    let rest : IsLeast m (min place y ∷ ys) = least_is (min place y) ys in
    (least_in place y m ys rest.0, least_below place y m ys rest.1)

pub least_so : (xs : List ℕ) (at : ℕ) → least xs ≡ Some at → IsLeast at xs
least_so [] at e = absurd (cc)
least_so (x ∷ xs) at e = let same : least_behind x xs ≡ at = cc in subst (λ (m : ℕ). IsLeast m (x ∷ xs)) same (least_is x xs)

pub least_back : (xs : List ℕ) (at : ℕ) → IsLeast at xs → least xs ≡ Some at
least_back [] at l = absurd l.0
least_back (x ∷ xs) at l =
    let m : ℕ = least_behind x xs in
    let own : IsLeast m (x ∷ xs) = least_is x xs in
    let low : m ≤ at = own.1 at l.0 in
    let high : at ≤ m = l.1 m own.0 in
    let same : m ≡ at = omega arith in
    ap (λ (n : ℕ). Some n) same

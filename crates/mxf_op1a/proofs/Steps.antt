-- Tests that send on, and lists of which something holds.
use Rattle.std.proofs.Common.{◌≡◌, inl, inr, ℕ, Bool, true, false, not, if◌then◌else◌, List, [], ◌∷◌, ◌++◌, map, filter, Option, Some, None, refl, ap}
use Rattle.std.proofs.lemmas.Bool.{and_from, and_parts, cases_Bool}
use Rattle.std.specs.List.{flat_map, list_all, AllByRecursion}
use Rattle.mxf_op1a.specs.Clauses.{first_place}
use Rattle.mxf_op1a.specs.Metadata.{SetAt, least, places_but}

-- a test that is kept where nothing is broken, and the next
pub goes : (b : Bool) (next : Option ℕ) (at : ℕ) → (if b then next else Some at) ≡ None → (b ≡ true) × (next ≡ None)
goes true next at e = (refl, e)
goes false next at e = absurd (cc)

pub goes_back : (b : Bool) (next : Option ℕ) (at : ℕ) → b ≡ true → next ≡ None → (if b then next else Some at) ≡ None
goes_back b next at t e = rw t e

-- no place
pub no_place : (xs : List ℕ) → first_place xs ≡ None → xs ≡ []
no_place [] e = refl
no_place (x ∷ xs) e = absurd (cc)

pub no_least : (xs : List ℕ) → least xs ≡ None → xs ≡ []
no_least [] e = refl
no_least (x ∷ xs) e = absurd (cc)

-- two lists that joined are none
pub both_none : {X : Type 0} (xs ys : List X) → xs ++ ys ≡ [] → (xs ≡ []) × (ys ≡ [])
both_none [] ys e = (refl, e)
both_none (x ∷ xs) ys e = absurd (cc)

pub none_both : {X : Type 0} (xs ys : List X) → xs ≡ [] → ys ≡ [] → xs ++ ys ≡ []
none_both xs ys e f = rw e f

-- none of each
pub map_none : {X Y : Type 0} (f : X → Y) (xs : List X) → map f xs ≡ [] → xs ≡ []
map_none f [] e = refl
map_none f (x ∷ xs) e = absurd (cc)

pub none_each : {X Y : Type 0} (f : X → List Y) (xs : List X) → flat_map f xs ≡ [] → AllByRecursion (λ x. f x ≡ []) xs
none_each f [] e = tt
none_each f (x ∷ xs) e = let both = both_none (f x) (flat_map f xs) e in (both.0, none_each f xs both.1)

pub each_none : {X Y : Type 0} (f : X → List Y) (xs : List X) → AllByRecursion (λ x. f x ≡ []) xs → flat_map f xs ≡ []
each_none f [] h = refl
each_none f (x ∷ xs) h = none_both (f x) (flat_map f xs) h.0 (each_none f xs h.1)

-- each does what follows from what each does
pub each_so : {X : Type 0} (P Q : X → Type 0) → ((x : X) → P x → Q x) → (xs : List X) → AllByRecursion P xs → AllByRecursion Q xs
each_so P Q so [] h = tt
each_so P Q so (x ∷ xs) h = (so x h.0, each_so P Q so xs h.1)

pub each_both : {X : Type 0} (P Q R : X → Type 0) → ((x : X) → P x → Q x → R x) → (xs : List X) → AllByRecursion P xs → AllByRecursion Q xs
    → AllByRecursion R xs
each_both P Q R so [] p q = tt
each_both P Q R so (x ∷ xs) p q = (so x p.0 q.0, each_both P Q R so xs p.1 q.1)

pub each_apart : {X : Type 0} (P : X → Type 0) (xs ys : List X) → AllByRecursion P (xs ++ ys) → AllByRecursion P xs × AllByRecursion P ys
each_apart P [] ys h = (tt, h)
each_apart P (x ∷ xs) ys h = let both = each_apart P xs ys h.1 in ((h.0, both.0), both.1)

pub each_joined : {X : Type 0} (P : X → Type 0) (xs ys : List X) → AllByRecursion P xs → AllByRecursion P ys → AllByRecursion P (xs ++ ys)
each_joined P [] ys p q = q
each_joined P (x ∷ xs) ys p q = (p.0, each_joined P xs ys p.1 q)

-- each keeps a test where none is left that doesn't
pub kept_each : {X : Type 0} (test : X → Bool) (xs : List X) → filter (λ x. not (test x)) xs ≡ [] → AllByRecursion (λ x. test x ≡ true) xs
kept_each test [] e = tt
kept_each test (x ∷ xs) e = elim (cases_Bool (test x)) [
  | inl is ↦ (is, kept_each test xs (rw is at e))
  | inr not_so ↦ let bad = rw not_so at e in absurd (cc)
]

pub each_kept : {X : Type 0} (test : X → Bool) (xs : List X) → AllByRecursion (λ x. test x ≡ true) xs → filter (λ x. not (test x)) xs ≡ []
each_kept test [] h = refl
each_kept test (x ∷ xs) h = rw h.0 (each_kept test xs h.1)

-- all of a list
pub all_each : {X : Type 0} (test : X → Bool) (xs : List X) → list_all test xs ≡ true → AllByRecursion (λ x. test x ≡ true) xs
all_each test [] e = tt
all_each test (x ∷ xs) e = let both = and_parts (test x) (list_all test xs) e in (both.0, all_each test xs both.1)

pub each_all : {X : Type 0} (test : X → Bool) (xs : List X) → AllByRecursion (λ x. test x ≡ true) xs → list_all test xs ≡ true
each_all test [] h = refl
each_all test (x ∷ xs) h = and_from (test x) (list_all test xs) h.0 (each_all test xs h.1)

-- no set is left out
pub sets_kept : (test : SetAt → Bool) (sets : List SetAt) → places_but test sets ≡ [] → AllByRecursion (λ s. test s ≡ true) sets
sets_kept test sets e = kept_each test sets (map_none (λ (s : SetAt). s.at) (filter (λ s. not (test s)) sets) e)

pub kept_sets : (test : SetAt → Bool) (sets : List SetAt) → AllByRecursion (λ s. test s ≡ true) sets → places_but test sets ≡ []
kept_sets test sets h = ap (map (λ (s : SetAt). s.at)) (each_kept test sets h)

-- each of lists that are joined, and each of those that keep a test
pub flat_each : {X Y : Type 0} (P : Y → Type 0) (f : X → List Y) (xs : List X) → AllByRecursion P (flat_map f xs)
    → AllByRecursion (λ x. AllByRecursion P (f x)) xs
flat_each P f [] h = tt
flat_each P f (x ∷ xs) h = let both = each_apart P (f x) (flat_map f xs) h in (both.0, flat_each P f xs both.1)

pub each_flat : {X Y : Type 0} (P : Y → Type 0) (f : X → List Y) (xs : List X) → AllByRecursion (λ x. AllByRecursion P (f x)) xs
    → AllByRecursion P (flat_map f xs)
each_flat P f [] h = tt
each_flat P f (x ∷ xs) h = each_joined P (f x) (flat_map f xs) h.0 (each_flat P f xs h.1)

pub filter_each : {X : Type 0} (P : X → Type 0) (test : X → Bool) (xs : List X) → AllByRecursion P (filter test xs)
    → AllByRecursion (λ x. test x ≡ true → P x) xs
filter_each P test [] h = tt
filter_each P test (x ∷ xs) h = elim (cases_Bool (test x)) [
  | inl is ↦ let both = rw is at h in (λ t. both.0, filter_each P test xs both.1)
  | inr no_more ↦ let rest = rw no_more at h in (λ t. absurd (cc), filter_each P test xs rest)
]

pub each_filter : {X : Type 0} (P : X → Type 0) (test : X → Bool) (xs : List X) → AllByRecursion (λ x. test x ≡ true → P x) xs
    → AllByRecursion P (filter test xs)
each_filter P test [] h = tt
each_filter P test (x ∷ xs) h = elim (cases_Bool (test x)) [
  | inl is ↦ rw is (h.0 is, each_filter P test xs h.1)
  | inr no_more ↦ rw no_more (each_filter P test xs h.1)
]

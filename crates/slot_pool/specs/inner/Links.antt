-- The list of the free slots, which goes through their first eight bytes (own).
use Rattle.std.specs.Prelude.{◌≡◌, ℕ, zero, suc, List, [], ◌∷◌, length, get_or, slice_set, Option, Some, None}
use Rattle.byteorder.specs.Endian.{big_number}

-- the place isn't among these
abbrev pub IsNone : ℕ → List ℕ → Type 0
IsNone place [] = Unit {0}
IsNone place (other ∷ others) = (place ≡ other → ⊥) × IsNone place others

-- from the first on these places are the list: each is free, none is twice in it, and the first eight bytes of each say the next
abbrev pub AreLinked : List (Option (List ℕ)) → ℕ → List ℕ → Type 0
AreLinked slots first [] = Unit {0}
AreLinked slots first (place ∷ places) =
    (first ≡ place) × IsNone place places × ((xs : List ℕ) × (get_or slots place None ≡ Some xs) × AreLinked slots (big_number 8 xs) places)

-- the list has so many places
abbrev pub IsListOf : List (Option (List ℕ)) → ℕ → ℕ → Type 0
IsListOf slots first count = (places : List ℕ) × AreLinked slots first places × (length places ≡ count)

-- the slot at the place says now that this one is next
abbrev pub LinksTo : List (Option (List ℕ)) → List (Option (List ℕ)) → ℕ → ℕ → Type 0
LinksTo old new place next = (xs : List ℕ) × (big_number 8 xs ≡ next) × (new ≡ slice_set old place (Some xs))

-- the places below a number, the highest first
abbrev pub below : ℕ → List ℕ
below zero = []
below (suc place) = place ∷ below place

-- The list of the free slots, after one was taken or given back, and while the list is made.
use Rattle.std.proofs.Common.{◌≡◌, ℕ, zero, suc, ◌+◌, ◌-◌, ◌<◌, ◌≤◌, true, List, [], ◌∷◌, length, get_or, set, replicate, refl, sym, ap, subst, ◌∙◌, arith, Some, None}
use Rattle.std.proofs.lemmas.List.{get_or-set_same, get_or-set_other}
use Rattle.byteorder.specs.Endian.{big_number}
use Rattle.slot_pool.specs.inner.Keeping.{are_free}
use Rattle.slot_pool.specs.inner.Links.{IsNone, AreLinked, IsListOf, LinksTo, below}
use Rattle.slot_pool.specs.inner.Steps.{IsFree}
use Rattle.slot_pool.proofs.CountLemmas.{are_free_set}
use Rattle.slot_pool.proofs.SlotLemmas.{Room}

-- a change of a slot that isn't in the list leaves it
pub unchanged : (slots : List Room) (place first : ℕ) (slot : Room) (places : List ℕ) → IsNone place places → AreLinked slots first places → AreLinked (set slots place slot) first places
unchanged slots place first slot [] none linked = tt
unchanged slots place first slot (other ∷ others) none linked =
    (linked.0, linked.1, (linked.2.0, get_or-set_other slots place other slot None (λ e. none.0 (sym e)) ∙ linked.2.1, unchanged slots place (big_number 8 linked.2.0) slot others none.1 linked.2.2))

-- a live slot isn't in the list
pub not_listed : (slots : List Room) (place first : ℕ) (places : List ℕ) → get_or slots place None ≡ None → AreLinked slots first places → IsNone place places
not_listed slots place first [] live linked = tt
not_listed slots place first (other ∷ others) live linked =
    ((λ (same : place ≡ other). let both : None ≡ Some linked.2.0 = sym live ∙ ap (λ k. get_or slots k None) same ∙ linked.2.1 in cc), not_listed slots place (big_number 8 linked.2.0) others live linked.2.2)

-- the first one is free
pub first_is_free : (slots : List Room) (first count : ℕ) → 0 < count → IsListOf slots first count → IsFree slots first
first_is_free slots first count some ([], linked, long) = absurd (omega (arith, long))
first_is_free slots first count some (place ∷ places, linked, long) = (linked.2.0, ap (λ k. get_or slots k None) linked.0 ∙ linked.2.1)

abbrev bytes_or : Room → List ℕ
bytes_or (Some xs) = xs
bytes_or None = []

-- without the first one the list goes on at the one that it says
pub shorter : (slots : List Room) (first count next : ℕ) (bytes : List ℕ) → get_or slots first None ≡ Some bytes → next ≡ big_number 8 bytes → 0 < count → IsListOf slots first count
    → IsListOf (set slots first None) next (count - 1)
shorter slots first count next bytes at says some ([], linked, long) = absurd (omega (arith, long))
shorter slots first count next bytes at says some (place ∷ places, linked, long) =
    let same : linked.2.0 ≡ bytes = ap bytes_or (sym (ap (λ k. get_or slots k None) linked.0 ∙ linked.2.1) ∙ at) in
    let apart : IsNone first places = subst (λ k. IsNone k places) (sym linked.0) linked.1 in
    let rest : AreLinked slots next places = subst (λ k. AreLinked slots k places) (ap (big_number 8) same ∙ sym says) linked.2.2 in
    (places, unchanged slots first next None places apart rest, omega (arith, long))

-- a live slot that says the first one is the first one of a list
pub longer : (slots : List Room) (place first count : ℕ) (bytes : List ℕ) → get_or slots place None ≡ None → place < length slots → big_number 8 bytes ≡ first → IsListOf slots first count
    → IsListOf (set slots place (Some bytes)) place (count + 1)
longer slots place first count bytes live within says (places, linked, long) =
    let apart = not_listed slots place first places live linked in let new = set slots place (Some bytes) in
    (place ∷ places, (refl, apart, (bytes, get_or-set_same slots place (Some bytes) None within, subst (λ k. AreLinked new k places) (sym says) (unchanged slots place first (Some bytes) places apart linked))), omega (arith, long))

pub below_length : (count : ℕ) → length (below count) ≡ count
below_length zero = refl
below_length (suc count) = ap suc (below_length count)

above : (place count : ℕ) → count ≤ place → IsNone place (below count)
above place zero most = tt
above place (suc count) most = ((λ e. absurd (omega arith)), above place count (omega arith))

-- the places below one, with that one in front
pub one_more : (slots new : List Room) (place first : ℕ) → place < length slots → LinksTo slots new place first → AreLinked slots first (below place) → AreLinked new place (below (place + 1))
one_more slots new place first within (xs, says, is) linked =
    let one : suc place ≡ place + 1 = omega arith in let apart = above place place (omega arith) in let made = set slots place (Some xs) in
    let all : AreLinked made place (below (suc place)) = (refl, apart, (xs, get_or-set_same slots place (Some xs) None within, subst (λ k. AreLinked made k (below place)) (sym says) (unchanged slots place first (Some xs) (below place) apart linked))) in
    subst (λ n. AreLinked new place (below n)) one (subst (λ l. AreLinked l place (below (suc place))) (sym is) all)

set_true : (count place : ℕ) → set (replicate count true) place true ≡ replicate count true
set_true zero place = refl
set_true (suc count) zero = refl
set_true (suc count) (suc place) = ap (λ l. true ∷ l) (set_true count place)

pub still_free : (slots new : List Room) (place count next : ℕ) → LinksTo slots new place next → are_free slots ≡ replicate count true → are_free new ≡ replicate count true
still_free slots new place count next (xs, says, is) all = ap are_free is ∙ are_free_set slots place (Some xs) ∙ ap (λ l. set l place true) all ∙ set_true count place

abbrev rest_of : {X : Type 0} → List X → List X
rest_of [] = []
rest_of (x ∷ xs) = xs

pub each_is_free : (slots : List Room) (count place : ℕ) → are_free slots ≡ replicate count true → place < count → IsFree slots place
each_is_free [] zero place all within = absurd (omega arith)
each_is_free [] (suc count) place all within = cc
each_is_free (slot ∷ slots) zero place all within = absurd (omega arith)
each_is_free (None ∷ slots) (suc count) zero all within = cc
each_is_free (Some xs ∷ slots) (suc count) zero all within = (xs, refl)
each_is_free (slot ∷ slots) (suc count) (suc place) all within = each_is_free slots count place (ap rest_of all) (omega arith)

pub set_set : (slots : List Room) (place : ℕ) (one two : Room) → set (set slots place one) place two ≡ set slots place two
set_set [] place one two = refl
set_set (slot ∷ slots) zero one two = refl
set_set (slot ∷ slots) (suc place) one two = ap (λ l. slot ∷ l) (set_set slots place one two)

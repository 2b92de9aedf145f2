-- How many slots are free and live, also after one was taken or given back.
use Rattle.std.proofs.Common.{◌≡◌, ℕ, zero, suc, ◌+◌, ◌<◌, Bool, true, false, List, [], ◌∷◌, length, get_or, set, replicate, refl, ap, arith, Some, None}
use Rattle.std.proofs.lemmas.List.{length-map}
use Rattle.slot_pool.specs.Pools.{free_count, live_count}
use Rattle.slot_pool.specs.inner.Keeping.{is_free, are_free}
use Rattle.slot_pool.specs.inner.Steps.{AreFree}
use Rattle.slot_pool.proofs.SlotLemmas.{Room}

pub are_free_set : (slots : List Room) (place : ℕ) (slot : Room) → are_free (set slots place slot) ≡ set (are_free slots) place (is_free slot)
are_free_set [] place slot = refl
are_free_set (other ∷ slots) zero slot = refl
are_free_set (other ∷ slots) (suc place) slot = ap (λ l. is_free other ∷ l) (are_free_set slots place slot)

pub free_at : (slots : List Room) (place : ℕ) → get_or (are_free slots) place false ≡ is_free (get_or slots place None)
free_at [] place = refl
free_at (slot ∷ slots) zero = refl
free_at (slot ∷ slots) (suc place) = free_at slots place

pub live_at : (slots : List Room) (place : ℕ) → place < length slots → get_or slots place None ≡ None → get_or (are_free slots) place true ≡ false
live_at [] place within out = absurd (omega arith)
live_at (slot ∷ slots) zero within out = ap is_free out
live_at (slot ∷ slots) (suc place) within out = live_at slots place (omega arith) out

-- one fewer is free once one was taken
pub taken_count : (slots : List Bool) (place : ℕ) → get_or slots place false ≡ true → free_count (set slots place false) + 1 ≡ free_count slots
unfolding free_count
taken_count [] place free = cc
taken_count (true ∷ slots) zero free = refl
taken_count (false ∷ slots) zero free = cc
taken_count (true ∷ slots) (suc place) free = ap (λ n. n + 1) (taken_count slots place free)
taken_count (false ∷ slots) (suc place) free = taken_count slots place free

-- and one more once it is back
pub given_count : (slots : List Bool) (place : ℕ) → get_or slots place true ≡ false → free_count (set slots place true) ≡ free_count slots + 1
unfolding free_count
given_count [] place live = cc
given_count (true ∷ slots) zero live = cc
given_count (false ∷ slots) zero live = refl
given_count (true ∷ slots) (suc place) live = ap (λ n. n + 1) (given_count slots place live)
given_count (false ∷ slots) (suc place) live = given_count slots place live

pub adds_up : (slots : List Bool) → free_count slots + live_count slots ≡ length slots
unfolding free_count live_count
adds_up [] = refl
adds_up (true ∷ slots) = omega (arith, adds_up slots)
adds_up (false ∷ slots) = omega (arith, adds_up slots)

pub free_of_all : (count : ℕ) → free_count (replicate count true) ≡ count
unfolding free_count
free_of_all zero = refl
free_of_all (suc count) = omega (arith, free_of_all count)

-- where as many are free as there are, each is
pub all_are_free : (slots : List Room) → free_count (are_free slots) ≡ length slots → AreFree slots
unfolding free_count
all_are_free [] all = tt
all_are_free (None ∷ slots) all = absurd (omega (arith, all, adds_up (are_free slots), length-map slots is_free))
all_are_free (Some xs ∷ slots) all = all_are_free slots (omega (arith, all))

pub some_free : (count : ℕ) → (count ≡ 0 → ⊥) → 0 < count
some_free zero not = absurd (not refl)
some_free (suc count) not = omega arith

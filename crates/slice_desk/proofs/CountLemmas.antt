-- How many slices are in.
use Rattle.std.proofs.Common.{◌≡◌, ℕ, zero, suc, ◌+◌, List, [], ◌∷◌, ◌++◌, length, replicate, refl, ap, ◌∙◌, arith, Option, Some, None}
use Rattle.slice_desk.specs.Desks.{in_count}
use Rattle.slice_desk.specs.Slices.{DoneSeen}
use Rattle.slice_desk.specs.inner.Keeping.{keys}

pub count_last : {X : Type 0} (xs : List (Option X)) (x : Option X) → in_count (xs ++ x ∷ []) ≡ in_count xs + in_count (x ∷ [])
unfolding in_count
count_last [] x = omega arith
count_last (Some y ∷ ys) x = omega (arith, count_last ys x)
count_last (None ∷ ys) x = count_last ys x

-- a place that isn't empty counts one
pub count_some : {X : Type 0} (kept : Option X) (x : X) → kept ≡ Some x → in_count (kept ∷ []) ≡ 1
unfolding in_count
count_some {X = X} kept x is = ap (λ (k : Option X). in_count (k ∷ [])) is ∙ omega arith

pub count_empty : {X : Type 0} (kept : Option X) → kept ≡ None → in_count (kept ∷ []) ≡ 0
unfolding in_count
count_empty {X = X} kept is = ap (λ (k : Option X). in_count (k ∷ [])) is

pub count_keys : (xs : List (Option DoneSeen)) → in_count (keys xs) ≡ in_count xs
unfolding in_count
count_keys [] = refl
count_keys (Some y ∷ ys) = omega (arith, count_keys ys)
count_keys (None ∷ ys) = count_keys ys

pub count_none : {X : Type 0} (xs : List (Option X)) → length xs ≡ 0 → in_count xs ≡ 0
unfolding in_count
count_none [] e = refl
count_none (x ∷ xs) e = absurd (omega (arith, e))

pub keys_of_none : (n : ℕ) → keys (replicate n None) ≡ replicate n None
keys_of_none zero = refl
keys_of_none (suc n) = ap (λ (l : List (Option (ℕ × ℕ))). None ∷ l) (keys_of_none n)

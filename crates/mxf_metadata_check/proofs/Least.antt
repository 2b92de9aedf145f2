-- The least of places, of several lists.
use Rattle.std.proofs.Common.{◌≡◌, ℕ, suc, ◌+◌, ◌<◌, ◌≤◌, not, Bool, true, false, cond, List, [], ◌∷◌, ◌++◌, length, map, filter, get_or, drop, min, Option, Some, None, refl, ap, ◌∙◌, arith}
use Rattle.std.proofs.lemmas.List.{drop_all}
use Rattle.std.proofs.Math.Seq.{drop-cons}
use Rattle.mxf_metadata_check.specs.declared.outline.Held.{Held}
use Rattle.mxf_metadata_check.specs.inner.Held.{lesser, set_held, sets_held}
use Rattle.mxf_op1a.specs.Metadata.{SetAt, least, least_behind, places_but}

min_turned : (a b c : ℕ) → min (min a b) c ≡ min a (min b c)
min_turned a b c = omega arith

behind_min : (a b : ℕ) (xs : List ℕ) → least_behind (min a b) xs ≡ min a (least_behind b xs)
unfolding least_behind
behind_min a b [] = refl
behind_min a b (x ∷ xs) = ap (λ (n : ℕ). least_behind n xs) (min_turned a b x) ∙ behind_min a (min b x) xs

behind_both : (a : ℕ) (xs : List ℕ) (b : ℕ) (ys : List ℕ) → least_behind a (xs ++ b ∷ ys) ≡ min (least_behind a xs) (least_behind b ys)
unfolding least_behind
behind_both a [] b ys = behind_min a b ys
behind_both a (x ∷ xs) b ys = behind_both (min a x) xs b ys

append_none : (xs : List ℕ) → xs ++ [] ≡ xs
append_none [] = refl
append_none (x ∷ xs) = ap (λ (ys : List ℕ). x ∷ ys) (append_none xs)

pub least_both : (xs ys : List ℕ) → least (xs ++ ys) ≡ lesser (least xs) (least ys)
least_both [] ys = refl
least_both (x ∷ xs) [] = ap (λ (zs : List ℕ). Some (least_behind x zs)) (append_none xs)
least_both (x ∷ xs) (y ∷ ys) = ap Some (behind_both x xs y ys)

pub lesser_turned : (a b c : Option ℕ) → lesser (lesser a b) c ≡ lesser a (lesser b c)
lesser_turned None b c = refl
lesser_turned (Some a) None c = refl
lesser_turned (Some a) (Some b) None = refl
lesser_turned (Some a) (Some b) (Some c) = ap Some (min_turned a b c)

pub lesser_none : (a : Option ℕ) → lesser a None ≡ a
lesser_none None = refl
lesser_none (Some a) = refl

filter_both : (test : SetAt → Bool) (xs ys : List SetAt) → filter test (xs ++ ys) ≡ filter test xs ++ filter test ys
filter_both test [] ys = refl
filter_both test (x ∷ xs) ys =
    elim (test x) as (λ (b : Bool). cond b (x ∷ filter test (xs ++ ys)) (filter test (xs ++ ys)) ≡ cond b (x ∷ filter test xs) (filter test xs) ++ filter test ys) [
      | true ↦ ap (λ (zs : List SetAt). x ∷ zs) (filter_both test xs ys)
      | false ↦ filter_both test xs ys
    ]

map_both : (xs ys : List SetAt) → map (λ (s : SetAt). s.at) (xs ++ ys) ≡ map (λ (s : SetAt). s.at) xs ++ map (λ (s : SetAt). s.at) ys
map_both [] ys = refl
map_both (x ∷ xs) ys = ap (λ (zs : List ℕ). x.at ∷ zs) (map_both xs ys)

pub places_both : (test : SetAt → Bool) (xs ys : List SetAt) → places_but test (xs ++ ys) ≡ places_but test xs ++ places_but test ys
places_both test xs ys =
    ap (map (λ (s : SetAt). s.at)) (filter_both (λ (s : SetAt). not (test s)) xs ys)
    ∙ map_both (filter (λ (s : SetAt). not (test s)) xs) (filter (λ (s : SetAt). not (test s)) ys)

-- the least place of sets that don't keep a test
abbrev pub least_but : (SetAt → Bool) → List SetAt → Option ℕ
least_but test sets = least (places_but test sets)

pub but_both : (test : SetAt → Bool) (xs ys : List SetAt) → least_but test (xs ++ ys) ≡ lesser (least_but test xs) (least_but test ys)
but_both test xs ys = ap least (places_both test xs ys) ∙ least_both (places_but test xs) (places_but test ys)

pub but_one : (test : SetAt → Bool) (s : SetAt) (b : Bool) → test s ≡ b → least_but test (s ∷ []) ≡ cond b None (Some s.at)
unfolding least_behind
but_one test s true e = ap (λ (b : Bool). least (map (λ (s : SetAt). s.at) (cond (not b) (s ∷ []) []))) e
but_one test s false e = ap (λ (b : Bool). least (map (λ (s : SetAt). s.at) (cond (not b) (s ∷ []) []))) e

-- of the sets from one on
pub but_next : (test : SetAt → Bool) (bytes : List ℕ) (sets : List Held) (k : ℕ) (d : Held) → k < length sets
    → least_but test (sets_held bytes (drop k sets))
    ≡ lesser (least_but test (set_held bytes (get_or sets k d) ∷ [])) (least_but test (sets_held bytes (drop (k + 1) sets)))
but_next test bytes sets k d lt =
    let next : suc k ≡ k + 1 = omega arith in
    ap (λ (xs : List Held). least_but test (sets_held bytes xs)) (drop-cons sets k d lt)
    ∙ but_both test (set_held bytes (get_or sets k d) ∷ []) (sets_held bytes (drop (suc k) sets))
    ∙ ap (λ (n : ℕ). lesser (least_but test (set_held bytes (get_or sets k d) ∷ [])) (least_but test (sets_held bytes (drop n sets)))) next

pub but_end : (test : SetAt → Bool) (bytes : List ℕ) (sets : List Held) (k : ℕ) → length sets ≤ k → least_but test (sets_held bytes (drop k sets)) ≡ None
but_end test bytes sets k past = ap (λ (xs : List Held). least_but test (sets_held bytes xs)) (drop_all k sets past)

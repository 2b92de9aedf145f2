-- Sets by their numbers.
use Rattle.std.proofs.Common.{◌≡◌, ℕ, zero, suc, ◌+◌, ◌-◌, ◌*◌, ◌<◌, ◌≤◌, ◌==◌, Bool, true, false, cond, List, [], ◌∷◌, ◌++◌, length, map, get_or, take, drop, Option, Some, None, refl, sym, ap, ap₂, subst, ◌∙◌, arith, length-append}
use Rattle.std.proofs.lemmas.Bool.{eq-eqb, ne_eqb}
use Rattle.std.proofs.lemmas.Grind.{flat_map-append}
use Rattle.std.proofs.lemmas.List.{map-append, length-map, take_all}
use Rattle.std.specs.List.{flat_map}
use Rattle.mxf_metadata_reader.specs.References.{has_id}
use Rattle.mxf_metadata_check.specs.declared.outline.Held.{Held}
use Rattle.mxf_metadata_check.specs.inner.Chain.{HasLeast, IsNth, Tells, places_if, with_ids}
use Rattle.mxf_metadata_check.specs.inner.Firsts.{index_from, index_with}
use Rattle.mxf_metadata_check.specs.inner.Held.{lesser, set_held, sets_held}
use Rattle.mxf_metadata_check.proofs.Ids.{ids_next, ids_end}
use Rattle.mxf_metadata_check.proofs.Least.{least_both}
use Rattle.mxf_metadata_reader.specs.References.{ids_in}
use Rattle.mxf_op1a.specs.Metadata.{SetAt, all_of_kind, least, of_kind, set_with}

-- there is one below the length
pub nth_at : (sets : List SetAt) (k : ℕ) → k < length sets → (s : SetAt) × IsNth sets k s
nth_at [] k lt = absurd (omega arith)
nth_at (first ∷ sets) zero lt = (first, refl)
nth_at (first ∷ sets) (suc k) lt = nth_at sets k (omega arith)

pub nth_below : (sets : List SetAt) (k : ℕ) (s : SetAt) → IsNth sets k s → k < length sets
nth_below [] k s h = absurd h
nth_below (first ∷ sets) zero s h = omega arith
nth_below (first ∷ sets) (suc k) s h = let lt = nth_below sets k s h in omega (arith, lt)

pub at_map : {X : Type 0} (f : SetAt → X) (sets : List SetAt) (k : ℕ) (s : SetAt) (d : X) → IsNth sets k s → get_or (map f sets) k d ≡ f s
at_map f [] k s d h = absurd h
at_map f (first ∷ sets) zero s d h = ap f h
at_map f (first ∷ sets) (suc k) s d h = at_map f sets k s d h

pub take_more : (sets : List SetAt) (k : ℕ) (s : SetAt) → IsNth sets k s → take (suc k) sets ≡ take k sets ++ s ∷ []
take_more [] k s h = absurd h
take_more (first ∷ sets) zero s h = ap (λ (x : SetAt). x ∷ []) h
take_more (first ∷ sets) (suc k) s h = ap (λ (xs : List SetAt). first ∷ xs) (take_more sets k s h)

pub drop_nth : (sets : List SetAt) (k : ℕ) (s : SetAt) → IsNth sets k s → drop k sets ≡ s ∷ drop (suc k) sets
drop_nth [] k s h = absurd h
drop_nth (first ∷ sets) zero s h = ap (λ (x : SetAt). x ∷ sets) h
drop_nth (first ∷ sets) (suc k) s h = drop_nth sets k s h

pub nth_held : (bytes : List ℕ) (all : List Held) (k : ℕ) (s : SetAt) (d : Held) → IsNth (sets_held bytes all) k s → set_held bytes (get_or all k d) ≡ s
nth_held bytes [] k s d h = absurd h
nth_held bytes (first ∷ all) zero s d h = h
nth_held bytes (first ∷ all) (suc k) s d h = nth_held bytes all k s d h

pub held_long : (bytes : List ℕ) (all : List Held) → length (sets_held bytes all) ≡ length all
held_long bytes all = length-map all (set_held bytes)

-- up to a number a list is what is kept of sets
pub map_more : {X : Type 0} (f : SetAt → X) (sets : List SetAt) (k : ℕ) (s : SetAt) (xs : List X) (x : X) → IsNth sets k s → xs ≡ map f (take k sets) → x ≡ f s
    → xs ++ x ∷ [] ≡ map f (take (k + 1) sets)
map_more f sets k s xs x h e v =
    let next : suc k ≡ k + 1 = omega arith in
    ap₂ (λ ys y. ys ++ y ∷ []) e v ∙ sym (map-append f (take k sets) (s ∷ [])) ∙ ap (map f) (sym (take_more sets k s h))
    ∙ ap (λ (n : ℕ). map f (take n sets)) next

pub map_end : {X : Type 0} (f : SetAt → X) (sets : List SetAt) (k : ℕ) (xs : List X) → length sets ≤ k → xs ≡ map f (take k sets) → xs ≡ map f sets
map_end f sets k xs past e = e ∙ ap (map f) (take_all k sets past)

-- the set with an identifier by its number
pub record Found (sets : List SetAt) (id : List ℕ) (k : ℕ) : Type 0 where
  pub s : SetAt
  pub nth : IsNth sets k s
  pub is : set_with sets id ≡ Some s

found_more : (first : SetAt) (sets : List SetAt) (id : List ℕ) (i : ℕ) → has_id id first.set.items ≡ false → Found sets id i → Found (first ∷ sets) id (suc i)
found_more first sets id i e f = record {
  s = f.s;
  nth = f.nth;
  is = ap (λ (b : Bool). cond b (Some first) (set_with sets id)) e ∙ f.is;
}

found_from : (j : ℕ) (sets : List SetAt) (id : List ℕ) (k : ℕ) → index_from j sets id ≡ Some k → (i : ℕ) × (k ≡ j + i) × Found sets id i
unfolding index_from
found_from j [] id k e = absurd (cc)
found_from j (first ∷ sets) id k e =
    elim (has_id id first.set.items) as (λ (b : Bool). has_id id first.set.items ≡ b → cond b (Some j) (index_from (j + 1) sets id) ≡ Some k
    → (i : ℕ) × (k ≡ j + i) × Found (first ∷ sets) id i) [
      | true ↦ λ t h.
          let same : j ≡ k = cc in
          (0, omega (arith, same), record { s = first; nth = refl; is = ap (λ (b : Bool). cond b (Some first) (set_with sets id)) t })
      | false ↦ λ t h.
          let f = found_from (j + 1) sets id k h in
          let e : k ≡ j + 1 + f.0 = f.1 in
          (suc f.0, omega (arith, e), found_more first sets id f.0 t f.2)
    ] refl e

pub found_is : (sets : List SetAt) (id : List ℕ) (k : ℕ) → index_with sets id ≡ Some k → Found sets id k
found_is sets id k e =
    let f = found_from 0 sets id k e in
    let i : k ≡ f.0 = let h = f.1 in omega (arith, h) in
    subst (Found sets id) (sym i) f.2

none_from : (j : ℕ) (sets : List SetAt) (id : List ℕ) → index_from j sets id ≡ None → set_with sets id ≡ None
unfolding index_from
none_from j [] id e = refl
none_from j (first ∷ sets) id e =
    elim (has_id id first.set.items) as (λ (b : Bool). cond b (Some j) (index_from (j + 1) sets id) ≡ None → cond b (Some first) (set_with sets id) ≡ None) [
      | true ↦ λ h. absurd (cc)
      | false ↦ λ h. none_from (j + 1) sets id h
    ] e

pub none_is : (sets : List SetAt) (id : List ℕ) → index_with sets id ≡ None → set_with sets id ≡ None
none_is sets id e = none_from 0 sets id e

append_none : (xs : List ℕ) → xs ++ [] ≡ xs
append_none [] = refl
append_none (x ∷ xs) = ap (λ (ys : List ℕ). x ∷ ys) (append_none xs)

-- a set of a kind, and one of another
pub kind_is : (places : SetAt → List ℕ) (kind : ℕ) (s : SetAt) → s.set.kind ≡ kind → least (flat_map places (of_kind kind (Some s))) ≡ least (places s)
kind_is places kind s e =
    ap (λ (b : Bool). least (flat_map places (cond b (s ∷ []) []))) (eq-eqb s.set.kind kind e) ∙ ap least (append_none (places s))

pub kind_not : (places : SetAt → List ℕ) (kind : ℕ) (s : SetAt) → (s.set.kind ≡ kind → ⊥) → least (flat_map places (of_kind kind (Some s))) ≡ None
kind_not places kind s e = ap (λ (b : Bool). least (flat_map places (cond b (s ∷ []) []))) (ne_eqb s.set.kind kind e)

-- by one identifier more
pub with_step : (places : SetAt → List ℕ) (sets : List SetAt) (kind : ℕ) (bytes id : List ℕ) (count k : ℕ) → k < count → id ≡ take 16 (drop (16 * k) bytes)
    → least (flat_map places (with_ids sets kind (ids_in (count - k) (drop (16 * k) bytes))))
    ≡ lesser (least (flat_map places (of_kind kind (set_with sets id)))) (least (flat_map places (with_ids sets kind (ids_in (count - (k + 1)) (drop (16 * (k + 1)) bytes)))))
with_step places sets kind bytes id count k lt e =
    let rest : List SetAt = with_ids sets kind (ids_in (count - (k + 1)) (drop (16 * (k + 1)) bytes)) in
    ap (λ (ids : List (List ℕ)). least (flat_map places (with_ids sets kind ids))) (ids_next bytes k count lt)
    ∙ ap (λ (xs : List ℕ). least (flat_map places (of_kind kind (set_with sets xs) ++ rest))) (sym e)
    ∙ ap least (flat_map-append places (of_kind kind (set_with sets id)) rest)
    ∙ least_both (flat_map places (of_kind kind (set_with sets id))) (flat_map places rest)

pub with_end : (places : SetAt → List ℕ) (sets : List SetAt) (kind : ℕ) (bytes : List ℕ) (count k : ℕ) → count ≤ k
    → least (flat_map places (with_ids sets kind (ids_in (count - k) (drop (16 * k) bytes)))) ≡ None
with_end places sets kind bytes count k past =
    ap (λ (ids : List (List ℕ)). least (flat_map places (with_ids sets kind ids))) (ids_end bytes k count past)

-- by one set more
kind_both : (kind : ℕ) (s : SetAt) (rest : List SetAt) → all_of_kind kind (s ∷ rest) ≡ of_kind kind (Some s) ++ all_of_kind kind rest
kind_both kind s rest =
    elim (s.set.kind == kind) as (λ (b : Bool). cond b (s ∷ all_of_kind kind rest) (all_of_kind kind rest) ≡ cond b (s ∷ []) [] ++ all_of_kind kind rest) [
      | true ↦ refl
      | false ↦ refl
    ]

pub kinds_step : (places : SetAt → List ℕ) (sets : List SetAt) (kind k : ℕ) (s : SetAt) → IsNth sets k s
    → least (flat_map places (all_of_kind kind (drop k sets)))
    ≡ lesser (least (flat_map places (of_kind kind (Some s)))) (least (flat_map places (all_of_kind kind (drop (k + 1) sets))))
kinds_step places sets kind k s h =
    let next : suc k ≡ k + 1 = omega arith in
    let rest : List SetAt = all_of_kind kind (drop (k + 1) sets) in
    ap (λ (xs : List SetAt). least (flat_map places (all_of_kind kind xs))) (drop_nth sets k s h)
    ∙ ap (λ (n : ℕ). least (flat_map places (all_of_kind kind (s ∷ drop n sets)))) next
    ∙ ap (λ (xs : List SetAt). least (flat_map places xs)) (kind_both kind s (drop (k + 1) sets))
    ∙ ap least (flat_map-append places (of_kind kind (Some s)) rest)
    ∙ least_both (flat_map places (of_kind kind (Some s))) (flat_map places rest)

-- the set at a number
pub held_nth : (bytes : List ℕ) (all : List Held) (k : ℕ) (d : Held) → k < length all → IsNth (sets_held bytes all) k (set_held bytes (get_or all k d))
held_nth bytes [] k d lt = absurd (omega arith)
held_nth bytes (first ∷ all) zero d lt = refl
held_nth bytes (first ∷ all) (suc k) d lt = held_nth bytes all k d (omega arith)

pub held_below : (bytes : List ℕ) (all : List Held) (k : ℕ) (s : SetAt) → IsNth (sets_held bytes all) k s → k < length all
held_below bytes all k s h = let lt = nth_below (sets_held bytes all) k s h in omega (arith, held_long bytes all, lt)

pub least_long : (places : SetAt → List ℕ) (sets : List SetAt) (values : List (Option ℕ)) → HasLeast places sets values → length values ≡ length sets
least_long places sets values h = ap length h ∙ length-map sets (λ s. least (places s))

-- what is kept at a number
pub value_is : (places : SetAt → List ℕ) (sets : List SetAt) (values : List (Option ℕ)) (k : ℕ) (s : SetAt) → HasLeast places sets values → IsNth sets k s
    → get_or values k None ≡ least (places s)
value_is places sets values k s h nth = ap (λ (xs : List (Option ℕ)). get_or xs k None) h ∙ at_map (λ s. least (places s)) sets k s None nth

pub flag_is : (test : SetAt → Bool) (sets : List SetAt) (flags : List Bool) (k : ℕ) (s : SetAt) → Tells test sets flags → IsNth sets k s → get_or flags k false ≡ test s
flag_is test sets flags k s h nth = ap (λ (xs : List Bool). get_or xs k false) h ∙ at_map test sets k s false nth

pub if_is : (test : SetAt → Bool) (places : SetAt → List ℕ) (s : SetAt) (b : Bool) → test s ≡ b → least (places_if test places s) ≡ cond b (least (places s)) None
if_is test places s true e = ap (λ (b : Bool). least (cond b (places s) [])) e
if_is test places s false e = ap (λ (b : Bool). least (cond b (places s) [])) e

-- sets of another kind are passed
pub kind_passed : (sets : List SetAt) (kind k : ℕ) (s : SetAt) → IsNth sets k s → (s.set.kind ≡ kind → ⊥)
    → all_of_kind kind (drop k sets) ≡ all_of_kind kind (drop (k + 1) sets)
kind_passed sets kind k s h ne =
    let next : suc k ≡ k + 1 = omega arith in
    let rest : List SetAt = all_of_kind kind (drop (suc k) sets) in
    ap (all_of_kind kind) (drop_nth sets k s h)
    ∙ ap (λ (b : Bool). cond b (s ∷ rest) rest) (ne_eqb s.set.kind kind ne)
    ∙ ap (λ (n : ℕ). all_of_kind kind (drop n sets)) next

pub kind_found : (sets : List SetAt) (kind k : ℕ) (s : SetAt) → IsNth sets k s → s.set.kind ≡ kind
    → all_of_kind kind (drop k sets) ≡ s ∷ all_of_kind kind (drop (k + 1) sets)
kind_found sets kind k s h e =
    let next : suc k ≡ k + 1 = omega arith in
    let rest : List SetAt = all_of_kind kind (drop (suc k) sets) in
    ap (all_of_kind kind) (drop_nth sets k s h)
    ∙ ap (λ (b : Bool). cond b (s ∷ rest) rest) (eq-eqb s.set.kind kind e)
    ∙ ap (λ (n : ℕ). s ∷ all_of_kind kind (drop n sets)) next

-- how many sets of a kind identifiers name
pub count_step : (sets : List SetAt) (kind : ℕ) (bytes id : List ℕ) (count k : ℕ) → k < count → id ≡ take 16 (drop (16 * k) bytes)
    → length (with_ids sets kind (ids_in (count - k) (drop (16 * k) bytes)))
    ≡ length (of_kind kind (set_with sets id)) + length (with_ids sets kind (ids_in (count - (k + 1)) (drop (16 * (k + 1)) bytes)))
count_step sets kind bytes id count k lt e =
    let rest : List SetAt = with_ids sets kind (ids_in (count - (k + 1)) (drop (16 * (k + 1)) bytes)) in
    ap (λ (ids : List (List ℕ)). length (with_ids sets kind ids)) (ids_next bytes k count lt)
    ∙ ap (λ (xs : List ℕ). length (of_kind kind (set_with sets xs) ++ rest)) (sym e)
    ∙ length-append (of_kind kind (set_with sets id)) rest

pub count_end : (sets : List SetAt) (kind : ℕ) (bytes : List ℕ) (count k : ℕ) → count ≤ k
    → length (with_ids sets kind (ids_in (count - k) (drop (16 * k) bytes))) ≡ 0
count_end sets kind bytes count k past = ap (λ (ids : List (List ℕ)). length (with_ids sets kind ids)) (ids_end bytes k count past)

pub count_is : (kind : ℕ) (s : SetAt) → s.set.kind ≡ kind → length (of_kind kind (Some s)) ≡ 1
count_is kind s e = ap (λ (b : Bool). length (cond b (s ∷ []) [])) (eq-eqb s.set.kind kind e)

pub count_not : (kind : ℕ) (s : SetAt) → (s.set.kind ≡ kind → ⊥) → length (of_kind kind (Some s)) ≡ 0
count_not kind s e = ap (λ (b : Bool). length (cond b (s ∷ []) [])) (ne_eqb s.set.kind kind e)

pub longer : {X : Type 0} (xs ys : List X) (x : X) (k : ℕ) → ys ≡ xs ++ x ∷ [] → length xs ≡ k → length ys ≡ k + 1
longer xs ys x k e long = let n = ap length e in omega (arith, n, length-append xs (x ∷ []), long)

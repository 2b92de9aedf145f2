-- What a look at the front of bytes decides.
use Rattle.std.proofs.Common.{◌≡◌, ◌≢◌, ℕ, ◌+◌, ◌-◌, ◌^◌, ◌<◌, ◌≤◌, inl, inr, List, [], ◌∷◌, ◌++◌, length, take, drop, refl, sym, ap, ◌∙◌, arith, append_assoc}
use Rattle.std.specs.Prelude.{replicate}
use Rattle.std.proofs.lemmas.List.{length-append, length-drop, length-take, length-take-le, length-replicate}
use Rattle.std.proofs.lemmas.List.{take_all, take_at, take-take, take-append-le, take-append-drop, drop-take, drop_all}
use Rattle.std.proofs.Math.Seq.{take-append-add}
use Rattle.std.proofs.lemmas.Bool.{cases_lt}
use Rattle.take_layout.specs.Takes.{AreUnits}
use Rattle.take_layout.specs.Walks.{FindsWhole, FindsPart, FindsUnit, AsksForMore, Stands}
use Rattle.take_layout.specs.declared.walk.Walk.{Walk}
use Rattle.take_layout.specs.declared.walk.Walk.TheVariants.{Lead}

-- bytes that are longer by others: the first of them are the bytes
padded : (n : ℕ) (xs pad : List ℕ) → take n xs ≡ take (length xs) (take n (xs ++ pad))
padded n xs pad = elim (cases_lt (length xs) n) [
  | inl less ↦ take_all n xs (omega (arith, less)) ∙ sym (take_at xs pad (length xs) refl) ∙ sym (take-take (length xs) n (xs ++ pad) (omega (arith, less)))
  | inr some ↦
      sym (take_all (length xs) (take n xs) (omega (arith, some, length-take n xs)))
      ∙ ap (λ (ys : List ℕ). take (length xs) ys) (sym (take-append-le n xs pad some))
]

-- where a lead is found there are units of its length
pub sized : (is_unit : List ℕ → Type 0) (bytes : List ℕ) (from at n : ℕ) → FindsUnit is_unit bytes from (Lead at n)
    → (unit : List ℕ) × is_unit unit × (n ≡ length unit)
sized is_unit bytes from at n finds =
    let xs : List ℕ = drop (at - from) bytes in
    let pad : List ℕ = replicate n 0 in
    let unit : List ℕ = take n (xs ++ pad) in
    let long : length unit ≡ n = length-take-le n (xs ++ pad) (omega (arith, length-append xs pad, length-replicate {A = ℕ} n 0)) in
    let same : take n xs ≡ take (length bytes - (at - from)) unit = padded n xs pad ∙ ap (λ (k : ℕ). take k unit) (length-drop (at - from) bytes) in
    (unit, (finds at n refl).1 unit long same, sym long)

-- what a front of bytes has of a part of them
fronted : (k n have : ℕ) (bytes : List ℕ) → k + n ≤ length bytes
    → take n (drop k (take have bytes)) ≡ take (length (take have bytes) - k) (take n (drop k bytes))
fronted k n have bytes room = elim (cases_lt have (k + n)) [
  | inl less ↦ elim (cases_lt have k) [
    | inl short ↦
        let none : drop k (take have bytes) ≡ [] = drop_all k (take have bytes) (omega (arith, short, length-take have bytes)) in
        let zero : length (take have bytes) - k ≡ 0 = omega (arith, short, length-take have bytes) in
        ap (λ (ys : List ℕ). take n ys) none ∙ take_all n [] (omega arith) ∙ ap (λ (j : ℕ). take j (take n (drop k bytes))) (sym zero)
    | inr behind ↦
        let some : take have bytes ≡ take (k + (have - k)) bytes = ap (λ (j : ℕ). take j bytes) (omega (arith, behind)) in
        let left : drop k (take have bytes) ≡ take (have - k) (drop k bytes) = ap (λ (ys : List ℕ). drop k ys) some ∙ drop-take k (have - k) bytes in
        let count : length (take have bytes) - k ≡ have - k = omega (arith, less, room, length-take have bytes) in
        ap (λ (ys : List ℕ). take n ys) left ∙ take_all n (take (have - k) (drop k bytes)) (omega (arith, less, length-take (have - k) (drop k bytes)))
        ∙ sym (take-take (have - k) n (drop k bytes) (omega (arith, less))) ∙ ap (λ (j : ℕ). take j (take n (drop k bytes))) (sym count)
  ]
  | inr all ↦
      let some : take have bytes ≡ take (k + (have - k)) bytes = ap (λ (j : ℕ). take j bytes) (omega (arith, all)) in
      let left : drop k (take have bytes) ≡ take (have - k) (drop k bytes) = ap (λ (ys : List ℕ). drop k ys) some ∙ drop-take k (have - k) bytes in
      ap (λ (ys : List ℕ). take n ys) left ∙ take-take n (have - k) (drop k bytes) (omega (arith, all))
      ∙ sym (take_all (length (take have bytes) - k) (take n (drop k bytes)) (omega (arith, all, room, length-take have bytes, length-take n (drop k bytes))))
]

-- a unit that is found stands there
pub found : (is_unit : List ℕ → Type 0) (lead : ℕ → List ℕ) (bytes : List ℕ) (have from n : ℕ)
    → FindsUnit is_unit (take have bytes) from (Lead (from + length (lead n)) n)
    → take (length (lead n)) bytes ≡ lead n → length (lead n) + n ≤ length bytes → Stands is_unit lead bytes n
found is_unit lead bytes have from n finds front room =
    let k : ℕ = length (lead n) in
    let unit : List ℕ = take n (drop k bytes) in
    let behind : (from + k) - from ≡ k = omega arith in
    let long : length unit ≡ n = length-take-le n (drop k bytes) (omega (arith, length-drop k bytes)) in
    let same : take n (drop ((from + k) - from) (take have bytes)) ≡ take (length (take have bytes) - ((from + k) - from)) unit =
    rw behind (fronted k n have bytes room) in
    record {
      unit = unit;
      rest = drop n (drop k bytes);
      is = (finds (from + k) n refl).1 unit long same;
      long = long;
      bytes_are = sym (take-append-drop k bytes) ∙ ap (λ (xs : List ℕ). xs ++ drop k bytes) front
          ∙ ap (λ (xs : List ℕ). lead n ++ xs) (sym (take-append-drop n (drop k bytes)));
    }

-- a unit that stands there is found by one look at so many bytes
pub seen : (is_unit : List ℕ → Type 0) (lead : List (List ℕ) → ℕ → List ℕ) (most lead_most : ℕ)
    (units : List (List ℕ)) (unit rest : List ℕ) (have from : ℕ) (walk : Walk)
    → FindsWhole is_unit lead most (take have (lead units (length unit) ++ (unit ++ rest))) from walk
    → FindsPart is_unit lead most (take have (lead units (length unit) ++ (unit ++ rest))) from walk
    → AsksForMore lead_most (take have (lead units (length unit) ++ (unit ++ rest))) walk
    → AreUnits is_unit most (units ++ unit ∷ []) → lead_most + 2 ^ 16 ≤ have → from + length (lead units (length unit)) < 2 ^ 64
    → walk ≡ Lead (from + length (lead units (length unit))) (length unit)
seen is_unit lead most lead_most units unit rest have from walk whole part asks are enough small =
    let piece : List ℕ = lead units (length unit) in
    let first : List ℕ = piece ++ unit in
    let joined : piece ++ (unit ++ rest) ≡ first ++ rest = sym (append_assoc piece unit rest) in
    elim (cases_lt have (length first)) [
      | inl less ↦
          let front : take have (piece ++ (unit ++ rest)) ≡ take have first =
          ap (λ (xs : List ℕ). take have xs) joined ∙ take-append-le have first rest (omega (arith, less)) in
          let some : drop have first ≢ [] = λ none. absurd (omega (arith, less, length-drop have first, ap length none)) in
          let all : take have (piece ++ (unit ++ rest)) ++ drop have first ≡ first =
          ap (λ (xs : List ℕ). xs ++ drop have first) front ∙ take-append-drop have first in
          let count : length (take have (piece ++ (unit ++ rest))) ≡ have = ap length front ∙ length-take-le have first (omega (arith, less)) in
          elim (part units unit (drop have first) are some all small) [
            | inl is ↦ is
            | inr (need, is, needs) ↦ let asked = asks need is in let above = needs.above in absurd (omega (arith, asked.0, asked.1, above, enough, count))
          ]
      | inr full ↦
          let count : have ≡ length first + (have - length first) = omega (arith, full) in
          let front : take have (piece ++ (unit ++ rest)) ≡ first ++ take (have - length first) rest =
          ap (λ (xs : List ℕ). take have xs) joined ∙ ap (λ (j : ℕ). take j (first ++ rest)) count ∙ take-append-add first rest (have - length first) in
          whole units unit (take (have - length first) rest) are front small
    ]

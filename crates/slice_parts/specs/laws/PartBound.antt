-- Laws of the bound of a part from its half steps: it is no more than the bits, and it falls as the scale rises: proved here, for proofs to cite.
use Rattle.std.proofs.Common.{◌≡◌, ◌⊎◌, inl, inr, ℕ, zero, suc, ℤ, pos, negsuc, ◌-ℤ◌, ◌+◌, ◌-◌, ◌*◌, ◌/◌, ◌%◌, ◌^◌, ◌≤◌, ◌<◌, List, [], ◌∷◌, length, take, drop, map, refl, sym, ap, ap₂, ◌∙◌, subst, arith, slice_index}
use Rattle.std.specs.Int.RustNames.{unsigned_abs}
use Rattle.std.proofs.lemmas.Bool.{cases_lt}
use Rattle.std.proofs.lemmas.List.{length-take-le, drop-map, take-map}
use Rattle.std.proofs.lemmas.Nat.{div-add-mod', le-div}
use Rattle.std.proofs.Math.Nat.{mul-le-mul_left}
use Rattle.prores_scan.specs.HalfSteps.{half_steps_of}
use Rattle.prores_scan.specs.Levels.{level_of}
use Rattle.prores_scan.specs.ScaledLevels.{signed_of}
use Rattle.prores_scan.specs.laws.HalfStepLaws.{level_size, level_from_half_steps, sizes_fall, signed_size}
use Rattle.prores_scan.specs.laws.ChangeLaws.{change_is}
use Rattle.slice_parts.specs.Component.{IsSpelled, level_at, signed_levels}
use Rattle.slice_parts.specs.Bound.{ac_bound, dc_bound, AreChanges, AreNoGreater, size_at, numbers_at, change_at, changes_at, part_bound}
use Rattle.slice_parts.specs.laws.BoundLaws.{bound_is_low, ac_bound_falls, dc_bound_falls}

-- some coefficient has these half steps
pub record HasHalfSteps (v : ℕ) : Type 0 where
  pub g : ℤ
  pub is : v ≡ half_steps_of g 1

pub has_half_steps : (v : ℕ) → HasHalfSteps v
has_half_steps v = cases (cases_lt (v % 2) 1)
  where
    cases : (v % 2 < 1) ⊎ (1 ≤ v % 2) → HasHalfSteps v
    cases (inl even) = record { g = pos (2 ^ 25 * (v / 2)); is = omega (arith, even) }
    cases (inr odd) = record { g = negsuc (2 ^ 25 * (v / 2)); is = omega (arith, odd) }

-- the size is that of any such coefficient's level
pub size_is : (scale v : ℕ) (g : ℤ) → v ≡ half_steps_of g 1 → size_at scale v ≡ unsigned_abs (level_of g 1 scale)
size_is scale v g is = ap (λ (n : ℕ). size_at scale n) is ∙ sym (level_size g 1 scale (omega arith))

-- sizes don't rise with the scale
pub size_falls : (from to v : ℕ) → 1 ≤ from → from ≤ to → size_at to v ≤ size_at from v
size_falls from to v some order =
    let h = has_half_steps v in
    omega (arith, size_is to v h.g h.is, size_is from v h.g h.is, sizes_fall h.g 1 from to (omega arith) some order)

quotient_falls : (n from to : ℕ) → 1 ≤ from → from ≤ to → n / (2 * to) ≤ n / (2 * from)
quotient_falls n from to some order =
    let q : ℕ = n / (2 * to) in
    let low : q * (2 * from) ≤ q * (2 * to) = mul-le-mul_left q (omega arith) in
    le-div q n (2 * from) (omega (arith, some)) (omega (arith, low, div-add-mod' n (2 * to)))

pub change_falls : (from to v w : ℕ) → 1 ≤ from → from ≤ to → change_at to v w ≤ change_at from v w
change_falls from to v w some order = quotient_falls (unsigned_abs (signed_of w -ℤ signed_of v) - 1) from to some order

more : (y x : ℕ) (ys xs : List ℕ) → y ≤ x → AreNoGreater ys xs → AreNoGreater (y ∷ ys) (x ∷ xs)
more y x ys xs first less = record { long = ap suc less.long; each = λ k lt. each k lt }
  where
    each : (k : ℕ) → k < length (y ∷ ys) → slice_index (y ∷ ys) k ≤ slice_index (x ∷ xs) k
    each zero lt = first
    each (suc k) lt = less.each k (omega (arith, lt))

none : AreNoGreater [] []
none = record { long = refl; each = λ k lt. absurd (omega (arith, lt)) }

sizes_fall_all : (from to : ℕ) (half_steps : List ℕ) → 1 ≤ from → from ≤ to → AreNoGreater (map (λ v. size_at to v) half_steps) (map (λ v. size_at from v) half_steps)
sizes_fall_all from to [] some order = none
sizes_fall_all from to (v ∷ half_steps) some order =
    more (size_at to v) (size_at from v) (map (λ v. size_at to v) half_steps) (map (λ v. size_at from v) half_steps) (size_falls from to v some order) (sizes_fall_all from to half_steps some order)

changes_fall_all : (from to : ℕ) (half_steps : List ℕ) → 1 ≤ from → from ≤ to → AreNoGreater (changes_at to half_steps) (changes_at from half_steps)
changes_fall_all from to [] some order = none
changes_fall_all from to (v ∷ []) some order = none
changes_fall_all from to (v ∷ w ∷ half_steps) some order =
    more (change_at to v w) (change_at from v w) (changes_at to (w ∷ half_steps)) (changes_at from (w ∷ half_steps)) (change_falls from to v w some order) (changes_fall_all from to (w ∷ half_steps) some order)

-- the bound doesn't rise with the scale
pub part_bound_falls : (from to blocks : ℕ) (half_steps : List ℕ) → 1 ≤ from → from ≤ to → part_bound to blocks half_steps ≤ part_bound from blocks half_steps
part_bound_falls from to blocks half_steps some order =
    omega (
      arith,
      dc_bound_falls (changes_at to (take blocks half_steps)) (changes_at from (take blocks half_steps)) (changes_fall_all from to (take blocks half_steps) some order),
      ac_bound_falls (map (λ v. size_at to v) (drop blocks half_steps)) (map (λ v. size_at from v) (drop blocks half_steps)) (sizes_fall_all from to (drop blocks half_steps) some order),
    )

-- the level of a coefficient with these half steps
abbrev level_by : ℕ → ℕ → ℤ
level_by scale v = signed_of (2 * size_at scale v + v % 2)

change_low : (scale v w : ℕ) → 1 ≤ scale → change_at scale v w ≤ unsigned_abs (level_by scale w -ℤ level_by scale v)
change_low scale v w some = cases (cases_lt 0 (unsigned_abs (signed_of w -ℤ signed_of v)))
  where
    cases : (0 < unsigned_abs (signed_of w -ℤ signed_of v)) ⊎ (unsigned_abs (signed_of w -ℤ signed_of v) ≤ 0) → change_at scale v w ≤ unsigned_abs (level_by scale w -ℤ level_by scale v)
    cases (inl apart) =
        let a = has_half_steps v in
        let b = has_half_steps w in
        let low : change_at scale v w ≤ unsigned_abs (level_of b.g 1 scale -ℤ level_of a.g 1 scale) =
        change_is v w scale (unsigned_abs (signed_of w -ℤ signed_of v)) some (omega (arith, apart)) refl a.g b.g 1 (omega arith) a.is b.is in
        rw (level_from_half_steps b.g 1 scale w (omega arith) b.is, level_from_half_steps a.g 1 scale v (omega arith) a.is) low
    cases (inr same) =
        let few : 1 ≤ 2 * scale = omega (arith, some) in
        let small : change_at scale v w * (2 * scale) ≤ 0 = omega (arith, same, div-add-mod' (unsigned_abs (signed_of w -ℤ signed_of v) - 1) (2 * scale)) in
        let one : change_at scale v w * 1 ≤ change_at scale v w * (2 * scale) = mul-le-mul_left (change_at scale v w) few in
        omega (arith, small, one)

joined_changes : (scale v w : ℕ) (half_steps : List ℕ) → 1 ≤ scale → AreChanges (signed_levels (numbers_at scale (w ∷ half_steps))) (changes_at scale (w ∷ half_steps))
    → AreChanges (signed_levels (numbers_at scale (v ∷ w ∷ half_steps))) (changes_at scale (v ∷ w ∷ half_steps))
joined_changes scale v w half_steps some rest = record { long = omega (arith, rest.long); each = λ k lt. each k lt }
  where
    each : (k : ℕ) → k < length (changes_at scale (v ∷ w ∷ half_steps))
        → slice_index (changes_at scale (v ∷ w ∷ half_steps)) k
        ≤ unsigned_abs (level_at (signed_levels (numbers_at scale (v ∷ w ∷ half_steps))) (suc k) -ℤ level_at (signed_levels (numbers_at scale (v ∷ w ∷ half_steps))) k)
    each zero lt = change_low scale v w some
    each (suc k) lt = rest.each k (omega (arith, lt))

changes_are : (scale v : ℕ) (half_steps : List ℕ) → 1 ≤ scale → AreChanges (signed_levels (numbers_at scale (v ∷ half_steps))) (changes_at scale (v ∷ half_steps))
changes_are scale v [] some = record { long = refl; each = λ k lt. absurd (omega (arith, lt)) }
changes_are scale v (w ∷ half_steps) some = joined_changes scale v w half_steps some (changes_are scale w half_steps some)

some_changes : (scale : ℕ) (half_steps : List ℕ) → 1 ≤ scale → 1 ≤ length half_steps → AreChanges (signed_levels (numbers_at scale half_steps)) (changes_at scale half_steps)
some_changes scale [] some long = absurd (omega (arith, long))
some_changes scale (v ∷ half_steps) some long = changes_are scale v half_steps some

sizes_are : (scale : ℕ) (half_steps : List ℕ) → map unsigned_abs (signed_levels (numbers_at scale half_steps)) ≡ map (λ v. size_at scale v) half_steps
sizes_are scale [] = refl
sizes_are scale (v ∷ half_steps) =
    let half : (2 * size_at scale v + v % 2) / 2 ≡ size_at scale v = omega arith in
    ap₂ (λ (n : ℕ) (ns : List ℕ). n ∷ ns) (signed_size (2 * size_at scale v + v % 2) ∙ half) (sizes_are scale half_steps)

front_of : (n scale : ℕ) (half_steps : List ℕ) → take n (signed_levels (numbers_at scale half_steps)) ≡ signed_levels (numbers_at scale (take n half_steps))
front_of n scale half_steps =
    take-map signed_of n (numbers_at scale half_steps) ∙ ap (λ (ns : List ℕ). signed_levels ns) (take-map (λ (v : ℕ). 2 * size_at scale v + v % 2) n half_steps)

rest_of : (n scale : ℕ) (half_steps : List ℕ) → drop n (signed_levels (numbers_at scale half_steps)) ≡ signed_levels (numbers_at scale (drop n half_steps))
rest_of n scale half_steps =
    drop-map signed_of n (numbers_at scale half_steps) ∙ ap (λ (ns : List ℕ). signed_levels ns) (drop-map (λ (v : ℕ). 2 * size_at scale v + v % 2) n half_steps)

-- the sizes of the levels from a place on
pub sizes_from : (n scale : ℕ) (half_steps : List ℕ) → map unsigned_abs (drop n (signed_levels (numbers_at scale half_steps))) ≡ drop n (map (λ v. size_at scale v) half_steps)
sizes_from n scale half_steps =
    ap (λ (xs : List ℤ). map unsigned_abs xs) (rest_of n scale half_steps) ∙ (sizes_are scale (drop n half_steps) ∙ sym (drop-map (λ (v : ℕ). size_at scale v) n half_steps))

-- the spelling of the levels at a scale has no fewer bits than the bound
pub part_bound_is_low : (scale blocks : ℕ) (half_steps bits : List ℕ) → 1 ≤ scale → 1 ≤ blocks → length half_steps ≡ 64 * blocks
    → IsSpelled blocks (signed_levels (numbers_at scale half_steps)) bits → part_bound scale blocks half_steps ≤ length bits
part_bound_is_low scale blocks half_steps bits some more long spelled =
    let levels : List ℤ = signed_levels (numbers_at scale half_steps) in
    let first : 1 ≤ length (take blocks half_steps) = omega (arith, more, length-take-le blocks half_steps (omega (arith, long, more))) in
    let far : AreChanges (take blocks levels) (changes_at scale (take blocks half_steps)) =
    subst (λ (xs : List ℤ). AreChanges xs (changes_at scale (take blocks half_steps))) (sym (front_of blocks scale half_steps)) (some_changes scale (take blocks half_steps) some first) in
    let sizes : map unsigned_abs (drop blocks levels) ≡ map (λ v. size_at scale v) (drop blocks half_steps) =
    ap (λ (xs : List ℤ). map unsigned_abs xs) (rest_of blocks scale half_steps) ∙ sizes_are scale (drop blocks half_steps) in
    subst (λ (ns : List ℕ). 5 + dc_bound (changes_at scale (take blocks half_steps)) + ac_bound 0 ns ≤ length bits) sizes
    (bound_is_low blocks levels bits (changes_at scale (take blocks half_steps)) spelled far)

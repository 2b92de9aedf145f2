-- How a piece is written in two parts.
use Rattle.std.proofs.Common.{◌≡◌, ℕ, List, ◌++◌, Option, Some, None, Result, Ok, Err, sym, ap, subst, ◌∙◌, append_assoc, arith}
use Rattle.std.proofs.lemmas.List.{length-append}
use Rattle.raw_feed.specs.Written.{Writes}

-- the sink failed inside the first of two pieces
pub Writes-first : {E F : Type 0} (old now : Option (List ℕ)) (first second whole : List ℕ) (e : E) (f : F)
    → whole ≡ first ++ second → Writes old now (Err e) first → Writes old now (Err f) whole
Writes-first None now first second whole e f is w = w
Writes-first (Some old) now first second whole e f is (front, back, split, moved, some) = (
  front,
  back ++ second,
  is ∙ (ap (λ (xs : List ℕ). xs ++ second) split ∙ append_assoc front back second),
  moved,
  omega (arith, length-append back second),
)

-- the first of two pieces was written, and then as much of the second as the sink took
pub Writes-second : {E F : Type 0} (old mid now : Option (List ℕ)) (r : Result (Unit {0}) E) (s : Result (Unit {0}) F) (first second whole : List ℕ)
    → r ≡ Ok tt → whole ≡ first ++ second → Writes old mid r first → Writes mid now s second → Writes old now s whole
Writes-second None mid now r s first second whole done is w v = subst (λ (m : Option (List ℕ)). Writes m now s second) w v
Writes-second (Some old) mid now r (Ok x) first second whole done is w v =
    let before : mid ≡ Some (old ++ first) = rw done at w in
    let after : now ≡ Some ((old ++ first) ++ second) = rw before at v in
    after ∙ ap Some (append_assoc old first second ∙ ap (λ (xs : List ℕ). old ++ xs) (sym is))
Writes-second (Some old) mid now r (Err e) first second whole done is w v =
    let before : mid ≡ Some (old ++ first) = rw done at w in
    let after : Writes (Some (old ++ first)) now (Err e) second = rw before at v in (
      first ++ after.0,
      after.1,
      is ∙ (ap (λ (xs : List ℕ). first ++ xs) after.2 ∙ sym (append_assoc first after.0 after.1)),
      after.3 ∙ ap Some (append_assoc old first after.0),
      after.4,
    )

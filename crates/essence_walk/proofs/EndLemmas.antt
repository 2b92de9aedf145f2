-- Where the file of units ends at a mark, and which places lie before it.
use Rattle.std.proofs.Common.{◌≡◌, ℕ, ◌+◌, ◌≤◌, true, false, All, Some, Result, Ok, Err, IfOk, List, []}
use Rattle.std.proofs.Common.{◌++◌, length, take, drop, get_or, refl, sym, ap, ◌∙◌, arith, append_assoc}
use Rattle.std.specs.Prelude.{slice_get}
use Rattle.std.proofs.lemmas.List.{length-append, take_at, drop_at, take-append-drop}
use Rattle.std.proofs.lemmas.Option.{slice_get-get_or}
use Rattle.rec_bytes.specs.Configuration.{Fields}
use Rattle.commit_sidecar.specs.Recovers.{file_of}
use Rattle.take_core.specs.declared.mark.Mark.{Mark}
use Rattle.take_layout.specs.declared.layout.TakeLayout.{Ghosts}
use Rattle.take_layout.specs.declared.place.Place.{Place}
use Rattle.essence_walk.specs.inner.Looks.{Ends}

-- a closed file is the growing one, and then the tail
abbrev pub Closes : {L : Type 0} → Ghosts L → Fields → Type 0
Closes layout cfg = (units : List (List ℕ)) → layout.closed cfg units ≡ layout.growing cfg units ++ layout.tail cfg units

module _ {L : Type 0} (layout : Ghosts L) (cfg : Fields) (mark : Mark) (essence : List ℕ) (units : List (List ℕ)) where
  -- the file of an open mark is the growing one
  pub file_open : mark.closed ≡ false → file_of layout mark.closed cfg units ≡ layout.growing cfg units
  file_open is = ap (λ b. file_of layout b cfg units) is

  -- and that of a closed one has the tail
  pub file_closed : Closes layout cfg → mark.closed ≡ true → file_of layout mark.closed cfg units ≡ layout.growing cfg units ++ layout.tail cfg units
  file_closed closes is = ap (λ b. file_of layout b cfg units) is ∙ closes units

  -- the file of an open mark ends there
  pub ends_open : mark.closed ≡ false → (rest : List ℕ) → essence ≡ layout.growing cfg units ++ rest
      → mark.length ≡ length (layout.growing cfg units) → Ends layout cfg mark essence units
  ends_open is rest begins long = record {
    length_is = long ∙ ap (length {A = ℕ}) (sym (file_open is));
    rest = rest;
    begins = begins ∙ ap (λ (xs : List ℕ). xs ++ rest) (sym (file_open is));
  }

  -- and that of a closed one, where the tail stands there
  pub ends_closed : Closes layout cfg → mark.closed ≡ true → (rest : List ℕ) → essence ≡ layout.growing cfg units ++ rest
      → mark.length ≡ length (layout.growing cfg units) + length (layout.tail cfg units)
      → take (length (layout.tail cfg units)) (drop (length (layout.growing cfg units)) essence) ≡ layout.tail cfg units
      → Ends layout cfg mark essence units
  ends_closed closes is rest begins long there =
      let head : List ℕ = layout.growing cfg units in
      let tail : List ℕ = layout.tail cfg units in
      let more : List ℕ = drop (length tail) rest in
      let file_is = file_closed closes is in
      let behind : drop (length head) essence ≡ rest = ap (λ (xs : List ℕ). drop (length head) xs) begins ∙ drop_at head rest (length head) refl in
      let front : take (length tail) rest ≡ tail = ap (λ (xs : List ℕ). take (length tail) xs) (sym behind) ∙ there in
      let rest_is : rest ≡ tail ++ more = sym (take-append-drop (length tail) rest) ∙ ap (λ (xs : List ℕ). xs ++ more) front in
      record {
        length_is = long ∙ (sym (length-append head tail) ∙ ap (length {A = ℕ}) (sym file_is));
        rest = more;
        begins = begins ∙ (ap (λ (xs : List ℕ). head ++ xs) rest_is ∙ (sym (append_assoc head tail more) ∙ ap (λ (xs : List ℕ). xs ++ more) (sym file_is)));
      }

  -- where it ends there, so it does
  pub long_closed : Closes layout cfg → mark.closed ≡ true → Ends layout cfg mark essence units
      → mark.length ≡ length (layout.growing cfg units) + length (layout.tail cfg units)
  long_closed closes is e =
      e.length_is ∙ (ap (length {A = ℕ}) (file_closed closes is) ∙ length-append (layout.growing cfg units) (layout.tail cfg units))

  pub tail_stands : Closes layout cfg → mark.closed ≡ true → Ends layout cfg mark essence units
      → take (length (layout.tail cfg units)) (drop (length (layout.growing cfg units)) essence) ≡ layout.tail cfg units
  tail_stands closes is e =
      let head : List ℕ = layout.growing cfg units in
      let tail : List ℕ = layout.tail cfg units in
      let all : essence ≡ head ++ (tail ++ e.rest) =
      e.begins ∙ (ap (λ (xs : List ℕ). xs ++ e.rest) (file_closed closes is) ∙ append_assoc head tail e.rest) in
      ap (λ (xs : List ℕ). take (length tail) (drop (length head) xs)) all
      ∙ (ap (λ (xs : List ℕ). take (length tail) xs) (drop_at head (tail ++ e.rest) (length head) refl)
      ∙ take_at tail e.rest (length tail) refl)

-- each place that lies before the end of the file of units ends there or before
pub all_end : (places : List Place) (units : List (List ℕ)) (end limit : ℕ) → length places ≡ length units → end ≤ limit
    → ((place : Place) (unit : List ℕ) (i : ℕ) → slice_get places i ≡ Some place → slice_get units i ≡ Some unit → place.at + place.len ≤ end)
    → All (λ (place : Place). place.at + place.len ≤ limit) places
all_end places units end limit count within each = λ k d inside.
    let place : Place = get_or places k d in
    let le = each place (get_or units k []) k (slice_get-get_or places k d inside) (slice_get-get_or units k [] (omega (arith, inside, count))) in
    omega (arith, le, within)

-- two facts of one answer
pub both_ok : {T E : Type 0} (r : Result T E) (P Q R : T → Type 0) → ((x : T) → P x → Q x → R x) → IfOk r P → IfOk r Q → IfOk r R
both_ok (Ok x) P Q R join p q = join x p q
both_ok (Err e) P Q R join p q = tt

-- An essence has one answer.
use Rattle.std.proofs.Common.{◌≡◌, ℕ, ◌≤◌, inl, inr, true, List, [], ◌∷◌, refl, length, sym, ap, ◌∙◌, arith}
use Rattle.std.proofs.lemmas.List.{length-append}
use Rattle.rec_bytes.specs.Configuration.{Fields}
use Rattle.commit_sidecar.specs.Recovers.{file_of}
use Rattle.take_core.specs.declared.mark.Mark.{Mark}
use Rattle.take_layout.specs.declared.layout.TakeLayout.{Ghosts}
use Rattle.take_layout.specs.declared.place.Place.{Place}
use Rattle.essence_walk.specs.Essences.{BeginsFile, Names, NamesPlaces, IsFront, IsGreatest, IsDamaged}
use Rattle.essence_walk.specs.inner.Looks.{BeginsPlaces}

-- the greatest place is one
greatest_one : (Holds : ℕ → Type 0) (at other : ℕ) → IsGreatest Holds at → IsGreatest Holds other → at ≡ other
greatest_one Holds at other (inl (h, most)) (inl (k, best)) = let a = most other k in let b = best at h in omega (arith, a, b)
greatest_one Holds at other (inl (h, most)) (inr (zero_is, none)) = absurd (none at h)
greatest_one Holds at other (inr (zero_is, none)) (inl (k, best)) = absurd (none other k)
greatest_one Holds at other (inr (zero_is, none)) (inr (other_zero, never)) = zero_is ∙ sym other_zero

no_elements : (xs : List ℕ) → length xs ≡ 0 → xs ≡ []
no_elements [] e = refl
no_elements (x ∷ xs) e = absurd (omega arith)

module _ {L : Type 0} (layout : Ghosts L) (cfg : Fields) (mark : Mark) (essence : List ℕ) where
  -- an essence with a file is as long as that
  long_enough : (units : List (List ℕ)) → BeginsFile layout cfg mark essence units → mark.length ≤ length essence
  long_enough units f =
      let is = f.length_is in
      omega (arith, is, ap length f.begins, length-append (file_of layout mark.closed cfg units) f.rest)

  -- where units are named nothing is damaged
  pub not_damaged : (units : List (List ℕ)) (at : ℕ) → Names layout cfg mark essence units → IsDamaged layout cfg mark essence at → ⊥
  not_damaged units at n (inl s) = let long = long_enough units n.file in let short = s.short in omega (arith, long, short)
  not_damaged units at n (inr (inl b)) = b.none units n.file
  not_damaged units at n (inr (inr l)) =
      let file = n.file in
      let is = file.length_is in
      let longer = l.longer in
      omega (arith, is, longer, ap length file.begins, length-append (file_of layout mark.closed cfg units) file.rest, ap length (n.ends l.closed))

  -- there is one place where an essence is damaged
  pub damaged_once : (at other : ℕ) → IsDamaged layout cfg mark essence at → IsDamaged layout cfg mark essence other → at ≡ other
  damaged_once at other (inl s) (inl t) = s.place ∙ sym t.place
  damaged_once at other (inl s) (inr (inl b)) = let short = s.short in let long = b.long in absurd (omega (arith, short, long))
  damaged_once at other (inl s) (inr (inr l)) = let short = s.short in let longer = l.longer in absurd (omega (arith, short, longer))
  damaged_once at other (inr (inl b)) (inl t) = let short = t.short in let long = b.long in absurd (omega (arith, short, long))
  damaged_once at other (inr (inl b)) (inr (inl c)) = greatest_one (IsFront layout cfg mark essence) at other b.place c.place
  damaged_once at other (inr (inl b)) (inr (inr l)) = absurd (b.none l.units l.file)
  damaged_once at other (inr (inr l)) (inl t) = let short = t.short in let longer = l.longer in absurd (omega (arith, short, longer))
  damaged_once at other (inr (inr l)) (inr (inl b)) = absurd (b.none l.units l.file)
  damaged_once at other (inr (inr l)) (inr (inr m)) = l.place ∙ sym m.place

  -- an essence that begins with the file that the mark says, and is no longer where that is closed, has the units named
  pub named_places : (places : List Place) → BeginsPlaces layout cfg mark essence places
      → (mark.closed ≡ true → length essence ≡ mark.length) → NamesPlaces layout cfg mark essence places
  named_places places b ends =
      let file = b.file in
      let is = file.length_is in
      record {
        units = b.units;
        names = record {
          file = file;
          ends = λ closed. no_elements file.rest
              (omega (arith, is, ends closed, ap length file.begins, length-append (file_of layout mark.closed cfg b.units) file.rest));
        };
        lie = b.lie;
      }

-- Open records tell their marks.
use Rattle.std.proofs.Common.{◌≡◌, ◌≢◌, inl, inr, ℕ, List, [], ◌∷◌, ◌++◌, length, drop, get_or, Option, Some}
use Rattle.std.proofs.Common.{refl, sym, ap, ap₂, subst, ◌∙◌, arith, append_assoc}
use Rattle.take_core.specs.declared.mark.Mark.{Mark}
use Rattle.commit_sidecar.specs.Notes.{note_of, Follows, Follow, last_from}
use Rattle.commit_sidecar.specs.Refusals.{Breaks}
use Rattle.commit_sidecar.specs.Says.{opened}
use Rattle.commit_sidecar.proofs.NoteLemmas.{one_note}

-- bytes behind open records begin no further one
abbrev pub Stops : Option Mark → List ℕ → Type 0
Stops last rest = (mark : Mark) (more : List ℕ) → rest ≡ 1 ∷ (note_of mark ++ more) → Follows last mark → ⊥

-- a gate that isn't 1 begins none
pub shut_stops : (last : Option Mark) (gate : ℕ) (rest : List ℕ) → gate ≢ 1 → Stops last (gate ∷ rest)
shut_stops last gate rest shut mark more e follows = shut (ap (λ (xs : List ℕ). get_or xs 0 0) e)

-- and what is damaged begins none
pub breaks_stop : (last : Option Mark) (rest : List ℕ) → Breaks last rest → Stops last rest
breaks_stop last rest (inl none) mark more e follows = omega (arith, ap length (sym none ∙ e))
breaks_stop last rest (inr broken) mark more e follows = broken.2 mark more (ap (λ (xs : List ℕ). drop 1 xs) (sym broken.1 ∙ e)) follows

-- bytes begin with the open records of one list of marks
pub same_marks : (last : Option Mark) (marks others : List Mark) (rest more : List ℕ) → Follow last marks → Follow last others
    → Stops (last_from last marks) rest → Stops (last_from last others) more → opened marks ++ rest ≡ opened others ++ more
    → (marks ≡ others) × (rest ≡ more)
same_marks last [] [] rest more follow follows stops halts e = (refl, e)
same_marks last [] (other ∷ others) rest more follow follows stops halts e =
    absurd (stops other (opened others ++ more) (e ∙ ap (λ (xs : List ℕ). 1 ∷ xs) (append_assoc (note_of other) (opened others) more)) follows.0)
same_marks last (mark ∷ marks) [] rest more follow follows stops halts e =
    absurd (halts mark (opened marks ++ rest) (sym e ∙ ap (λ (xs : List ℕ). 1 ∷ xs) (append_assoc (note_of mark) (opened marks) rest)) follow.0)
same_marks last (mark ∷ marks) (other ∷ others) rest more follow follows stops halts e =
    let same : note_of mark ++ (opened marks ++ rest) ≡ note_of other ++ (opened others ++ more) =
    sym (append_assoc (note_of mark) (opened marks) rest) ∙ ap (λ (xs : List ℕ). drop 1 xs) e ∙ append_assoc (note_of other) (opened others) more in
    let first = one_note mark other _ _ follow.0.fits follows.0.fits same in
    let behind : Follow (Some mark) others = subst (λ (m : Mark). Follow (Some m) others) (sym first.0) follows.1 in
    let ends : Stops (last_from (Some mark) others) more = subst (λ (m : Mark). Stops (last_from (Some m) others) more) (sym first.0) halts in
    let next = same_marks (Some mark) marks others rest more follow.1 behind stops ends first.1 in
    (ap₂ (λ (m : Mark) (ms : List Mark). m ∷ ms) first.0 next.0, next.1)

-- Bytes of an essence that are held in a buffer.
use Rattle.std.proofs.Common.{◌≡◌, ℕ, ◌+◌, ◌-◌, ◌≤◌, List, ◌++◌, length, take, drop, Option, Some, None, refl, subst, sym, ap, ◌∙◌, arith}
use Rattle.std.proofs.lemmas.List.{drop-drop, length-take-le, length-drop}
use Rattle.std.proofs.Math.Seq.{take-add}
use Rattle.std.proofs.lemmas.Slice.{take-put_mid}
use Rattle.take_disk.specs.Calls.{IfTold}
use Rattle.take_disk.specs.Held.{Disk}
use borrow.Rule.Slice.PartMut.{put_mid}

-- what is read behind the bytes that are held goes on with them
pub held_on : (at have need : ℕ) (old part essence : List ℕ) → have ≤ need → need ≤ length old → at + need ≤ length essence
    → part ≡ take (length (take (need - have) (drop have old))) (drop (at + have) essence) → take have old ≡ take have (drop at essence)
    → take need (put_mid have (need - have) old part) ≡ take need (drop at essence)
held_on at have need old part essence order room inside is held =
    let count : length (take (need - have) (drop have old)) ≡ need - have =
    length-take-le (need - have) (drop have old) (omega (arith, length-drop have old)) in
    let part_is : part ≡ take (need - have) (drop (at + have) essence) = is ∙ ap (λ (n : ℕ). take n (drop (at + have) essence)) count in
    let long : length part ≡ need - have =
    ap (length {A = ℕ}) part_is ∙ length-take-le (need - have) (drop (at + have) essence) (omega (arith, length-drop (at + have) essence)) in
    let sum : have + (need - have) ≡ need = omega arith in
    take-put_mid have (need - have) old part need (omega (arith, long)) (omega arith)
    ∙ (ap (λ (xs : List ℕ). xs ++ part) held
    ∙ (ap (λ (xs : List ℕ). take have (drop at essence) ++ xs)
    (part_is ∙ ap (λ (xs : List ℕ). take (need - have) xs) (sym (drop-drop have at essence)))
    ∙ (sym (take-add have (need - have) (drop at essence)) ∙ ap (λ (n : ℕ). take n (drop at essence)) sum)))

-- what is told of a disk that tells
pub told_is : (o : Option Disk) (P : Disk → Type 0) (told : Disk) → o ≡ Some told → IfTold o P → P told
told_is o P told e h = subst (λ (x : Option Disk). IfTold x P) e h

pub if_told : (o : Option Disk) (P : Disk → Type 0) → ((told : Disk) → o ≡ Some told → P told) → IfTold o P
if_told None P h = tt
if_told (Some told) P h = h told refl

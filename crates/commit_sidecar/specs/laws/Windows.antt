-- What a look at the first bytes decides of all bytes: proved here, for proofs to cite.
use Rattle.std.proofs.Common.{◌≡◌, ℕ, ◌+◌, ◌-◌, ◌≤◌, inl, inr, List, [], ◌∷◌, ◌++◌, length, take, drop, Option, refl, sym, ap, subst, ◌∙◌, arith, append_assoc}
use Rattle.std.proofs.lemmas.List.{length-take, take_all, take-take, take-append-drop, drop-take, get_or-take}
use Rattle.std.proofs.Math.Seq.{take-append-add}
use Rattle.rec_bytes.specs.Configuration.{Fields, first_fault}
use Rattle.take_core.specs.declared.mark.Mark.{Mark}
use Rattle.commit_sidecar.specs.declared.looks.Look.{Look}
use Rattle.commit_sidecar.specs.declared.looks.Look.TheVariants.{Shut, Open, Broken}
use Rattle.commit_sidecar.specs.declared.head.TheConstants.{HEAD_LEN}
use Rattle.commit_sidecar.specs.declared.note.TheConstants.{RECORD_LEN}
use Rattle.commit_sidecar.specs.Looks.{BeginsHead, Sees, IsEnough}
use Rattle.commit_sidecar.specs.Notes.{note_of}
use Rattle.commit_sidecar.specs.Refusals.{IsNoTake}
use Rattle.commit_sidecar.specs.Says.{head_of}
use Rattle.commit_sidecar.specs.laws.Records.{length-note}

-- of bytes of which some first ones are none there are none
none_first : (number : ℕ) (bytes : List ℕ) → 1 ≤ number → take number bytes ≡ [] → bytes ≡ []
none_first number [] some none = refl
none_first number (byte ∷ bytes) some none =
    absurd (omega (arith, some, length-take number (byte ∷ bytes), ap (length {A = ℕ}) none))

-- first bytes that begin no note, though they are as many, are of bytes that begin none
note_first : (mark : Mark) (number : ℕ) (bytes behind rest : List ℕ) → 18 ≤ number → take number rest ≡ 1 ∷ bytes
    → bytes ++ drop number rest ≡ note_of mark ++ behind → bytes ≡ note_of mark ++ take (number - 18) behind
note_first mark number bytes behind rest more first e =
    let whole : rest ≡ (1 ∷ note_of mark) ++ behind =
    sym (take-append-drop number rest) ∙ ap (λ (xs : List ℕ). xs ++ drop number rest) first ∙ ap (λ (xs : List ℕ). 1 ∷ xs) e in
    let long : number ≡ length (1 ∷ note_of mark) + (number - 18) = omega (arith, more, length-note mark) in
    let taken : take number rest ≡ (1 ∷ note_of mark) ++ take (number - 18) behind =
    ap (λ (n : ℕ). take n rest) long
    ∙ ap (λ (xs : List ℕ). take (length (1 ∷ note_of mark) + (number - 18)) xs) whole
    ∙ take-append-add (1 ∷ note_of mark) behind (number - 18) in
    ap (λ (xs : List ℕ). drop 1 xs) (sym first ∙ taken)

-- as many bytes as a record has decide a look
record_first : (rest : List ℕ) (number : ℕ) (last : Option Mark) (look : Look) → 18 ≤ number → Sees last (take number rest) look → Sees last rest look
record_first rest number last Shut more sees =
    (sees.0, sees.1 ++ drop number rest, sees.2, sym (take-append-drop number rest) ∙ ap (λ (xs : List ℕ). xs ++ drop number rest) sees.3)
record_first rest number last (Open mark) more sees = (
  sees.0 ++ drop number rest,
  sym (take-append-drop number rest)
      ∙ ap (λ (xs : List ℕ). xs ++ drop number rest) sees.1
      ∙ ap (λ (xs : List ℕ). 1 ∷ xs) (append_assoc (note_of mark) sees.0 (drop number rest)),
  sees.2,
)
record_first rest number last Broken more (inl none) = inl (none_first number rest (omega (arith, more)) none)
record_first rest number last Broken more (inr broken) = inr (
  broken.0 ++ drop number rest,
  sym (take-append-drop number rest) ∙ ap (λ (xs : List ℕ). xs ++ drop number rest) broken.1,
  λ mark behind e follows. broken.2 mark (take (number - 18) behind) (note_first mark number broken.0 behind rest more broken.1 e) follows,
)

-- enough bytes decide a look
pub window_looks : (rest : List ℕ) (number : ℕ) (last : Option Mark) (look : Look) → IsEnough RECORD_LEN number rest
    → Sees last (take number rest) look → Sees last rest look
window_looks rest number last look (inl more) sees = record_first rest number last look more sees
window_looks rest number last look (inr all) sees = subst (λ (xs : List ℕ). Sees last xs look) (take_all number rest all) sees

-- a head that is read in the first bytes is that of all bytes
pub window_head : (commits : List ℕ) (number : ℕ) (cfg : Fields) → BeginsHead (take number commits) cfg → BeginsHead commits cfg
window_head commits number cfg head = record {
  is_config = head.is_config;
  rest = head.rest ++ drop number commits;
  is = sym (take-append-drop number commits)
      ∙ ap (λ (xs : List ℕ). xs ++ drop number commits) head.is
      ∙ append_assoc (head_of cfg) head.rest (drop number commits);
}

-- as many bytes as a head has decide where it is wrong
head_first : (commits : List ℕ) (number at : ℕ) → 72 ≤ number → IsNoTake (take number commits) at → IsNoTake commits at
head_first commits number at more (inl differs) = let inside = differs.inside in inl (record {
  there = omega (arith, differs.there, length-take number commits);
  inside = inside;
  same = sym (take-take at number commits (omega (arith, more, inside))) ∙ differs.same;
  other = λ e. differs.other (get_or-take number commits at 0 (omega (arith, more, inside)) ∙ e);
})
head_first commits number at more (inr (inl cut)) =
    subst (λ (xs : List ℕ). IsNoTake xs at) (take_all number commits (omega (arith, more, cut.short, length-take number commits))) (inr (inl cut))
head_first commits number at more (inr (inr breaks)) =
    let behind : take 64 (drop 8 (take number commits)) ≡ take 64 (drop 8 commits) =
    ap (λ (n : ℕ). take 64 (drop 8 (take n commits))) (omega (arith, more))
    ∙ ap (λ (xs : List ℕ). take 64 xs) (drop-take 8 (number - 8) commits)
    ∙ take-take 64 (number - 8) (drop 8 commits) (omega (arith, more)) in
    inr (inr (record {
      same = sym (take-take 8 number commits (omega (arith, more))) ∙ breaks.same;
      whole = omega (arith, breaks.whole, length-take number commits);
      field = breaks.field;
      broken = ap first_fault (sym behind) ∙ breaks.broken;
      place = breaks.place;
    }))

-- enough bytes decide where a head is wrong
pub window_no_take : (commits : List ℕ) (number at : ℕ) → IsEnough HEAD_LEN number commits → IsNoTake (take number commits) at → IsNoTake commits at
window_no_take commits number at (inl more) wrong = head_first commits number at more wrong
window_no_take commits number at (inr all) wrong = subst (λ (xs : List ℕ). IsNoTake xs at) (take_all number commits all) wrong

-- What a piece that was written adds to a sink.
use Rattle.std.proofs.Common.{◌≡◌, ◌≢◌, ◌<◌, ℕ, List, [], ◌++◌, length, Option, Some, None, Ok, Err, refl, sym, ap, ◌∙◌, subst, append_assoc, arith}
use Rattle.std.proofs.lemmas.List.{append-nil, length-append}
use Rattle.raw_feed.specs.Written.{Writes}
use Rattle.run_parts.specs.Gains.{Gains, Lacks}

-- nothing was written
pub gains_none : (old new : Option (List ℕ)) → new ≡ old → Gains old new []
gains_none None new same = same
gains_none (Some old) new same = same ∙ ap Some (sym (append-nil old))

-- a piece was written
pub gains_all : (E : Type 0) (old new : Option (List ℕ)) (piece : List ℕ) → Writes {E = E} old new (Ok tt) piece → Gains old new piece
gains_all E None new piece w = w
gains_all E (Some old) new piece w = w

-- some bytes are no empty list
some_bytes : (back : List ℕ) → 0 < length back → back ≢ []
some_bytes back some e = let none = ap (length {A = ℕ}) e in omega arith

-- a front of a piece was written, and the sink lacks the rest
pub gains_front : {E : Type 0} (old new : Option (List ℕ)) (e : E) (piece : List ℕ) → Writes old new (Err e) piece
    → (front back : List ℕ) × (piece ≡ front ++ back) × Gains old new front × Lacks old back
gains_front None new e piece w = ([], piece, refl, w, tt)
gains_front (Some old) new e piece (front, back, split, moved, some) = (front, back, split, moved, some_bytes back some)

-- more was written behind
pub gains_more : (old mid new : Option (List ℕ)) (first second : List ℕ) → Gains old mid first → Gains mid new second → Gains old new (first ++ second)
gains_more None mid new first second g h = subst (λ (m : Option (List ℕ)). Gains m new second) g h
gains_more (Some old) mid new first second g h =
    let v : new ≡ Some ((old ++ first) ++ second) = subst (λ (m : Option (List ℕ)). Gains m new second) g h in
    v ∙ ap Some (append_assoc old first second)

-- what was gained is what was to be written
pub writes_all : (E : Type 0) (old new : Option (List ℕ)) (piece : List ℕ) → Gains old new piece → Writes {E = E} old new (Ok tt) piece
writes_all E None new piece g = g
writes_all E (Some old) new piece g = g

-- the sink failed inside a piece behind what was gained, with more to be written behind the piece
pub writes_front : {E F : Type 0} (old mid new : Option (List ℕ)) (e : E) (f : F) (done piece rest whole : List ℕ)
    → Gains old mid done → Writes mid new (Err e) piece → whole ≡ (done ++ piece) ++ rest → Writes old new (Err f) whole
writes_front None mid new e f done piece rest whole g w is = subst (λ (m : Option (List ℕ)). Writes m new (Err e) piece) g w
writes_front (Some old) mid new e f done piece rest whole g w is =
    let v : Writes (Some (old ++ done)) new (Err e) piece = subst (λ (m : Option (List ℕ)). Writes m new (Err e) piece) g w in
    let split : whole ≡ (done ++ v.0) ++ (v.1 ++ rest) =
    is ∙ (ap (λ (xs : List ℕ). (done ++ xs) ++ rest) v.2 ∙ regroup done v.0 v.1 rest) in (
      done ++ v.0,
      v.1 ++ rest,
      split,
      v.3 ∙ ap Some (append_assoc old done v.0),
      (let some = v.4 in omega (arith, length-append v.1 rest)),
    )
  where
    regroup : (a b c d : List ℕ) → (a ++ (b ++ c)) ++ d ≡ (a ++ b) ++ (c ++ d)
    regroup a b c d = simp append_assoc

-- the same of one piece, under another name of the fault
pub writes_fault : {E F : Type 0} (old new : Option (List ℕ)) (e : E) (f : F) (piece : List ℕ) → Writes old new (Err e) piece → Writes old new (Err f) piece
writes_fault None new e f piece w = w
writes_fault (Some old) new e f piece w = w

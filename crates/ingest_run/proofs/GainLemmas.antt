-- What pieces that were written one by one add to a sink.
use Rattle.std.proofs.Common.{◌≡◌, ◌≢◌, ◌<◌, ⊎_elim, inl, inr, ℕ, List, [], ◌∷◌, ◌++◌, length, Option, Some, None, Result, Ok, Err, refl, sym, ap, ◌∙◌, subst, append_assoc, arith}
use Rattle.std.proofs.lemmas.List.{append-nil}
use Rattle.rec_bytes.specs.Faults.{Rose, HasCause}
use Rattle.raw_feed.specs.Written.{Writes}
use Rattle.run_parts.specs.declared.end.PutFault.{PutFault}
use Rattle.run_parts.specs.declared.end.PutFault.TheVariants.{Memory as NoMemory, Sink}
use Rattle.run_parts.specs.Causes.{Puts}
use Rattle.run_parts.specs.Gains.{Gains, Lacks}
use Rattle.ingest_run.specs.Messages.{Taken, Reports}

-- nothing was written
pub Gains-nil : (w : Option (List ℕ)) → Gains w w []
Gains-nil None = refl
Gains-nil (Some old) = ap Some (sym (append-nil old))

-- the first piece was written
pub Gains-first : (E : Type 0) (old new : Option (List ℕ)) (piece : List ℕ) → Writes {E = E} old new (Ok tt) piece → Gains old new piece
Gains-first E None new piece w = w
Gains-first E (Some old) new piece w = w

-- some bytes are no empty list
some_bytes : (back : List ℕ) → 0 < length back → back ≢ []
some_bytes back some e = let none = ap (length {A = ℕ}) e in omega arith

-- what a sink lacks it lacks with what follows
pub Lacks-more : (old : Option (List ℕ)) (missing more : List ℕ) → Lacks old missing → Lacks old (missing ++ more)
Lacks-more None missing more lacks = tt
Lacks-more (Some old) [] more lacks = absurd (lacks refl)
Lacks-more (Some old) (byte ∷ missing) more lacks = λ e. absurd (cc)

-- and behind what it gained
pub Lacks-behind : (old mid : Option (List ℕ)) (written missing : List ℕ) → Gains old mid written → Lacks mid missing → Lacks old missing
Lacks-behind None mid written missing g lacks = tt
Lacks-behind (Some old) mid written missing g lacks = subst (λ (m : Option (List ℕ)). Lacks m missing) g lacks

-- of the first piece a front was written
pub Gains-first_front : {E : Type 0} (old new : Option (List ℕ)) (e : E) (piece : List ℕ) → Writes old new (Err e) piece
    → (front back : List ℕ) × (piece ≡ front ++ back) × Gains old new front × Lacks old back
Gains-first_front None new e piece w = ([], piece, refl, w, tt)
Gains-first_front (Some old) new e piece (front, back, split, moved, some) = (front, back, split, moved, some_bytes back some)

-- more was written behind
pub Gains-both : (old mid new : Option (List ℕ)) (first second : List ℕ) → Gains old mid first → Gains mid new second → Gains old new (first ++ second)
Gains-both None mid new first second g h = subst (λ (m : Option (List ℕ)). Gains m new second) g h
Gains-both (Some old) mid new first second g h =
    let v : new ≡ Some ((old ++ first) ++ second) = subst (λ (m : Option (List ℕ)). Gains m new second) g h in
    v ∙ ap Some (append_assoc old first second)

-- the whole of a further piece was written
pub Gains-more : (E : Type 0) (old mid new : Option (List ℕ)) (written piece : List ℕ) → Gains old mid written → Writes {E = E} mid new (Ok tt) piece → Gains old new (written ++ piece)
Gains-more E old mid new written piece g w = Gains-both old mid new written piece g (Gains-first E mid new piece w)

-- a front of a further piece was written
pub Gains-front : {E : Type 0} (old mid new : Option (List ℕ)) (e : E) (written piece : List ℕ) → Gains old mid written → Writes mid new (Err e) piece
    → (front back : List ℕ) × (piece ≡ front ++ back) × Gains old new (written ++ front) × Lacks old back
Gains-front old mid new e written piece g w =
    let v = Gains-first_front mid new e piece w in
    (v.0, v.1, v.2, Gains-both old mid new written v.0 g v.3, Lacks-behind old mid written v.1 g v.4)

-- a front of a further piece was written, or nothing where memory was wanted before it
pub Gains-put : (old mid new : Option (List ℕ)) (fault : PutFault) (written piece : List ℕ) → Gains old mid written → Puts mid new (Err fault) piece
    → (front back : List ℕ) × (piece ≡ front ++ back) × Gains old new (written ++ front) × (fault ≡ Sink → Lacks old back)
Gains-put old mid new NoMemory written piece g same =
    ([], piece, refl, subst (λ (w : Option (List ℕ)). Gains old w (written ++ [])) (sym same) (subst (λ (xs : List ℕ). Gains old mid xs) (sym (append-nil written)) g), λ e. absurd (cc))
Gains-put old mid new Sink written piece g w =
    let v = Gains-front old mid new Sink written piece g w in
    (v.0, v.1, v.2, v.3, λ e. v.4)

-- nothing was said
pub reports_none : (w : Taken) → Reports [] w w
reports_none w = record {
  written = [];
  missing = [];
  front = refl;
  gains = Gains-nil w.written;
  whole = λ some. absurd (some refl);
  kept = inl refl;
}

-- a piece was said, as far as the sink took it
reports-piece : {E : Type 0} (before now : Taken) (r : Result (Unit {0}) E) (piece : List ℕ) → Writes before.written now.written r piece
    → HasCause before.faults now.faults r → Reports piece before now
reports-piece {E = E} before now (Ok tt) piece w c = record {
  written = piece;
  missing = [];
  front = sym (append-nil piece);
  gains = Gains-first E before.written now.written piece w;
  whole = λ some. absurd (some refl);
  kept = inl c.kept;
}
reports-piece before now (Err e) piece w c =
    let v = Gains-first_front before.written now.written e piece w in
    record { written = v.0; missing = v.1; front = v.2; gains = v.3; whole = λ some. c.failed; kept = inr v.4 }

-- a piece was said, and what follows it as far as the sink took it
pub reports_after : (E : Type 0) (before mid now : Taken) (first rest : List ℕ)
    → Writes {E = E} before.written mid.written (Ok tt) first → mid.faults ≡ before.faults → Reports rest mid now → Reports (first ++ rest) before now
reports_after E before mid now first rest w kept s =
    let gained = Gains-first E before.written mid.written first w in
    record {
      written = first ++ s.written;
      missing = s.missing;
      front = ap (λ (xs : List ℕ). first ++ xs) s.front ∙ sym (append_assoc first s.written s.missing);
      gains = Gains-both before.written mid.written now.written first s.written gained s.gains;
      whole = λ some. subst (λ (n : ℕ). Rose n now.faults) kept (s.whole some);
      kept = ⊎_elim (λ e. inl (e ∙ kept)) (λ l. inr (Lacks-behind before.written mid.written first s.missing gained l)) s.kept;
    }

-- of two pieces the first was said, and the second as far as the sink took it
pub reports_both : (E : Type 0) (before mid now : Taken) (r : Result (Unit {0}) E) (first second : List ℕ)
    → Writes {E = E} before.written mid.written (Ok tt) first → mid.faults ≡ before.faults
    → Writes mid.written now.written r second → HasCause mid.faults now.faults r → Reports (first ++ second) before now
reports_both E before mid now r first second w kept v c = reports_after E before mid now first second w kept (reports-piece mid now r second v c)

-- the sink failed in the first of two pieces
pub reports_first : {E : Type 0} (before now : Taken) (e : E) (first second : List ℕ) → Writes before.written now.written (Err e) first
    → Rose before.faults now.faults → Reports (first ++ second) before now
reports_first before now e first second w rose =
    let v = Gains-first_front before.written now.written e first w in
    record {
      written = v.0;
      missing = v.1 ++ second;
      front = ap (λ (xs : List ℕ). xs ++ second) v.2 ∙ append_assoc v.0 v.1 second;
      gains = v.3;
      whole = λ some. rose;
      kept = inr (Lacks-more before.written v.1 second v.4);
    }

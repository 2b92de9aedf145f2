-- How reads and writes of pieces add up.
use Rattle.std.proofs.Common.{◌≡◌, ℕ, ◌+◌, ◌<◌, ◌≤◌, List, [], ◌++◌, length, take, drop, Option, Some, None, Result, Ok, Err, refl}
use Rattle.std.proofs.Common.{sym, ap, ◌∙◌, append_assoc, arith}
use Rattle.std.proofs.lemmas.List.{take_at, length-drop, drop-drop, drop_all, take-append-drop, append-nil, take_all}
use Rattle.std.proofs.Math.Seq.{take-add}
use Rattle.raw_feed.specs.Told.{Gives}
use Rattle.raw_feed.specs.Written.{Takes, Writes}

-- a read of n bytes from a place in a list, which went to the front of the buffer
pub gives_from : (bytes : List ℕ) (at n : ℕ) (front rest out : List ℕ) → length front ≡ n → at + n ≤ length bytes
    → front ≡ take n (drop at bytes) → out ≡ front ++ rest → (n ≡ 0 → 0 < length out → length bytes ≤ at)
    → Gives n (record { given = take at bytes; left = drop at bytes }) (Some (record { given = take (at + n) bytes; left = drop (at + n) bytes })) out
gives_from bytes at n front rest out len fits taken out_is ended = record {
  most = omega (arith, length-drop at bytes);
  moved = rw (take-add, drop-drop) refl;
  bytes = rw out_is (take_at front rest n len) ∙ taken;
  ended = λ none room. drop_all at bytes (ended none room);
}

-- these bytes were written
abbrev pub Wrote : Option (List ℕ) → Option (List ℕ) → List ℕ → Type 0
Wrote None now piece = now ≡ None
Wrote (Some old) now piece = now ≡ Some (old ++ piece)

pub Wrote-nil : (w : Option (List ℕ)) → Wrote w w []
Wrote-nil None = refl
Wrote-nil (Some old) = ap Some (sym (append-nil old))

-- one more write, from the place at on
pub Wrote-more : {E : Type 0} (old mid now : Option (List ℕ)) (bytes : List ℕ) (at n : ℕ) (r : Result ℕ E) → r ≡ Ok n
    → Wrote old mid (take at bytes) → Takes mid now r (drop at bytes) → Wrote old now (take (at + n) bytes)
Wrote-more None mid now bytes at n r is w t = rw (is, w) at t
Wrote-more (Some old) mid now bytes at n r is w t =
    let longer : now ≡ Some ((old ++ take at bytes) ++ take n (drop at bytes)) = rw (is, w) at t in
    longer ∙ ap Some (append_assoc old (take at bytes) (take n (drop at bytes)) ∙ ap (λ (xs : List ℕ). old ++ xs) (sym (take-add at n bytes)))

-- at the end of the piece all of it is written
pub Wrote-all : (old now : Option (List ℕ)) (bytes : List ℕ) (at : ℕ) → length bytes ≤ at → Wrote old now (take at bytes) → Wrote old now bytes
Wrote-all old now bytes at h w = rw (take_all at bytes h) at w

-- a front of the piece, where a write failed before its end
pub Writes-front : {E F : Type 0} (old mid now : Option (List ℕ)) (bytes : List ℕ) (at : ℕ) (r : Result ℕ E) (e : E) (f : F)
    → at < length bytes → r ≡ Err e → Wrote old mid (take at bytes) → Takes mid now r (drop at bytes) → Writes old now (Err f) bytes
Writes-front None mid now bytes at r e f more is w t = rw (is, w) at t
Writes-front (Some old) mid now bytes at r e f more is w t =
    let kept : now ≡ Some (old ++ take at bytes) = rw (is, w) at t in
    (take at bytes, drop at bytes, sym (take-append-drop at bytes), kept, omega (arith, length-drop at bytes))

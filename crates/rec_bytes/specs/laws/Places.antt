-- Laws of writes at a place: proved here, for proofs to cite.
use Rattle.std.proofs.Common.{◌≡◌, ℕ, ◌+◌, ◌-◌, ◌≤◌, List, [], ◌++◌, length, take, drop, refl, sym, ap, ap₂, ◌∙◌, arith, append_assoc}
use Rattle.std.proofs.lemmas.List.{drop-drop, drop_all, drop_at, take_at, length-drop, append-nil, length-append, length-take-le}
use Rattle.rec_bytes.specs.Places.{with_bytes}
use borrow.Rule.Slice.PartMut.{put_mid}

-- a write leaves the length
pub length-with_bytes : (old : List ℕ) (at : ℕ) (bytes : List ℕ) → at + length bytes ≤ length old → length (with_bytes old at bytes) ≡ length old
length-with_bytes old at bytes h =
    let rest : List ℕ = drop (at + length bytes) old in
    omega (
      arith,
      length-append (take at old ++ bytes) rest,
      length-append (take at old) bytes,
      length-take-le at old (omega arith),
      length-drop (at + length bytes) old,
    )

-- two writes one behind the other are one
pub with_bytes-join : (old : List ℕ) (at : ℕ) (a b : List ℕ) → at + length a ≤ length old
    → with_bytes (with_bytes old at a) (at + length a) b ≡ with_bytes old at (a ++ b)
with_bytes-join old at a b h =
    let front : List ℕ = take at old ++ a in
    let rest : List ℕ = drop (at + length a) old in
    let long : length front ≡ at + length a = omega (arith, length-append (take at old) a, length-take-le at old (omega arith)) in
    let before : take (at + length a) (front ++ rest) ≡ front = take_at front rest (at + length a) long in
    let behind : drop (at + length a + length b) (front ++ rest) ≡ drop (at + length (a ++ b)) old =
    ap (λ (n : ℕ). drop n (front ++ rest)) (omega arith)
    ∙ sym (drop-drop (length b) (at + length a) (front ++ rest))
    ∙ ap (λ (xs : List ℕ). drop (length b) xs) (drop_at front rest (at + length a) long)
    ∙ drop-drop (length b) (at + length a) old
    ∙ ap (λ (n : ℕ). drop n old) (omega (arith, length-append a b)) in
    rw (before, behind, append_assoc (take at old) a b) refl

-- the same of buffers that are known: a write behind another is one write of both
pub with_bytes-more : (old : List ℕ) (at next : ℕ) (a b mid new : List ℕ) → mid ≡ with_bytes old at a → next ≡ at + length a → next ≤ length old
    → new ≡ with_bytes mid next b → new ≡ with_bytes old at (a ++ b)
with_bytes-more old at next a b mid new first behind room second =
    second
    ∙ ap₂ (λ (xs : List ℕ) (n : ℕ). with_bytes xs n b) first behind
    ∙ with_bytes-join old at a b (omega (arith, behind, room))

-- and three writes one behind the other are one write of all
pub with_bytes-three : (old : List ℕ) (at next last : ℕ) (a b c x y z : List ℕ) → next ≡ at + length a → last ≡ at + length (a ++ b)
    → next ≤ length old → last ≤ length old → x ≡ with_bytes old at a → y ≡ with_bytes x next b → z ≡ with_bytes y last c
    → z ≡ with_bytes old at ((a ++ b) ++ c)
with_bytes-three old at next last a b c x y z to_b to_c room_b room_c first second third =
    with_bytes-more old at last (a ++ b) c y z (with_bytes-more old at next a b x y first to_b room_b second) to_c room_c third

-- a write of a whole list
pub with_bytes-whole : (old bytes : List ℕ) → length bytes ≡ length old → with_bytes old 0 bytes ≡ bytes
with_bytes-whole old bytes h = rw (drop_all (0 + length bytes) old (omega arith)) (append-nil bytes)

-- a write at the front of the part from a place on is a write at that place
pub with_bytes-part : (old : List ℕ) (at : ℕ) (part bytes : List ℕ) → at ≤ length old → part ≡ with_bytes (drop at old) 0 bytes
    → put_mid at (length old - at) old part ≡ with_bytes old at bytes
with_bytes-part old at part bytes h e =
    let past : drop (length old - at) (drop at old) ≡ [] = drop_all (length old - at) (drop at old) (omega (arith, length-drop at old)) in
    rw (e, past, append-nil, drop-drop, append_assoc (take at old) bytes (drop (at + length bytes) old))
    (ap (λ (n : ℕ). take at old ++ (bytes ++ drop n old)) (omega arith))

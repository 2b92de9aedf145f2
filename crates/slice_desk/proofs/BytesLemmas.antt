-- Bytes that are written one behind the other.
use Rattle.std.proofs.Common.{◌≡◌, ℕ, ◌+◌, ◌-◌, ◌≤◌, List, [], ◌++◌, length, take, drop, refl, sym, ap, ap₂, ◌∙◌, arith, append_assoc}
use Rattle.std.proofs.lemmas.List.{append-nil, drop_all, drop_at, take_at, drop-take, length-drop, length-append, length-take-le, take-append-le, take-take}
use Rattle.std.proofs.Math.Seq.{take-append-add, take-add}
use Rattle.rec_bytes.specs.Places.{with_bytes}
use borrow.Rule.Slice.PartMut.{put_mid}

-- what stands behind a place, where all of it was written anew
pub drop_mid : (at : ℕ) (old part : List ℕ) → at ≤ length old → length part ≡ length old - at → drop at (put_mid at (length old - at) old part) ≡ part
drop_mid at old part room long =
    let rest : List ℕ = drop (length old - at) (drop at old) in
    let past : rest ≡ [] = drop_all (length old - at) (drop at old) (omega (arith, length-drop at old)) in
    drop_at (take at old) (part ++ rest) at (length-take-le at old room) ∙ (ap (λ (xs : List ℕ). part ++ xs) past ∙ append-nil part)

-- where a part ends that stands behind others
pub end_of : (old new : List ℕ) (start end : ℕ) (part : List ℕ) → start ≤ length old → end ≤ length new → take end new ≡ take start old ++ part → end ≡ start + length part
end_of old new start end part room within are =
    omega (arith, ap (length {A = ℕ}) are, length-append (take start old) part, length-take-le start old room, length-take-le end new within)

-- a part that is written before others which stand already
pub put_before : (old mid : List ℕ) (at start end : ℕ) (bytes rest : List ℕ) → start ≡ at + length bytes → start ≤ length old → end ≤ length mid
    → take end mid ≡ take start old ++ rest → take end (with_bytes mid at bytes) ≡ take at old ++ (bytes ++ rest)
put_before old mid at start end bytes rest begins room within are =
    let long = end_of old mid start end rest room within are in
    let at_start : length (take start old) ≡ start = length-take-le start old room in
    let first : take at mid ≡ take at old =
    sym (take-take at end mid (omega (arith, long, begins)))
    ∙ (ap (take at) are ∙ (take-append-le at (take start old) rest (omega (arith, at_start, begins)) ∙ take-take at start old (omega (arith, begins)))) in
    let front : List ℕ = take at mid ++ bytes in
    let front_long : length front ≡ start = omega (arith, length-append (take at mid) bytes, length-take-le at mid (omega (arith, long, begins, within)), begins) in
    let there : drop (at + length bytes) mid ≡ drop start mid = ap (λ (n : ℕ). drop n mid) (sym begins) in
    let behind : take (length rest) (drop start mid) ≡ rest =
    sym (drop-take start (length rest) mid) ∙ (ap (λ (n : ℕ). drop start (take n mid)) (sym long) ∙ (ap (drop start) are ∙ drop_at (take start old) rest start at_start)) in
    ap (λ (xs : List ℕ). take end (front ++ xs)) there
    ∙ (ap (λ (n : ℕ). take n (front ++ drop start mid)) (omega (arith, long, front_long))
    ∙ (take-append-add front (drop start mid) (length rest)
    ∙ (ap₂ (λ (xs ys : List ℕ). (xs ++ bytes) ++ ys) first behind ∙ append_assoc (take at old) bytes rest)))

-- a part that is written behind others
pub put_behind : (old mid new front part : List ℕ) (at start len : ℕ) → take at mid ≡ take start old ++ front → take at new ≡ take at mid
    → part ≡ take len (drop at new) → take (at + len) new ≡ take start old ++ (front ++ part)
put_behind old mid new front part at start len are before is =
    take-add at len new ∙ (ap₂ (λ (xs ys : List ℕ). xs ++ ys) (before ∙ are) (sym is) ∙ append_assoc (take start old) front part)

-- what stands before bytes that are put, and these
pub put_front : (old bytes : List ℕ) (at : ℕ) → at ≤ length old → take at (with_bytes old at bytes) ≡ take at old
put_front old bytes at room =
    let rest : List ℕ = drop (at + length bytes) old in
    ap (take at) (append_assoc (take at old) bytes rest) ∙ take_at (take at old) (bytes ++ rest) at (length-take-le at old room)

pub put_there : (old bytes : List ℕ) (at : ℕ) → at ≤ length old → take (length bytes) (drop at (with_bytes old at bytes)) ≡ bytes
put_there old bytes at room =
    let rest : List ℕ = drop (at + length bytes) old in
    ap (λ (xs : List ℕ). take (length bytes) (drop at xs)) (append_assoc (take at old) bytes rest)
    ∙ (ap (take (length bytes)) (drop_at (take at old) (bytes ++ rest) at (length-take-le at old room)) ∙ take_at bytes rest (length bytes) refl)

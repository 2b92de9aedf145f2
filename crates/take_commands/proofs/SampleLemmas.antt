-- Samples as bytes, piece by piece.
use Rattle.std.proofs.Common.{◌≡◌, ◌<◌, ◌≤◌, ℕ, ◌+◌, ◌*◌, List, [], ◌∷◌, ◌++◌, length, take, drop, slice_index, Option, Result, Ok, Err, refl, sym, ap, subst, ◌∙◌, arith, drop-cons}
use Rattle.std.proofs.lemmas.Grind.{flat_map-append}
use Rattle.std.proofs.lemmas.List.{append-nil, length-append, length-take-le, take-append-drop, take_all}
use Rattle.std.proofs.Math.Seq.{take-add}
use Rattle.byteorder.specs.Endian.{big_bytes}
use Rattle.byteorder.specs.Numbers.{length-bytes_high_first}
use Rattle.raw_feed.specs.Pictures.{spelled}
use Rattle.raw_feed.specs.Written.{Writes}
use Rattle.rec_bytes.specs.Places.{with_bytes}
use Rattle.rec_bytes.specs.laws.Places.{with_bytes-more, with_bytes-whole}
use Rattle.run_parts.specs.Gains.{Gains}
use Rattle.take_commands.specs.declared.fault.TakeFault.{TakeFault}
use Rattle.take_commands.specs.inner.Steps.{HasSinkCause}
use Rattle.take_commands.proofs.GainLemmas.{gains_all, gains_more, writes_all, writes_front}

-- samples and those behind them
spelled_both : (xs ys : List ℕ) → spelled (xs ++ ys) ≡ spelled xs ++ spelled ys
spelled_both xs ys = flat_map-append (big_bytes 2) xs ys

-- samples are spelled in twice as many bytes
length-spelled : (xs : List ℕ) → length (spelled xs) ≡ 2 * length xs
length-spelled [] = refl
length-spelled (x ∷ xs) =
    let l = length-append (big_bytes 2 x) (spelled xs) in let m = length-bytes_high_first 2 x in let n = length-spelled xs in omega arith

-- the first samples and one more
spelled_one : (xs : List ℕ) (k : ℕ) → k < length xs → spelled (take (k + 1) xs) ≡ spelled (take k xs) ++ big_bytes 2 (slice_index xs k)
spelled_one xs k less =
    let next : take 1 (drop k xs) ≡ slice_index xs k ∷ [] = rw (drop-cons xs k 0 less) refl in
    ap spelled (take-add k 1 xs ∙ ap (λ (ys : List ℕ). take k xs ++ ys) next)
    ∙ (spelled_both (take k xs) (slice_index xs k ∷ []) ∙ ap (λ (ys : List ℕ). spelled (take k xs) ++ ys) (append-nil (big_bytes 2 (slice_index xs k))))

-- the first samples and a piece more
spelled_more : (xs : List ℕ) (at count : ℕ) → spelled (take (at + count) xs) ≡ spelled (take at xs) ++ spelled (take count (drop at xs))
spelled_more xs at count = ap spelled (take-add at count xs) ∙ spelled_both (take at xs) (take count (drop at xs))

-- the first samples, a piece and the samples behind it are all
spelled_whole : (xs : List ℕ) (at count : ℕ)
    → spelled xs ≡ (spelled (take at xs) ++ spelled (take count (drop at xs))) ++ spelled (drop (at + count) xs)
spelled_whole xs at count =
    ap spelled (sym (take-append-drop (at + count) xs))
    ∙ (spelled_both (take (at + count) xs) (drop (at + count) xs)
    ∙ ap (λ (ys : List ℕ). ys ++ spelled (drop (at + count) xs)) (spelled_more xs at count))

-- a piece more was written
pub written_more : (E : Type 0) (old mid new : Option (List ℕ)) (xs : List ℕ) (at count n : ℕ) → n ≡ count → Gains old mid (spelled (take at xs))
    → Writes {E = E} mid new (Ok tt) (spelled (take n (drop at xs))) → Gains old new (spelled (take (at + count) xs))
written_more E old mid new xs at count n same g w =
    let piece : List ℕ = spelled (take n (drop at xs)) in
    let all : Gains old new (spelled (take at xs) ++ piece) = gains_more old mid new (spelled (take at xs)) piece g (gains_all E mid new piece w) in
    subst (λ (ys : List ℕ). Gains old new ys)
    (sym (spelled_more xs at n) ∙ ap (λ (m : ℕ). spelled (take (at + m) xs)) same) all

-- the sink failed inside a piece
pub written_front : {E F : Type 0} (old mid new : Option (List ℕ)) (e : E) (f : F) (xs : List ℕ) (at n : ℕ) → Gains old mid (spelled (take at xs))
    → Writes mid new (Err e) (spelled (take n (drop at xs))) → Writes old new (Err f) (spelled xs)
written_front old mid new e f xs at n g w =
    writes_front old mid new e f (spelled (take at xs)) (spelled (take n (drop at xs))) (spelled (drop (at + n) xs)) (spelled xs) g w (spelled_whole xs at n)

-- all was written
pub written_all : (E : Type 0) (old new : Option (List ℕ)) (xs : List ℕ) (at : ℕ) → length xs ≤ at → Gains old new (spelled (take at xs))
    → Writes {E = E} old new (Ok tt) (spelled xs)
written_all E old new xs at past g =
    writes_all E old new (spelled xs) (subst (λ (ys : List ℕ). Gains old new (spelled ys)) (take_all at xs past) g)

-- the cause of a later part is that of the whole, where the count stayed before it
pub cause_before : (a b now : ℕ) (r : Result (Unit {0}) TakeFault) → a ≡ b → HasSinkCause a now r → HasSinkCause b now r
cause_before a b now r same cause = subst (λ (n : ℕ). HasSinkCause n now r) same cause

-- one sample more was put behind the first ones
pub put_more : (old mid new xs : List ℕ) (k : ℕ) → k < length xs → length old ≡ 2 * length xs → mid ≡ with_bytes old 0 (spelled (take k xs))
    → new ≡ with_bytes mid (2 * k) (big_bytes 2 (slice_index xs k)) → new ≡ with_bytes old 0 (spelled (take (k + 1) xs))
put_more old mid new xs k less long front next =
    let first = length-spelled (take k xs) in
    let taken : length (take k xs) ≡ k = length-take-le k xs (omega arith) in
    with_bytes-more old 0 (2 * k) (spelled (take k xs)) (big_bytes 2 (slice_index xs k)) mid new front (omega arith) (omega arith) next
    ∙ ap (with_bytes old 0) (sym (spelled_one xs k less))

-- all samples were put
pub put_whole : (old new xs : List ℕ) (k : ℕ) → length xs ≤ k → length old ≡ 2 * length xs → new ≡ with_bytes old 0 (spelled (take k xs)) → new ≡ spelled xs
put_whole old new xs k past long front =
    let all = length-spelled xs in
    front ∙ (ap (λ (ys : List ℕ). with_bytes old 0 (spelled ys)) (take_all k xs past) ∙ with_bytes-whole old (spelled xs) (omega arith))

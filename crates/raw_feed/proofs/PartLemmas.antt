-- How the parts of a buffer are filled.
use Rattle.std.proofs.Common.{◌≡◌, ℕ, ◌+◌, ◌<◌, ◌≤◌, List, [], ◌++◌, length, take, drop, Option, Some, None, Result, Ok, refl, sym, ap}
use Rattle.std.proofs.Common.{◌∙◌, append_assoc, subst, arith}
use Rattle.std.proofs.lemmas.List.{length-drop, length-take, length-append, drop-drop, append-nil, take_at, drop_at, take-append-le, take-append-drop, take_all}
use Rattle.std.proofs.Math.Seq.{take-add}
use Rattle.raw_feed.specs.Told.{Told, Reads, Gives, after}
use Rattle.raw_feed.specs.Breaks.{Gave}
use Rattle.raw_feed.specs.inner.Parts.{Fills, FillsFrom}

-- the front of the buffer holds the first bytes that were left
abbrev pub Filled : ℕ → Option Told → Option Told → List ℕ → Type 0
Filled n None new out = new ≡ None
Filled n (Some old) new out = (n ≤ length old.left) × (new ≡ Some (after n old)) × (take n out ≡ take n old.left)

pub after-zero : (old : Told) → after 0 old ≡ old
after-zero old = λ i. record { given = append-nil old.given i; left = old.left }

pub after-after : (m n : ℕ) (old : Told) → after n (after m old) ≡ after (m + n) old
after-after m n old =
    let given : (old.given ++ take m old.left) ++ take n (drop m old.left) ≡ old.given ++ take (m + n) old.left =
    append_assoc old.given (take m old.left) (take n (drop m old.left)) ∙ ap (λ (xs : List ℕ). old.given ++ xs) (sym (take-add m n old.left)) in
    let left : drop n (drop m old.left) ≡ drop (m + n) old.left = drop-drop n m old.left in
    λ i. record { given = given i; left = left i }

-- nothing was given
pub Gave-none : (before : Told) → Gave [] before (Some before)
Gave-none before = (refl, ap Some (sym (after-zero before)))

-- the first bytes that were left were given
pub Gave-take : (n : ℕ) (before : Told) (now : Option Told) → n ≤ length before.left → now ≡ Some (after n before) → Gave (take n before.left) before now
Gave-take n before now there moved =
    let long : length (take n before.left) ≡ n = length-take n before.left ∙ omega arith in
    (ap (λ (k : ℕ). take k before.left) long, moved ∙ ap (λ (k : ℕ). Some (after k before)) (sym long))

-- a buffer that was filled whole holds the bytes that were given
pub Gave-filled : (n : ℕ) (bytes : List ℕ) (before : Told) (now : Option Told) (out : List ℕ) → length out ≡ n → out ≡ bytes
    → Fills n before now out → Gave bytes before now
Gave-filled n bytes before now out long is fills =
    let taken : take n before.left ≡ bytes = sym fills.bytes ∙ take_all n out (omega arith) ∙ is in
    subst (λ (xs : List ℕ). Gave xs before now) taken (Gave-take n before now fills.there fills.moved)

-- the first bytes were given, and then others behind them
pub Gave-more : (k : ℕ) (first more : List ℕ) (before : Told) (now : Option Told) → length first ≡ k → take k before.left ≡ first
    → Gave more (after k before) now → Gave (first ++ more) before now
Gave-more k first more before now long is (taken, moved) =
    let both : length (first ++ more) ≡ k + length more = length-append first more ∙ ap (λ (n : ℕ). n + length more) long in (
      ap (λ (n : ℕ). take n before.left) both ∙ take-add k (length more) before.left ∙ cc (is, taken),
      moved ∙ ap Some (after-after k (length more) before ∙ ap (λ (n : ℕ). after n before) (sym both)),
    )

-- the bytes that were given and those that are left are all
pub Gave-rest : (given : List ℕ) (before : Told) (now : Option Told) → Gave given before now → before.left ≡ given ++ drop (length given) before.left
Gave-rest given before now g = sym (take-append-drop (length given) before.left) ∙ ap (λ (xs : List ℕ). xs ++ drop (length given) before.left) g.0

-- given bytes are as many as were left, or fewer
pub Gave-within : (given : List ℕ) (before : Told) (now : Option Told) → Gave given before now → length given ≤ length before.left
Gave-within given before now g = let l = ap (length {A = ℕ}) g.0 in let m = length-take (length given) before.left in omega arith

pub Filled-none : (told : Option Told) (out : List ℕ) → Filled 0 told told out
Filled-none None out = refl
Filled-none (Some old) out = (omega arith, ap Some (sym (after-zero old)), refl)

-- one more read, into the rest of the buffer
pub Filled-more : {E : Type 0} (old mid now : Option Told) (out piece back : List ℕ) (at n : ℕ) (r : Result ℕ E) → r ≡ Ok n
    → at ≤ length out → n ≤ length piece → Filled at old mid out → Reads mid now r piece
    → Filled (at + n) old now (take at out ++ (piece ++ back))
Filled-more None mid now out piece back at n r is long most f t = rw (is, f) at t
Filled-more (Some old) mid now out piece back at n r is long most f t =
    let gives : Gives n (after at old) now piece = rw (is, f.1) at t in
    let room = length-drop at old.left in
    let front : length (take at out) ≡ at = length-take at out ∙ omega arith in
    let first : take at (take at out ++ (piece ++ back)) ≡ take at out = take_at (take at out) (piece ++ back) at front in
    let second : drop at (take at out ++ (piece ++ back)) ≡ piece ++ back = drop_at (take at out) (piece ++ back) at front in
    let third : take n (piece ++ back) ≡ take n piece = take-append-le n piece back most in (
      omega (arith, gives.most, f.0),
      gives.moved ∙ ap Some (after-after at n old),
      take-add at n (take at out ++ (piece ++ back)) ∙ cc (first, second, third, f.2, gives.bytes, take-add at n old.left),
    )

-- a read that gave nothing ends it
pub FillsFrom-end : {E : Type 0} (old mid now : Option Told) (out piece back : List ℕ) (at n : ℕ) (r : Result ℕ E) → r ≡ Ok n → n ≡ 0
    → at < length out → 0 < length piece → Filled at old mid out → Reads mid now r piece
    → FillsFrom {E = E} old now (Ok at) (take at out ++ (piece ++ back))
FillsFrom-end None mid now out piece back at n r is none short some f t = rw (is, f) at t
FillsFrom-end {E} (Some old) mid now out piece back at n r is none short some f t =
    let gives : Gives n (after at old) now piece = rw (is, f.1) at t in
    let filled : Filled (at + n) (Some old) now (take at out ++ (piece ++ back)) =
    Filled-more {E = E} (Some old) mid now out piece back at n r is (omega arith) (omega arith) f t in
    let same : at + n ≡ at = omega arith in
    let there : Filled at (Some old) now (take at out ++ (piece ++ back)) = rw same at filled in
    let past : drop at old.left ≡ [] = gives.ended none some in
    let front = length-take at out in
    record {
      most = omega (arith, length-append (take at out) (piece ++ back));
      there = f.0;
      moved = there.1;
      bytes = there.2;
      ended = λ less. omega (arith, f.0, ap (length {A = ℕ}) past, length-drop at old.left);
    }

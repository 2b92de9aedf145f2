-- The slices of a row, found from the front.
use Rattle.std.proofs.Common.{◌≡◌, ℕ, suc, ◌+◌, ◌-◌, ◌*◌, ◌/◌, ◌%◌, ◌^◌, ◌<◌, ◌≤◌, List, ◌++◌, length, take}
use Rattle.std.proofs.Common.{refl, sym, ap, ◌∙◌, arith, get_or, Some, None, inl, inr, subst}
use Rattle.std.specs.Prelude.{replicate, sum}
use Rattle.std.proofs.lemmas.Bool.{cases_lt, lt-ltb, le-ltb}
use Rattle.std.proofs.lemmas.List.{length-append, length-replicate, get_or-replicate, get_or-append_right, get_or_append_left, take-append-le, take-replicate}
use Rattle.std.proofs.Math.Seq.{take-append-add}
use Rattle.std.proofs.lemmas.List.Sums.{sum_by-append}
use Rattle.std.proofs.lemmas.List.Folds.{sum_by-replicate}
use Rattle.std.proofs.lemmas.Nat.{div-add-mod'}
use Rattle.picture_plane.specs.Slices.{slice_widths}
use Rattle.picture_plane.specs.inner.Rows.{narrower, slice_after}
use Rattle.picture_plane.specs.laws.WidthLaws.{widths_are, length-widths-le}

-- a slice that is there
pub there : (first n : ℕ) (ws : List ℕ) → n < length ws → slice_after first ws n ≡ Some (first + sum (take n ws), get_or ws n 0)
there first n ws h = rw (lt-ltb n (length ws) h) refl

pub not_there : (first n : ℕ) (ws : List ℕ) → length ws ≤ n → slice_after first ws n ≡ None
not_there first n ws h = rw (le-ltb n (length ws) h) refl

-- one of the widest
pub in_front : (first q w n : ℕ) (rest : List ℕ) → n < q → slice_after first (replicate q w ++ rest) n ≡ Some (first + n * w, w)
in_front first q w n rest h =
    let wide = replicate q w in let long = length-replicate q w in
    let within : n < length (wide ++ rest) = omega (arith, length-append wide rest) in
    let summed : sum (take n (wide ++ rest)) ≡ n * w =
    ap sum (take-append-le n wide rest (omega arith)) ∙ (ap sum (take-replicate n q w (omega arith)) ∙ sum_by-replicate (λ (x : ℕ). x) n w) in
    let width : get_or (wide ++ rest) n 0 ≡ w = get_or_append_left wide rest 0 n (omega arith) ∙ get_or-replicate q n w 0 h in
    there first n (wide ++ rest) within ∙ rw (summed, width) refl

-- one behind them
pub behind : (first q w n : ℕ) (rest : List ℕ) → q ≤ n → slice_after first (replicate q w ++ rest) n ≡ slice_after (first + q * w) rest (n - q)
behind first q w n rest h =
    let wide = replicate q w in let long = length-replicate q w in
    let both = length-append wide rest in
    elim (cases_lt (n - q) (length rest)) [
      | inl lt ↦
          let split : n ≡ length wide + (n - q) = omega arith in
          let summed : sum (take n (wide ++ rest)) ≡ q * w + sum (take (n - q) rest) =
          ap (λ (k : ℕ). sum (take k (wide ++ rest))) split ∙ (ap sum (take-append-add wide rest (n - q))
          ∙ (sum_by-append (λ (x : ℕ). x) wide (take (n - q) rest) ∙ ap (λ (s : ℕ). s + sum (take (n - q) rest)) (sum_by-replicate (λ (x : ℕ). x) q w))) in
          let width : get_or (wide ++ rest) n 0 ≡ get_or rest (n - q) 0 = get_or-append_right wide rest q n 0 long h in
          let moved : first + (q * w + sum (take (n - q) rest)) ≡ (first + q * w) + sum (take (n - q) rest) = omega arith in
          there first n (wide ++ rest) (omega arith) ∙ (rw (summed, width, moved) refl ∙ sym (there (first + q * w) (n - q) rest lt))
      | inr ge ↦ not_there first n (wide ++ rest) (omega arith) ∙ sym (not_there (first + q * w) (n - q) rest ge)
    ]

-- the slice that one step finds
pub found_at_once : (first m log2 width n : ℕ) → width ≡ 2 ^ log2 → n < m / width → Some (first + n * width, width) ≡ slice_after first (slice_widths log2 m) n
found_at_once first m log2 width n e h =
    let P : ℕ → Type 0 = λ w. n < m / w → Some (first + n * w, w) ≡ slice_after first (slice_widths log2 m) n in
    subst P (sym e) (λ (lt : n < m / 2 ^ log2).
    sym (ap (λ (ws : List ℕ). slice_after first ws n) (widths_are log2 m) ∙ in_front first (m / 2 ^ log2) (2 ^ log2) n (narrower log2 (m % 2 ^ log2)) lt)) h

-- behind the slices of one macroblock there is none
pub found_none : (first m log2 width n : ℕ) → width ≡ 2 ^ log2 → log2 ≡ 0 → m / width ≤ n → None ≡ slice_after first (slice_widths log2 m) n
found_none first m log2 width n e z h =
    let one : width ≡ 1 = e ∙ ap (λ (k : ℕ). 2 ^ k) z in
    let whole : m / width ≡ m = ap (λ (w : ℕ). m / w) one ∙ omega arith in
    sym (not_there first n (slice_widths log2 m) (omega (arith, length-widths-le log2 m, whole, h)))

-- what is left when the widest are cut off
pub left_is : (m width : ℕ) → m - m / width * width ≡ m % width
left_is m width = omega (arith, div-add-mod' m width)

-- the slice that is found among the narrower ones
pub found_behind : (first m log2 lower width n : ℕ) → width ≡ 2 ^ log2 → suc lower ≡ log2 → m / width ≤ n
    → slice_after (first + m / width * width) (slice_widths lower (m - m / width * width)) (n - m / width) ≡ slice_after first (slice_widths log2 m) n
found_behind first m log2 lower width n e s h =
    let rest = slice_widths lower (m - m / width * width) in
    let narrow : narrower log2 (m % 2 ^ log2) ≡ rest =
    ap (λ (k : ℕ). narrower k (m % 2 ^ log2)) (sym s) ∙ ap (slice_widths lower) (ap (λ (w : ℕ). m % w) (sym e) ∙ sym (left_is m width)) in
    let all : slice_widths log2 m ≡ replicate (m / width) width ++ rest =
    widths_are log2 m ∙ (ap (λ (ws : List ℕ). replicate (m / 2 ^ log2) (2 ^ log2) ++ ws) narrow ∙ ap (λ (w : ℕ). replicate (m / w) w ++ rest) (sym e)) in
    sym (ap (λ (ws : List ℕ). slice_after first ws n) all ∙ behind first (m / width) width n rest h)

-- how many slices there are
pub length_last : (m log2 width : ℕ) → width ≡ 2 ^ log2 → log2 ≡ 0 → m / width ≡ length (slice_widths log2 m)
unfolding slice_widths
length_last m log2 width e z =
    let one : width ≡ 1 = e ∙ ap (λ (k : ℕ). 2 ^ k) z in
    let whole : m / width ≡ m = ap (λ (w : ℕ). m / w) one ∙ omega arith in
    whole ∙ (sym (length-replicate {A = ℕ} m 1) ∙ ap (λ (k : ℕ). length (slice_widths k m)) (sym z))

pub length_more : (m log2 lower width : ℕ) → width ≡ 2 ^ log2 → suc lower ≡ log2
    → m / width + length (slice_widths lower (m - m / width * width)) ≡ length (slice_widths log2 m)
length_more m log2 lower width e s =
    let rest = slice_widths lower (m - m / width * width) in
    let narrow : narrower log2 (m % 2 ^ log2) ≡ rest =
    ap (λ (k : ℕ). narrower k (m % 2 ^ log2)) (sym s) ∙ ap (slice_widths lower) (ap (λ (w : ℕ). m % w) (sym e) ∙ sym (left_is m width)) in
    let all : slice_widths log2 m ≡ replicate (m / width) width ++ rest =
    widths_are log2 m ∙ (ap (λ (ws : List ℕ). replicate (m / 2 ^ log2) (2 ^ log2) ++ ws) narrow ∙ ap (λ (w : ℕ). replicate (m / w) w ++ rest) (sym e)) in
    omega (arith, ap length all, length-append (replicate (m / width) width) rest, length-replicate (m / width) width)

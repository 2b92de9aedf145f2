-- Bytes break one first rule.
use Rattle.std.proofs.Common.{◌≡◌, inl, inr, ℕ, ◌+◌, ◌<◌, ◌≤◌, List, Some, None, take, sum, sym, ap, subst, ◌∙◌, arith}
use Rattle.std.proofs.lemmas.Bool.{cases_lt}
use Rattle.std.proofs.lemmas.List.{take-take}
use Rattle.std.proofs.lemmas.List.Sums.{sum_by-take-le}
use Rattle.frame_syntax.specs.Pictures.{PassesAt, Passes, sizes_of, entry_at}
use Rattle.frame_syntax.specs.Frames.{RefusesTable, Refuses, parts_of}
use Rattle.frame_syntax.specs.laws.FrameLaws.{none_passes}
use Rattle.frame_syntax.specs.declared.fault.FrameFault.{FrameFault}
use Rattle.frame_syntax.specs.declared.fault.FrameFault.TheVariants.{SliceTable}
use Rattle.frame_syntax.specs.declared.picture_head.PictureHead.{PictureHead}

-- the sum of fewer is no more
sum_fewer : (i j : ℕ) (xs : List ℕ) → i ≤ j → sum (take i xs) ≤ sum (take j xs)
sum_fewer i j xs h =
    let same : sum (take i (take j xs)) ≡ sum (take i xs) = ap sum (take-take i j xs h) in
    let less = sum_by-take-le (λ (x : ℕ). x) (take j xs) i in
    omega (arith, same, less)

-- no slice before the one that passes first passes
not_before : (bytes : List ℕ) (picture : PictureHead) (n m : ℕ) → PassesAt bytes picture n → PassesAt bytes picture m → n < m → ⊥
not_before bytes picture n m p q h =
    let fewer = sum_fewer (n + 1) m (sizes_of bytes picture) (omega arith) in
    omega (arith, fewer, p.past, q.before)

passes_once : (bytes : List ℕ) (picture : PictureHead) (n m : ℕ) → PassesAt bytes picture n → PassesAt bytes picture m → n ≡ m
passes_once bytes picture n m p q = elim (cases_lt n m) [
  | inl less ↦ absurd (not_before bytes picture n m p q less)
  | inr more ↦ elim (cases_lt m n) [
    | inl less ↦ absurd (not_before bytes picture m n q p less)
    | inr other ↦ omega arith
  ]
]

passes_one : (bytes : List ℕ) (picture : PictureHead) (number : ℕ) (a b : FrameFault) → Passes bytes picture number a → Passes bytes picture number b → a ≡ b
passes_one bytes picture number a b p q =
    let same = passes_once bytes picture p.n q.n p.passes q.passes in
    p.named ∙ ap (λ n. SliceTable (entry_at picture n) (number + n)) same ∙ sym q.named

tables_one : (bytes : List ℕ) (a b : FrameFault) → RefusesTable bytes a → RefusesTable bytes b → a ≡ b
tables_one bytes a b p q = elim (p.passes) [
  | inl first ↦ elim (q.passes) [
    | inl other ↦ passes_one bytes (parts_of bytes).first 0 a b first other
    | inr other ↦ absurd (none_passes bytes (parts_of bytes).first 0 a other.before first)
  ]
  | inr second ↦ elim (q.passes) [
    | inl other ↦ absurd (none_passes bytes (parts_of bytes).first 0 b second.before other)
    | inr other ↦
        let both : Some second.picture ≡ Some other.picture = sym second.is_second ∙ other.is_second in
        let same : second.picture ≡ other.picture = cc in
        passes_one bytes other.picture (parts_of bytes).first.slices a b (subst (λ (p : PictureHead). Passes bytes p (parts_of bytes).first.slices a) same second.passes) other.passes
  ]
]

pub refusal_is_one : (bytes : List ℕ) (a b : FrameFault) → Refuses bytes a → Refuses bytes b → a ≡ b
refusal_is_one bytes a b (inl p) (inl q) = let both : Some a ≡ Some b = sym p ∙ q in cc
refusal_is_one bytes a b (inl p) (inr q) = let both : Some a ≡ None = sym p ∙ q.kept in absurd (cc)
refusal_is_one bytes a b (inr p) (inl q) = let both : Some b ≡ None = sym q ∙ p.kept in absurd (cc)
refusal_is_one bytes a b (inr p) (inr q) = tables_one bytes a b p q

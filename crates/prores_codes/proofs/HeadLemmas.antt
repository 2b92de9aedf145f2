-- Lemmas on specs/Heads.antt.
use Rattle.std.proofs.Common.{◌≡◌, ℕ, ◌+◌, ◌-◌, ◌*◌, ◌/◌, ◌%◌, ◌^◌, ◌<◌, ◌≤◌, List, [], ◌∷◌, ◌++◌, length, slice_index, get_or, set, take, refl, sym, ap, subst, ◌∙◌, arith, ⊎_elim}
use Rattle.std.proofs.lemmas.Bool.{cases_eq}
use Rattle.std.proofs.lemmas.List.{get_or-set_same, get_or-set_other}
use Rattle.std.proofs.lemmas.Nat.{shr-shr, shl-shr, shr_high, mod-pow-add, mod_below, pow_pos}
use Rattle.std.proofs.Math.Nat.{mul-mod_left}
use Rattle.std.specs.Int.RustNames.{unsigned_abs}
use Rattle.bit_io.specs.Bits.{bits}
use Rattle.bit_io.specs.Read.{Reading, Takes}
use Rattle.bit_io.specs.laws.BitLaws.{bits-add, bits-mod}
use Rattle.prores_codes.specs.declared.classes.TheConstants.{FIRST_RUNS, FIRST_SIZES}
use Rattle.prores_codes.specs.declared.heads.RunHead.{RunHead}
use Rattle.prores_codes.specs.declared.heads.LevelHead.{LevelHead}
use Rattle.prores_codes.specs.Choices.{run_parameters, level_parameters}
use Rattle.prores_codes.specs.Codes.{Parameters, Spells}
use Rattle.prores_codes.specs.Heads.{IsRunRow, IsRunHead, IsLevelRow, IsLevelHead, AreRunHeads, AreLevelHeads, ReadsPair, sign_bit}
use Rattle.prores_codes.specs.inner.Forms.{IsFound}

-- words that begin with the same nine bits begin with the same fewer bits
head_same : (word nine size : ℕ) → size ≤ 9 → word / 2 ^ 23 ≡ nine → word / 2 ^ (32 - size) ≡ nine * 2 ^ 23 / 2 ^ (32 - size)
head_same word nine size most e =
    let cut : 32 - size ≡ 23 + (9 - size) = omega arith in
    let one : word / 2 ^ (32 - size) ≡ word / 2 ^ 23 / 2 ^ (9 - size) = ap (λ (k : ℕ). word / 2 ^ k) cut ∙ sym (shr-shr word 23 (9 - size)) in
    let two : nine * 2 ^ 23 / 2 ^ (32 - size) ≡ nine / 2 ^ (9 - size) =
    ap (λ (k : ℕ). nine * 2 ^ 23 / 2 ^ k) cut ∙ (sym (shr-shr (nine * 2 ^ 23) 23 (9 - size)) ∙ ap (λ (m : ℕ). m / 2 ^ (9 - size)) (shl-shr nine 23)) in
    one ∙ (ap (λ (m : ℕ). m / 2 ^ (9 - size)) e ∙ sym two)

-- what nine bits begin with, words that begin with them begin with
begins : (p q : Parameters) (nine word size n : ℕ) → p ≡ q → size ≤ 9 → word / 2 ^ 23 ≡ nine → IsFound p (nine * 2 ^ 23) size n → Spells q (bits size (word / 2 ^ (32 - size))) n
begins p q nine word size n same most e found =
    let P : Parameters → Type 0 = λ code. Spells code (bits size (nine * 2 ^ 23 / 2 ^ (32 - size))) n in
    let Q : ℕ → Type 0 = λ m. Spells q (bits size m) n in
    subst Q (sym (head_same word nine size most e)) (subst P same found.spelled)

pub run_head_is : (class nine size : ℕ) (head : RunHead) → size ≤ 9
    → (0 < size → IsFound (run_parameters (slice_index FIRST_RUNS class)) (nine * 2 ^ 23) size head.run)
    → head.size ≤ 64 → (head.size < 64 → (0 < size) × (head.size ≡ size + 0)) → IsRunRow head.run head.row → IsRunHead (512 * class) nine head
run_head_is class nine size head most found greatest marked next =
    let row : 512 * class / 512 ≡ class = omega arith in
    record {
      greatest = greatest;
      most = λ some. omega (arith, (marked some).1);
      spelled = λ run_before word some at e.
          let same : run_parameters (slice_index FIRST_RUNS class) ≡ run_parameters run_before =
          ap (λ (k : ℕ). run_parameters (slice_index FIRST_RUNS k)) (sym row) ∙ at.code in
          let whole : head.size ≡ size = omega (arith, (marked some).1) in
          rw whole (begins _ (run_parameters run_before) nine word size head.run same most e (found (marked some).0));
      next = next;
    }

-- the bits of a size less one, and the bit behind them
with_sign : (word nine size : ℕ) → size ≤ 8 → word / 2 ^ 23 ≡ nine
    → bits (size + 1) (word / 2 ^ (32 - (size + 1))) ≡ bits size (word / 2 ^ (32 - size)) ++ nine / 2 ^ (8 - size) % 2 ∷ []
unfolding bits
with_sign word nine size most e =
    let v : ℕ = word / 2 ^ (32 - (size + 1)) in
    let next : 32 - (size + 1) + 1 ≡ 32 - size = omega arith in
    let cut : 32 - (size + 1) ≡ 23 + (8 - size) = omega arith in
    let high : v / 2 ^ 1 ≡ word / 2 ^ (32 - size) = shr-shr word (32 - (size + 1)) 1 ∙ ap (λ (k : ℕ). word / 2 ^ k) next in
    let low : v ≡ nine / 2 ^ (8 - size) =
    ap (λ (k : ℕ). word / 2 ^ k) cut ∙ (sym (shr-shr word 23 (8 - size)) ∙ ap (λ (m : ℕ). m / 2 ^ (8 - size)) e) in
    let last : bits 1 v ≡ nine / 2 ^ (8 - size) % 2 ∷ [] = ap (λ (m : ℕ). m ∷ []) (omega (arith, low)) in
    bits-add size 1 v ∙ (ap (λ (m : ℕ). bits size m ++ bits 1 v) high ∙ ap (λ (bs : List ℕ). bits size (word / 2 ^ (32 - size)) ++ bs) last)

pub level_head_is : (class nine size n : ℕ) (head : LevelHead) → size ≤ 8
    → (0 < size → IsFound (level_parameters (slice_index FIRST_SIZES class)) (nine * 2 ^ 23) size n)
    → head.size ≤ 64 → (head.size < 64 → (0 < size) × (head.size ≡ size + 1)) → unsigned_abs head.level ≡ n + 1 → sign_bit head.level ≡ nine / 2 ^ (8 - size) % 2
    → IsLevelRow n head.row → IsLevelHead (512 * class) nine head
level_head_is class nine size n head most found greatest marked value sign next =
    let row : 512 * class / 512 ≡ class = omega arith in
    let less : unsigned_abs head.level - 1 ≡ n = omega (arith, value) in
    record {
      greatest = greatest;
      most = λ some. omega (arith, (marked some).1);
      spelled = λ size_before word some at e.
          let same : level_parameters (slice_index FIRST_SIZES class) ≡ level_parameters size_before =
          ap (λ (k : ℕ). level_parameters (slice_index FIRST_SIZES k)) (sym row) ∙ at.code in
          let code : Parameters = level_parameters size_before in
          let spelling : List ℕ = bits size (word / 2 ^ (32 - size)) in
          let spells : Spells code spelling n = begins _ code nine word size n same (omega arith) e (found (marked some).0) in
          let whole : head.size ≡ size + 1 = (marked some).1 in
          let P : ℕ → Type 0 = λ k. Spells code spelling k in
          record {
            some = λ none. absurd (omega (arith, value, ap unsigned_abs none));
            size = spelling;
            size_spelled = subst P (sym less) spells;
            joined = rw (whole, sign) (with_sign word nine size most e);
          };
      next = rw less next;
    }

-- the bits of two spellings one behind the other, the second from the word shifted by the first
pub two_shown : (word one two : ℕ) → one + two ≤ 32
    → bits (one + two) (word / 2 ^ (32 - (one + two))) ≡ bits one (word / 2 ^ (32 - one)) ++ bits two (word * 2 ^ one % 2 ^ 32 / 2 ^ (32 - two))
two_shown word one two most =
    let a : ℕ = 32 - (one + two) in
    let v : ℕ = word / 2 ^ a in
    let low : ℕ = word % 2 ^ (two + a) in
    let rest : 32 - one ≡ two + a = omega arith in
    let back : 32 - two ≡ one + a = omega arith in
    let whole : 32 ≡ (two + a) + one = omega arith in
    let high : v / 2 ^ two ≡ word / 2 ^ (32 - one) = shr-shr word a two ∙ ap (λ (k : ℕ). word / 2 ^ k) (omega arith) in
    let shifted : word * 2 ^ one % 2 ^ 32 ≡ low * 2 ^ one =
    ap (λ (k : ℕ). word * 2 ^ one % 2 ^ k) whole
    ∙ (mod-pow-add (word * 2 ^ one) (two + a) one
    ∙ omega (arith, mul-mod_left word (2 ^ one), ap (λ (m : ℕ). m % 2 ^ (two + a) * 2 ^ one) (shl-shr word one))) in
    let down : low * 2 ^ one / 2 ^ (32 - two) ≡ low / 2 ^ a =
    ap (λ (k : ℕ). low * 2 ^ one / 2 ^ k) back
    ∙ (sym (shr-shr (low * 2 ^ one) one a) ∙ ap (λ (m : ℕ). m / 2 ^ a) (shl-shr low one)) in
    let same : low / 2 ^ a ≡ v % 2 ^ two =
    ap (λ (m : ℕ). m / 2 ^ a) (mod-pow-add word two a) ∙ shr_high (v % 2 ^ two) a (word % 2 ^ a) (mod_below word (2 ^ a) (pow_pos a)) in
    let bits_low : bits two (word * 2 ^ one % 2 ^ 32 / 2 ^ (32 - two)) ≡ bits two v =
    ap (λ (m : ℕ). bits two (m / 2 ^ (32 - two))) shifted ∙ (ap (bits two) (down ∙ same) ∙ bits-mod two two v (omega arith)) in
    bits-add one two v ∙ (ap (λ (m : ℕ). bits one m ++ bits two v) high ∙ ap (λ (bs : List ℕ). bits one (word / 2 ^ (32 - one)) ++ bs) (sym bits_low))

-- a run and a level that are shown first are read
pub reads_pair : (run_before size_before run_row level_row word : ℕ) (one : RunHead) (two : LevelHead) (old new : Reading)
    → IsRunHead run_row (word / 2 ^ 23) one → IsLevelHead level_row (word * 2 ^ one.size % 2 ^ 32 / 2 ^ 23) two
    → IsRunRow run_before run_row → IsLevelRow size_before level_row → one.size + two.size ≤ 32
    → bits (one.size + two.size) (word / 2 ^ (32 - (one.size + two.size))) ≡ take (one.size + two.size) old.left
    → Takes old new (take (one.size + two.size) old.left) → ReadsPair run_before size_before old new one.run two.level
reads_pair run_before size_before run_row level_row word one two old new first second at under most shown taken =
    let P : List ℕ → Type 0 = Takes old new in
    record {
      one = bits one.size (word / 2 ^ (32 - one.size));
      two = bits two.size (word * 2 ^ one.size % 2 ^ 32 / 2 ^ (32 - two.size));
      run_spelled = first.spelled run_before word (omega (arith, most)) at refl;
      level_spelled = second.spelled size_before (word * 2 ^ one.size % 2 ^ 32) (omega (arith, most)) under refl;
      taken = subst P (sym shown ∙ two_shown word one.size two.size most) taken;
    }

-- the rows of the six codes
pub run_row_is : (run class : ℕ) → class < 6 → run_parameters (slice_index FIRST_RUNS class) ≡ run_parameters run → IsRunRow run (512 * class)
run_row_is run class within same =
    let row : 512 * class / 512 ≡ class = omega arith in
    record { within = omega arith; whole = omega arith; code = ap (λ (k : ℕ). run_parameters (slice_index FIRST_RUNS k)) row ∙ same }

pub level_row_is : (n class : ℕ) → class < 6 → level_parameters (slice_index FIRST_SIZES class) ≡ level_parameters n → IsLevelRow n (512 * class)
level_row_is n class within same =
    let row : 512 * class / 512 ≡ class = omega arith in
    record { within = omega arith; whole = omega arith; code = ap (λ (k : ℕ). level_parameters (slice_index FIRST_SIZES k)) row ∙ same }

-- one entry more
pub run_heads_more : (heads : List RunHead) (k : ℕ) (head : RunHead) → k < length heads → AreRunHeads heads k
    → IsRunHead (k - k % 512) (k % 512) head → AreRunHeads (set heads k head) (k + 1)
run_heads_more heads k head within before now j none h = ⊎_elim
    (λ same.
    let P : ℕ → Type 0 = λ n. IsRunHead (n - n % 512) (n % 512) (get_or (set heads k head) n none) in
    subst P (sym same) (rw (get_or-set_same heads k head none within) now))
    (λ other. rw (get_or-set_other heads k j head none other) (before j none (omega (arith, other))))
    (cases_eq j k)

pub level_heads_more : (heads : List LevelHead) (k : ℕ) (head : LevelHead) → k < length heads → AreLevelHeads heads k
    → IsLevelHead (k - k % 512) (k % 512) head → AreLevelHeads (set heads k head) (k + 1)
level_heads_more heads k head within before now j none h = ⊎_elim
    (λ same.
    let P : ℕ → Type 0 = λ n. IsLevelHead (n - n % 512) (n % 512) (get_or (set heads k head) n none) in
    subst P (sym same) (rw (get_or-set_same heads k head none within) now))
    (λ other. rw (get_or-set_other heads k j head none other) (before j none (omega (arith, other))))
    (cases_eq j k)

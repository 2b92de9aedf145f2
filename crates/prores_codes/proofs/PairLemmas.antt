-- Lemmas on specs/Pairs.antt.
use Rattle.std.proofs.Common.{◌≡◌, ℕ, ◌+◌, ◌-◌, ◌*◌, ◌/◌, ◌%◌, ◌^◌, ◌<◌, ◌≤◌, List, [], ◌∷◌, ◌++◌, Bool, true, ltb, nat_eq, if◌then◌else◌, ◌&&◌, length, slice_index, get_or, set, refl, sym, ap, subst, ◌∙◌, arith, ⊎_elim}
use Rattle.std.proofs.lemmas.Bool.{agree_below_at, and_parts, ltb-true, cases_eq}
use Rattle.std.proofs.lemmas.List.{get_or-set_same, get_or-set_other}
use Rattle.std.proofs.lemmas.Nat.{pow-add, mul-le}
use Rattle.std.proofs.Math.Nat.{add-mul}
use Rattle.bit_io.specs.Bits.{bits}
use Rattle.bit_io.specs.laws.BitLaws.{bits-cat, length-bits}
use Rattle.prores_codes.specs.declared.classes.TheConstants.{FIRST_RUNS, FIRST_SIZES}
use Rattle.prores_codes.specs.declared.forms.Form.{Form}
use Rattle.prores_codes.specs.declared.pairs.Pair.{Pair}
use Rattle.prores_codes.specs.Choices.{run_parameters, level_parameters}
use Rattle.prores_codes.specs.Codes.{Parameters, Spells, Fits, long_number}
use Rattle.prores_codes.specs.Pairs.{IsPairRow, IsPair, ArePairs}
use Rattle.prores_codes.specs.inner.Forms.{IsForm}
use Rattle.prores_codes.specs.laws.Lengths.{small_length}

-- by the code, numbers up to `greatest` have spellings of 7 bits at most, long ones of so many digits
abbrev is_short_to : ℕ → ℕ → Parameters → Bool
is_short_to greatest digits p =
    ltb (long_number p greatest) (2 ^ digits) && (ltb (p.a + p.r) 7 && ltb (p.a + 2 * digits) (8 + p.e))

-- where a is 0, 4 digits tell, and else 3
abbrev is_short : ℕ → Parameters → Bool
is_short greatest p = is_short_to greatest (if nat_eq p.a 0 then 4 else 3) p

short_form_to : (p : Parameters) (n size number greatest digits : ℕ) → Fits p n → IsForm p n size number → n ≤ greatest → is_short_to greatest digits p ≡ true → size ≤ 7
short_form_to p n size number greatest digits fits form small test =
    let one = and_parts _ _ test in
    let two = and_parts _ _ one.1 in
    let below : long_number p greatest < 2 ^ digits = ltb-true _ _ one.0 in
    let short : p.a + p.r < 7 = ltb-true _ _ two.0 in
    let long : p.a + 2 * digits < 8 + p.e = ltb-true _ _ two.1 in
    let same : length fits.0 ≡ size = ap length (form.spelled fits.0 fits.1) ∙ length-bits size number in
    omega (arith, same, small_length p fits.0 n digits 7 fits.1 (omega arith) (omega arith) (omega arith))

short_form : (p : Parameters) (n size number greatest : ℕ) → Fits p n → IsForm p n size number → n ≤ greatest → is_short greatest p ≡ true → size ≤ 7
short_form p n size number greatest = short_form_to p n size number greatest (if nat_eq p.a 0 then 4 else 3)

pub short_run_size : (class run size number : ℕ) → class < 6 → run < 8 → Fits (run_parameters (slice_index FIRST_RUNS class)) run
    → IsForm (run_parameters (slice_index FIRST_RUNS class)) run size number → size ≤ 7
short_run_size class run size number within small fits form =
    short_form (run_parameters (slice_index FIRST_RUNS class)) run size number 7 fits form (omega arith)
    (agree_below_at (λ c. is_short 7 (run_parameters (slice_index FIRST_RUNS c))) (λ c. true) 6 class refl within)

pub small_level_size : (class n size number : ℕ) → class < 6 → n < 7 → Fits (level_parameters (slice_index FIRST_SIZES class)) n
    → IsForm (level_parameters (slice_index FIRST_SIZES class)) n size number → size ≤ 7
small_level_size class n size number within small fits form =
    short_form (level_parameters (slice_index FIRST_SIZES class)) n size number 6 fits form (omega arith)
    (agree_below_at (λ c. is_short 6 (level_parameters (slice_index FIRST_SIZES c))) (λ c. true) 6 class refl within)

one_bit : (b : ℕ) → b < 2 → bits 1 b ≡ b ∷ []
unfolding bits
one_bit b h = ap (λ (v : ℕ). v ∷ []) (omega arith)

-- two forms and a sign, one behind the other
joined_bits : (s1 n1 s2 n2 sign : ℕ) → n2 < 2 ^ s2 → sign < 2
    → bits (s1 + s2 + 1) ((n1 * 2 ^ s2 + n2) * 2 + sign) ≡ bits s1 n1 ++ bits s2 n2 ++ sign ∷ []
joined_bits s1 n1 s2 n2 sign small bit =
    bits-cat (s1 + s2) 1 (n1 * 2 ^ s2 + n2) sign (omega arith)
    ∙ (ap (λ (bs : List ℕ). bits (s1 + s2) (n1 * 2 ^ s2 + n2) ++ bs) (one_bit sign bit)
    ∙ ap (λ (bs : List ℕ). bs ++ sign ∷ []) (bits-cat s1 s2 n1 n2 small))

-- and how large their number is
joined_small : (s1 n1 s2 n2 sign : ℕ) → n1 < 2 ^ s1 → n2 < 2 ^ s2 → sign < 2 → (n1 * 2 ^ s2 + n2) * 2 + sign < 2 ^ (s1 + s2 + 1)
joined_small s1 n1 s2 n2 sign one two bit =
    let row : (n1 + 1) * 2 ^ s2 ≤ 2 ^ s1 * 2 ^ s2 = mul-le (n1 + 1) (2 ^ s2) (2 ^ s1) (2 ^ s2) (omega arith) (omega arith) in
    omega (arith, row, pow-add 2 s1 s2, pow-add 2 (s1 + s2) 1, add-mul n1 1 (2 ^ s2))

pub pair_is : (state run level : ℕ) (one two : Form) (pair : Pair)
    → IsForm (run_parameters (slice_index FIRST_RUNS (state / 6))) run one.size one.number
    → IsForm (level_parameters (slice_index FIRST_SIZES (state % 6))) (level / 2 - 1) two.size two.number
    → one.size ≤ 7 → two.size ≤ 7 → pair.size ≡ one.size + two.size + 1 → pair.number ≡ (one.number * 2 ^ two.size + two.number) * 2 + level % 2
    → IsPairRow run (level / 2 - 1) pair.row → IsPair (128 * state) run level pair
pair_is state run level one two pair first second short narrow size number next =
    let row : 128 * state / 128 ≡ state = omega arith in
    let sign : level % 2 < 2 = omega arith in
    record {
      most = omega arith;
      small = rw (size, number) (joined_small one.size one.number two.size two.number (level % 2) first.small second.small sign);
      joined = λ run_before size_before s t at spells_one spells_two.
          let P : Parameters → Type 0 = λ p. Spells p s run in
          let Q : Parameters → Type 0 = λ p. Spells p t (level / 2 - 1) in
          let f = first.spelled s (subst P (sym at.run_code ∙ ap (λ (k : ℕ). run_parameters (slice_index FIRST_RUNS (k / 6))) row) spells_one) in
          let g = second.spelled t (subst Q (sym at.level_code ∙ ap (λ (k : ℕ). level_parameters (slice_index FIRST_SIZES (k % 6))) row) spells_two) in
          rw (size, number, f, g) (sym (joined_bits one.size one.number two.size two.number (level % 2) second.small sign));
      next = next;
    }

-- one entry more
pub pairs_more : (pairs : List Pair) (k : ℕ) (pair : Pair) → k < length pairs → ArePairs pairs k
    → IsPair (k - k % 128) (k / 16 % 8) (k % 16) pair → ArePairs (set pairs k pair) (k + 1)
pairs_more pairs k pair within before now j none h = ⊎_elim
    (λ same.
    let P : ℕ → Type 0 = λ n. IsPair (n - n % 128) (n / 16 % 8) (n % 16) (get_or (set pairs k pair) n none) in
    subst P (sym same) (rw (get_or-set_same pairs k pair none within) now))
    (λ other. rw (get_or-set_other pairs k j pair none other) (before j none (omega (arith, other))))
    (cases_eq j k)

pub pair_row_is : (run size_less_one one two : ℕ) → one < 6 → two < 6 → run_parameters (slice_index FIRST_RUNS one) ≡ run_parameters run
    → level_parameters (slice_index FIRST_SIZES two) ≡ level_parameters size_less_one → IsPairRow run size_less_one (128 * (6 * one + two))
pair_row_is run size_less_one one two h l run_same level_same =
    let high : 128 * (6 * one + two) / 128 / 6 ≡ one = omega arith in
    let low : 128 * (6 * one + two) / 128 % 6 ≡ two = omega arith in
    record {
      within = omega arith;
      whole = omega arith;
      run_code = ap (λ (k : ℕ). run_parameters (slice_index FIRST_RUNS k)) high ∙ run_same;
      level_code = ap (λ (k : ℕ). level_parameters (slice_index FIRST_SIZES k)) low ∙ level_same;
    }

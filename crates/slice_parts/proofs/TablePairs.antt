use Rattle.std.proofs.Common.{◌≡◌, ℕ, ◌-◌, ◌/◌, ◌%◌, ◌≤◌, List, [], ◌∷◌, ◌++◌, length, sym, ap, subst, ◌∙◌}
use Rattle.std.specs.Int.RustNames.{unsigned_abs}
use Rattle.std.proofs.lemmas.List.{append_assoc}
use Rattle.bit_io.specs.Bits.{bits}
use Rattle.bit_io.specs.laws.BitLaws.{length-bits}
use Rattle.prores_codes.specs.declared.pairs.Pair.{Pair}
use Rattle.prores_codes.specs.Codes.{Spells}
use Rattle.prores_codes.specs.Choices.{level_parameters}
use Rattle.prores_codes.specs.Pairs.{IsPair, IsPairRow}
use Rattle.prores_scan.specs.ScaledLevels.{signed_of}
use Rattle.slice_parts.specs.Pairs.{PairSpells, pair_state, pair_of}
use Rattle.slice_parts.proofs.NumberLemmas.{signed_is}

-- a size less one, from a number that has its sign as the last bit
pub less_one : (number : ℕ) → 2 ≤ number → unsigned_abs (signed_of number) - 1 ≡ number / 2 - 1
less_one number some = ap (λ (n : ℕ). n - 1) (signed_is number some).size

-- the table's pair of a run and a level has just the bits that spell them
pub table_bits : (run size before number row : ℕ) (pair : Pair) (s : List ℕ) → 2 ≤ number → IsPairRow run size row → IsPair row before number pair
    → PairSpells (pair_state run size) s (pair_of before (signed_of number)) → s ≡ bits pair.size pair.number
table_bits run size before number row pair s some of_row is_pair is =
    let last : List ℕ = number % 2 ∷ [] in
    let sized = subst (Spells (level_parameters size) is.size) (less_one number some) is.size_spelled in
    is.joined
    ∙ (ap (λ (b : ℕ). is.run ++ (is.size ++ b ∷ [])) (signed_is number some).sign
    ∙ (sym (append_assoc is.run is.size last) ∙ is_pair.joined run size is.run is.size of_row is.run_spelled sized))

-- and as many
pub table_length : (run size before number row : ℕ) (pair : Pair) (s : List ℕ) → 2 ≤ number → IsPairRow run size row → IsPair row before number pair
    → PairSpells (pair_state run size) s (pair_of before (signed_of number)) → length s ≡ pair.size
table_length run size before number row pair s some of_row is_pair is =
    ap length (table_bits run size before number row pair s some of_row is_pair is) ∙ length-bits pair.size pair.number

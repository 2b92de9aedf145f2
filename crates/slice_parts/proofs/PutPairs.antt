use Rattle.std.proofs.Common.{◌≡◌, ℕ, ◌-◌, ◌≤◌, List, [], ◌∷◌, ◌++◌, length, refl, sym}
use Rattle.std.specs.Int.RustNames.{unsigned_abs}
use Rattle.std.proofs.lemmas.List.{append-nil}
use Rattle.bit_io.specs.declared.writer.BitWriter.{BitWriter}
use Rattle.bit_io.specs.Written.{Puts, room}
use Rattle.prores_codes.specs.Codes.{Spells}
use Rattle.prores_codes.specs.Choices.{run_parameters, level_parameters}
use Rattle.slice_parts.specs.Joined.{Split}
use Rattle.slice_parts.specs.Pairs.{Pair, PairState, PairSpells, sign_bit}
use Rattle.slice_parts.specs.inner.Written.{Wrote}
use Rattle.slice_parts.proofs.WroteLemmas.{wrote_none, wrote_more, wrote_all}

-- size and sign of a pair
abbrev pub IsTail : PairState → Pair → List ℕ → Type 0
IsTail s p = Split (λ b. Spells (level_parameters s.size_less_one) b (unsigned_abs p.level - 1)) (λ b. b ≡ sign_bit p.level ∷ [])

pub pair_split : (s : PairState) (p : Pair) (bits : List ℕ) → PairSpells s bits p → Split (λ b. Spells (run_parameters s.run) b p.run) (IsTail s p) bits
pair_split s p bits is = record {
  one = is.run;
  rest = is.size ++ sign_bit p.level ∷ [];
  head = is.run_spelled;
  tail = record { one = is.size; rest = sign_bit p.level ∷ []; head = is.size_spelled; tail = refl; joined = refl };
  joined = is.joined;
}

pub bit_split : (x : ℕ) (bits : List ℕ) → bits ≡ x ∷ [] → Split (λ b. b ≡ x ∷ []) (λ b. b ≡ []) bits
bit_split x bits e = record { one = bits; rest = []; head = e; tail = refl; joined = sym (append-nil bits) }

-- a writer put something of such a kind
abbrev pub PutsAll : BitWriter → BitWriter → (List ℕ → Type 0) → Type 0
PutsAll old new kind = (s : List ℕ) → kind s → Puts old new s

abbrev pub FitsAll : BitWriter → (List ℕ → Type 0) → Type 0
FitsAll old kind = (s : List ℕ) → kind s → length s ≤ room old

pub pair_first : (a b : BitWriter) (s : PairState) (p : Pair) (whole : List ℕ) → PairSpells s whole p → PutsAll a b (λ one. Spells (run_parameters s.run) one p.run) → FitsAll a (λ one. Spells (run_parameters s.run) one p.run)
    → Wrote a b (IsTail s p) whole
pair_first a b s p whole is puts fits =
    wrote_more a a b (λ bits. PairSpells s bits p) (λ one. Spells (run_parameters s.run) one p.run) (IsTail s p) whole (wrote_none a (λ bits. PairSpells s bits p) whole is) (pair_split s p) puts fits

pub pair_second : (a b c : BitWriter) (s : PairState) (p : Pair) (whole : List ℕ) → Wrote a b (IsTail s p) whole → PutsAll b c (λ one. Spells (level_parameters s.size_less_one) one (unsigned_abs p.level - 1))
    → FitsAll b (λ one. Spells (level_parameters s.size_less_one) one (unsigned_abs p.level - 1)) → Wrote a c (λ bits. bits ≡ sign_bit p.level ∷ []) whole
pair_second a b c s p whole w puts fits =
    wrote_more a b c (IsTail s p) (λ one. Spells (level_parameters s.size_less_one) one (unsigned_abs p.level - 1)) (λ bits. bits ≡ sign_bit p.level ∷ []) whole w (λ rest h. h) puts fits

pub pair_third : (a c d : BitWriter) (x : ℕ) (whole : List ℕ) → Wrote a c (λ bits. bits ≡ x ∷ []) whole → PutsAll c d (λ one. one ≡ x ∷ []) → FitsAll c (λ one. one ≡ x ∷ []) → Puts a d whole × (length whole ≤ room a)
pair_third a c d x whole w puts fits =
    wrote_all a d (λ bits. bits ≡ []) whole (wrote_more a c d (λ bits. bits ≡ x ∷ []) (λ one. one ≡ x ∷ []) (λ bits. bits ≡ []) whole w (bit_split x) puts fits) (λ rest h. h)

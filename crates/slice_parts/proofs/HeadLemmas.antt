use Rattle.std.proofs.Common.{◌≡◌, ◌≢◌, ℕ, ℤ, pos, negsuc, ◌+◌, ◌-◌, ◌/◌, ◌^◌, ◌<◌, List, [], ◌∷◌, ◌++◌, take, refl, sym, ap, subst, ◌∙◌, arith, inl, inr}
use Rattle.std.specs.Int.RustNames.{unsigned_abs}
use Rattle.bit_io.specs.Bits.{bits}
use Rattle.bit_io.specs.Read.{Reading, Takes}
use Rattle.prores_codes.specs.declared.heads.RunHead.{RunHead}
use Rattle.prores_codes.specs.declared.heads.LevelHead.{LevelHead}
use Rattle.prores_codes.specs.Codes.{Parameters, Spells}
use Rattle.prores_codes.specs.Choices.{run_parameters, level_parameters}
use Rattle.prores_codes.specs.Spellings.{Reads}
use Rattle.prores_codes.specs.Heads.{IsRunRow, IsRunHead, IsLevelRow, IsLevelHead, SpellsLevel, ReadsPair}
use Rattle.prores_codes.specs.Heads as heads
use Rattle.slice_parts.specs.Pairs.{PairSpells, pair_state, pair_of, sign_bit}
use Rattle.slice_parts.specs.declared.fault.PartFault.{PartFault}
use Rattle.slice_parts.specs.Faults.{NoPair}
use Rattle.slice_parts.specs.inner.Progress.{ReadsOne, NoLevel}
use Rattle.slice_parts.proofs.ReadsLemmas.{takes_more}

-- the bits that the table says of a run are read
pub head_run_reads : (row nine word before : ℕ) (head : RunHead) (old new : Reading) → IsRunHead row nine head → head.size < 64 → word / 2 ^ 23 ≡ nine → IsRunRow before row
    → bits head.size (word / 2 ^ (32 - head.size)) ≡ take head.size old.left → Takes old new (take head.size old.left) → Reads (run_parameters before) old new head.run
head_run_reads row nine word before head old new is small of_word of_row same taken = record {
  spelling = take head.size old.left;
  spelled = subst (λ (b : List ℕ). Spells (run_parameters before) b head.run) same (is.spelled before word small of_row of_word);
  taken = taken;
}

-- and those of a level
pub head_level_reads : (row nine word before : ℕ) (head : LevelHead) (old new : Reading) → IsLevelHead row nine head → head.size < 64 → word / 2 ^ 23 ≡ nine → IsLevelRow before row
    → bits head.size (word / 2 ^ (32 - head.size)) ≡ take head.size old.left → Takes old new (take head.size old.left) → ReadsOne SpellsLevel (level_parameters before) old new head.level
head_level_reads row nine word before head old new is small of_word of_row same taken = record {
  spelled = take head.size old.left;
  coded = subst (λ (b : List ℕ). SpellsLevel (level_parameters before) b head.level) same (is.spelled before word small of_row of_word);
  taken = taken;
}

same_sign : (level : ℤ) → heads.sign_bit level ≡ sign_bit level
same_sign (pos n) = refl
same_sign (negsuc n) = refl

-- size and sign that are read are a level
pub level_reads : (code : Parameters) (here middle behind : Reading) (m sign : ℕ) (level : ℤ) → Reads code here middle m → Takes middle behind (sign ∷ [])
    → unsigned_abs level ≡ m + 1 → sign_bit level ≡ sign → level ≢ pos 0 → ReadsOne SpellsLevel code here behind level
level_reads code here middle behind m sign level s last abs bit some =
    let less : m ≡ unsigned_abs level - 1 = omega (arith, abs) in
    let P : ℕ → Type 0 = λ k. Spells code s.spelling k in
    let sign_is : sign ≡ heads.sign_bit level = sym bit ∙ sym (same_sign level) in
    record {
      spelled = s.spelling ++ heads.sign_bit level ∷ [];
      coded = record { some = some; size = s.spelling; size_spelled = subst P less s.spelled; joined = refl };
      taken = takes_more here middle behind s.spelling (heads.sign_bit level ∷ []) s.taken (subst (Takes middle behind) (ap (λ (b : ℕ). b ∷ []) sign_is) last);
    }

-- run and level that are read are a pair
pub pair_reads : (run size : ℕ) (here first behind : Reading) (n : ℕ) (level : ℤ) → Reads (run_parameters run) here first n → ReadsOne SpellsLevel (level_parameters size) first behind level
    → ReadsOne PairSpells (pair_state run size) here behind (pair_of n level)
pair_reads run size here first behind n level r s = record {
  spelled = r.spelling ++ s.spelled;
  coded = record {
    some = s.coded.some;
    run = r.spelling;
    size = s.coded.size;
    run_spelled = r.spelled;
    size_spelled = s.coded.size_spelled;
    joined = ap (λ (bs : List ℕ). r.spelling ++ bs) (s.coded.joined ∙ ap (λ (b : ℕ). s.coded.size ++ b ∷ []) (same_sign level));
  };
  taken = takes_more here first behind r.spelling s.spelled r.taken s.taken;
}

-- and so are those that the tables say at once
pub read_heads_are_pair : (run size : ℕ) (here behind : Reading) (n : ℕ) (level : ℤ) → ReadsPair run size here behind n level
    → ReadsOne PairSpells (pair_state run size) here behind (pair_of n level)
read_heads_are_pair run size here behind n level r = record {
  spelled = r.one ++ r.two;
  coded = record {
    some = r.level_spelled.some;
    run = r.one;
    size = r.level_spelled.size;
    run_spelled = r.run_spelled;
    size_spelled = r.level_spelled.size_spelled;
    joined = ap (λ (bs : List ℕ). r.one ++ bs) (r.level_spelled.joined ∙ ap (λ (b : ℕ). r.level_spelled.size ++ b ∷ []) (same_sign level));
  };
  taken = r.taken;
}

-- a run that is there, and no level, are no pair
pub no_level : (run size free : ℕ) (here behind : Reading) (n : ℕ) (fault : PartFault) → Reads (run_parameters run) here behind n → n < free → NoLevel (level_parameters size) behind fault
    → NoPair (pair_state run size) free here fault
no_level run size free here behind n fault read inside (inl none) = inr (inr (inl (record { run = n; behind = behind; read = read; inside = inside; none = none })))
no_level run size free here behind n fault read inside (inr none) = inr (inr (inr (record {
  run = n;
  size_less_one = none.size_less_one;
  behind = behind;
  last = none.last;
  read = read;
  inside = inside;
  size = none.size;
  ended = none.ended;
  is = none.is;
})))

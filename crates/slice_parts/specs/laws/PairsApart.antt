-- Laws of pairs that stand in bits: proved here, for proofs to cite.
use Rattle.std.proofs.Common.{◌≡◌, ◌≢◌, ℕ, zero, suc, ℤ, pos, negsuc, ◌-◌, ◌≤◌, ◌<◌, List, [], ◌∷◌, ◌++◌, length, replicate, refl, sym, ap, subst, ◌∙◌, arith, ◌⊎◌, inl, inr}
use Rattle.std.specs.List.{fold, flat_map}
use Rattle.std.specs.Int.RustNames.{unsigned_abs}
use Rattle.std.proofs.lemmas.List.{append_assoc, append-nil, append_cancel_left, length-append, length-replicate}
use Rattle.std.proofs.lemmas.Grind.{flat_map-append}
use Rattle.std.proofs.lemmas.Bool.{cases_lt}
use Rattle.bit_io.specs.Read.{Reading}
use Rattle.prores_codes.specs.Codes.{Spells}
use Rattle.prores_codes.specs.Choices.{run_parameters, level_parameters}
use Rattle.prores_codes.specs.laws.Apart.{spellings_are_apart, has_one}
use Rattle.slice_parts.specs.declared.fault.PartFault.{PartFault}
use Rattle.slice_parts.specs.Pairs.{Pair, PairState, PairSpells, ArePairs, pair_next, first_pair, pair_of, sign_bit, levels_of}
use Rattle.slice_parts.specs.Component.{IsEnd}
use Rattle.slice_parts.specs.Faults.{NoPair, PairsBreak}
use Rattle.slice_parts.specs.inner.Progress.{HasPairs, AreLevelsOf}
use Rattle.slice_parts.specs.laws.JoinedLaws.{IsApart, goes_on}

-- a level is known by its size less one and its sign
level_one : (x y : ℤ) → x ≢ pos 0 → y ≢ pos 0 → unsigned_abs x - 1 ≡ unsigned_abs y - 1 → sign_bit x ≡ sign_bit y → x ≡ y
level_one (pos zero) y some one e s = absurd (some refl)
level_one (pos (suc m)) (pos zero) some one e s = absurd (one refl)
level_one (pos (suc m)) (pos (suc n)) some one e s = ap pos (omega (arith, e))
level_one (pos (suc m)) (negsuc n) some one e s = absurd (omega (arith, s))
level_one (negsuc m) (pos n) some one e s = absurd (omega (arith, s))
level_one (negsuc m) (negsuc n) some one e s = ap negsuc (omega (arith, e))

-- the bits of a pair and what follows, part by part
parts : (s : PairState) (bits u : List ℕ) (p : Pair) → (is : PairSpells s bits p) → bits ++ u ≡ is.run ++ (is.size ++ sign_bit p.level ∷ u)
parts s bits u p is =
    ap (λ (bs : List ℕ). bs ++ u) is.joined
    ∙ (append_assoc is.run (is.size ++ sign_bit p.level ∷ []) u ∙ ap (λ (bs : List ℕ). is.run ++ bs) (append_assoc is.size (sign_bit p.level ∷ []) u))

pub pairs_apart : IsApart PairSpells
pairs_apart s one two u v x y a b e =
    let whole : a.run ++ (a.size ++ sign_bit x.level ∷ u) ≡ b.run ++ (b.size ++ sign_bit y.level ∷ v) = sym (parts s one u x a) ∙ (e ∙ parts s two v y b) in
    let r = spellings_are_apart (run_parameters s.run) a.run b.run (a.size ++ sign_bit x.level ∷ u) (b.size ++ sign_bit y.level ∷ v) x.run y.run a.run_spelled b.run_spelled whole in
    let second : a.size ++ sign_bit x.level ∷ u ≡ b.size ++ sign_bit y.level ∷ v =
    append_cancel_left a.run (a.size ++ sign_bit x.level ∷ u) (b.size ++ sign_bit y.level ∷ v) (whole ∙ ap (λ (bs : List ℕ). bs ++ (b.size ++ sign_bit y.level ∷ v)) (sym r.0)) in
    let z = spellings_are_apart (level_parameters s.size_less_one) a.size b.size (sign_bit x.level ∷ u) (sign_bit y.level ∷ v) (unsigned_abs x.level - 1) (unsigned_abs y.level - 1) a.size_spelled b.size_spelled second in
    let third : sign_bit x.level ∷ u ≡ sign_bit y.level ∷ v =
    append_cancel_left a.size (sign_bit x.level ∷ u) (sign_bit y.level ∷ v) (second ∙ ap (λ (bs : List ℕ). bs ++ (sign_bit y.level ∷ v)) (sym z.0)) in
    let sign : sign_bit x.level ≡ sign_bit y.level = ap (λ (bs : List ℕ). first_of bs) third in
    let level : x.level ≡ y.level = level_one x.level y.level a.some b.some z.1 sign in
    let bits : one ≡ two =
    a.joined ∙ (ap (λ (bs : List ℕ). bs ++ (a.size ++ sign_bit x.level ∷ [])) r.0
    ∙ (ap (λ (bs : List ℕ). b.run ++ (bs ++ sign_bit x.level ∷ [])) z.0
    ∙ (ap (λ (k : ℕ). b.run ++ (b.size ++ k ∷ [])) sign ∙ sym b.joined))) in
    (bits, ap (λ (n : ℕ). pair_of n x.level) r.1 ∙ ap (pair_of y.run) level)
  where
    first_of : List ℕ → ℕ
    first_of [] = 0
    first_of (k ∷ ks) = k

-- no pair is spelled in zeros alone
pub pair_in_zeros : (s : PairState) (bits rest left : List ℕ) (p : Pair) → PairSpells s bits p → left ≡ bits ++ rest → IsEnd left → ⊥
pair_in_zeros s bits rest left p is e end =
    has_one (run_parameters s.run) is.run (is.size ++ sign_bit p.level ∷ rest) p.run (length left) is.run_spelled (sym (e ∙ parts s bits rest p is) ∙ end)

-- where no pair is read none that ends inside the free levels is spelled
pub no_pair_here : (s : PairState) (free : ℕ) (here : Reading) (fault : PartFault) (bits rest : List ℕ) (p : Pair) → NoPair s free here fault → PairSpells s bits p → here.left ≡ bits ++ rest → p.run < free → ⊥
no_pair_here s free here fault bits rest p none is e inside = cases none
  where
    whole : here.left ≡ is.run ++ (is.size ++ sign_bit p.level ∷ rest)
    whole = e ∙ parts s bits rest p is

    second : (n : ℕ) (run : List ℕ) (behind : Reading) → Spells (run_parameters s.run) run n → here.left ≡ run ++ behind.left → (n ≡ p.run) × (behind.left ≡ is.size ++ sign_bit p.level ∷ rest)
    second n run behind by left =
        let r = spellings_are_apart (run_parameters s.run) run is.run behind.left (is.size ++ sign_bit p.level ∷ rest) n p.run by is.run_spelled (sym left ∙ whole) in
        (r.1, append_cancel_left run behind.left (is.size ++ sign_bit p.level ∷ rest) (sym left ∙ (whole ∙ ap (λ (bs : List ℕ). bs ++ (is.size ++ sign_bit p.level ∷ rest)) (sym r.0))))

    cases : NoPair s free here fault → ⊥
    cases (inl f) = absurd (f.none p.run is.run (is.size ++ sign_bit p.level ∷ rest) is.run_spelled whole)
    cases (inr (inl f)) = absurd (omega (arith, inside, f.past, (second f.run f.read.spelling f.behind f.read.spelled f.read.taken.left).0))
    cases (inr (inr (inl f))) =
        absurd (f.none.none (unsigned_abs p.level - 1) is.size (sign_bit p.level ∷ rest) is.size_spelled (second f.run f.read.spelling f.behind f.read.spelled f.read.taken.left).1)
    cases (inr (inr (inr f))) =
        let r = second f.run f.read.spelling f.behind f.read.spelled f.read.taken.left in
        let same = spellings_are_apart (level_parameters s.size_less_one) f.size.spelling is.size f.last.left (sign_bit p.level ∷ rest) f.size_less_one (unsigned_abs p.level - 1) f.size.spelled is.size_spelled (sym f.size.taken.left ∙ r.1) in
        let sign : f.last.left ≡ sign_bit p.level ∷ rest = append_cancel_left f.size.spelling f.last.left (sign_bit p.level ∷ rest) (sym f.size.taken.left ∙ (r.1 ∙ ap (λ (bs : List ℕ). bs ++ (sign_bit p.level ∷ rest)) (sym same.0))) in
        absurd (omega (arith, ap length (sym f.ended ∙ sign)))

-- pairs that end in zeros aren't the beginning of more
stops : (start one two : Reading) (xs ys : List Pair) (a b : List ℕ) → ArePairs first_pair xs a → ArePairs first_pair ys b → start.left ≡ a ++ one.left → start.left ≡ b ++ two.left → IsEnd one.left → length xs ≤ length ys
    → (xs ≡ ys) × (one.left ≡ two.left)
stops start one two xs ys a b ja jb ea eb end le =
    let r = goes_on PairSpells pair_next pairs_apart first_pair xs ys a one.left b two.left ja jb (sym ea ∙ eb) le in
    ended r.more r.rest r.items r.coded r.left
  where
    ended : (more : List Pair) (rest : List ℕ) → ys ≡ xs ++ more → ArePairs (fold pair_next first_pair xs) more rest → one.left ≡ rest ++ two.left → (xs ≡ ys) × (one.left ≡ two.left)
    ended [] rest items coded left = (sym (append-nil xs) ∙ sym items, left ∙ ap (λ (bs : List ℕ). bs ++ two.left) coded)
    ended (p ∷ more) rest items coded left =
        absurd (pair_in_zeros (fold pair_next first_pair xs) coded.one (coded.rest ++ two.left) one.left p coded.head (left ∙ (ap (λ (bs : List ℕ). bs ++ two.left) coded.joined ∙ append_assoc coded.one coded.rest two.left)) end)

-- the levels of pairs are known by their number
filled : (xs ys : List Pair) (a b : List ℤ) → xs ≡ ys → AreLevelsOf xs a → AreLevelsOf ys b → length a ≡ length b → a ≡ b
filled xs ys a b same one two long =
    let flat : flat_map levels_of xs ≡ flat_map levels_of ys = ap (λ (zs : List Pair). flat_map levels_of zs) same in
    let behind : one.0 ≡ two.0 = omega (arith, ap length one.1, ap length two.1, long, ap length flat, length-append (flat_map levels_of xs) (replicate one.0 (pos 0)), length-append (flat_map levels_of ys) (replicate two.0 (pos 0)), length-replicate one.0 (pos 0), length-replicate two.0 (pos 0)) in
    one.1 ∙ (ap (λ (zs : List ℤ). zs ++ replicate one.0 (pos 0)) flat ∙ (ap (λ (n : ℕ). flat_map levels_of ys ++ replicate n (pos 0)) behind ∙ sym two.1))

-- bits have one list of levels
pub pairs_one : (start : Reading) (a b : List ℤ) → HasPairs start a → HasPairs start b → length a ≡ length b → a ≡ b
pairs_one start a b one two long = filled one.pairs two.pairs a b (cases (cases_lt (length two.pairs) (length one.pairs))) one.entries two.entries long
  where
    cases : (length two.pairs < length one.pairs) ⊎ (length one.pairs ≤ length two.pairs) → one.pairs ≡ two.pairs
    cases (inl lt) = sym (stops start two.here one.here two.pairs one.pairs two.read.spelled one.read.spelled two.read.coded one.read.coded two.read.taken.left one.read.taken.left two.ended (omega (arith, lt))).0
    cases (inr le) = (stops start one.here two.here one.pairs two.pairs one.read.spelled two.read.spelled one.read.coded two.read.coded one.read.taken.left two.read.taken.left one.ended le).0

-- where the pairs break off no whole list of them stands
pub pairs_break_none : (start : Reading) (count : ℕ) (fault : PartFault) (levels : List ℤ) → PairsBreak start count fault → HasPairs start levels → length levels ≡ count → ⊥
pairs_break_none start count fault levels breaks has long = cases (cases_lt (length has.pairs) (length breaks.pairs))
  where
    behind : (more : List Pair) (rest : List ℕ) → has.pairs ≡ breaks.pairs ++ more → ArePairs (fold pair_next first_pair breaks.pairs) more rest → breaks.here.left ≡ rest ++ has.here.left → ⊥
    behind [] rest items coded left = breaks.goes_on (subst IsEnd (sym (left ∙ ap (λ (bs : List ℕ). bs ++ has.here.left) coded)) has.ended)
    behind (p ∷ more) rest items coded left =
        let front : List ℤ = flat_map levels_of breaks.pairs in
        let flat : flat_map levels_of has.pairs ≡ front ++ ((replicate p.run (pos 0) ++ p.level ∷ []) ++ flat_map levels_of more) = ap (λ (zs : List Pair). flat_map levels_of zs) items ∙ flat_map-append levels_of breaks.pairs (p ∷ more) in
        let inside : p.run < count - length front = omega (
          arith,
          ap length flat,
          length-append front ((replicate p.run (pos 0) ++ p.level ∷ []) ++ flat_map levels_of more),
          length-append (replicate p.run (pos 0) ++ p.level ∷ []) (flat_map levels_of more),
          length-append (replicate p.run (pos 0)) (p.level ∷ []),
          length-replicate p.run (pos 0),
          ap length has.entries.1,
          length-append (flat_map levels_of has.pairs) (replicate has.entries.0 (pos 0)),
          long,
        ) in
        no_pair_here (fold pair_next first_pair breaks.pairs) (count - length front) breaks.here fault coded.one (coded.rest ++ has.here.left) p breaks.none coded.head
        (left ∙ (ap (λ (bs : List ℕ). bs ++ has.here.left) coded.joined ∙ append_assoc coded.one coded.rest has.here.left)) inside

    cases : (length has.pairs < length breaks.pairs) ⊎ (length breaks.pairs ≤ length has.pairs) → ⊥
    cases (inl lt) =
        let r = stops start has.here breaks.here has.pairs breaks.pairs has.read.spelled breaks.read.spelled has.read.coded breaks.read.coded has.read.taken.left breaks.read.taken.left has.ended (omega (arith, lt)) in
        breaks.goes_on (subst IsEnd r.1 has.ended)
    cases (inr le) =
        let r = goes_on PairSpells pair_next pairs_apart first_pair breaks.pairs has.pairs breaks.read.spelled breaks.here.left has.read.spelled has.here.left breaks.read.coded has.read.coded (sym breaks.read.taken.left ∙ has.read.taken.left) le in
        behind r.more r.rest r.items r.coded r.left

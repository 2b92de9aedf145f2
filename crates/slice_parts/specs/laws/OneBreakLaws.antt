-- Bits that are no part have one first fault: proved here, for proofs to cite.
use Rattle.std.proofs.Common.{◌≡◌, ℕ, ℤ, ◌-◌, ◌*◌, ◌≤◌, ◌<◌, ◌⊎◌, inl, inr, List, [], ◌∷◌, ◌++◌, length, replicate, pos, sym, ap, ap₂, subst, ◌∙◌, arith}
use Rattle.std.specs.List.{fold, flat_map}
use Rattle.std.proofs.lemmas.List.{append_assoc, append-nil, append_cancel_left, length-append, length-replicate}
use Rattle.std.proofs.lemmas.Grind.{flat_map-append}
use Rattle.std.proofs.lemmas.Bool.{cases_lt}
use Rattle.bit_io.specs.Read.{Reading, Takes, place_number}
use Rattle.prores_codes.specs.declared.fault.CodeFault.{CodeFault}
use Rattle.prores_codes.specs.declared.fault.CodeFault.TheVariants as code_fault
use Rattle.prores_codes.specs.Codes.{Parameters}
use Rattle.prores_codes.specs.Choices.{run_parameters, level_parameters}
use Rattle.prores_codes.specs.Spellings.{Reads, Refuses}
use Rattle.prores_codes.specs.laws.Apart.{spellings_are_apart}
use Rattle.slice_parts.specs.declared.fault.PartFault.{PartFault}
use Rattle.slice_parts.specs.declared.fault.PartFault.TheVariants.{BitsEnd}
use Rattle.slice_parts.specs.Dc.{DcSpells, dc_next, dc_number, dc_code_of, IsDc}
use Rattle.slice_parts.specs.Dc.DcState.{First}
use Rattle.slice_parts.specs.Pairs.{Pair, PairState, PairSpells, ArePairs, first_pair, pair_next, levels_of}
use Rattle.slice_parts.specs.Faults.{of_code, NoCode, RunPasses, NoSize, NoSign, NoPair, DcBreaks, PairsBreak, OthersBreak, Breaks, first_bit}
use Rattle.slice_parts.specs.laws.JoinedLaws.{goes_on, same_items}
use Rattle.slice_parts.specs.laws.DcApart.{dc_apart, dc_breaks_none}
use Rattle.slice_parts.specs.laws.PairsApart.{pairs_apart, no_pair_here}

-- a place and what is left there
same_reading : (a b : Reading) → a.place ≡ b.place → a.left ≡ b.left → a ≡ b
same_reading a b place left =
    let reading : ℕ → List ℕ → Reading = λ at bits. record { place = at; left = bits } in
    ap₂ reading place left

-- behind the same bits stands the same
same_behind : (start a b : Reading) (one two : List ℕ) → Takes start a one → Takes start b two → one ≡ two → a ≡ b
same_behind start a b one two takes others same =
    let left : one ++ a.left ≡ one ++ b.left = sym takes.left ∙ others.left ∙ ap (λ (bs : List ℕ). bs ++ b.left) (sym same) in
    same_reading a b (omega (arith, takes.place, others.place, ap length same)) (append_cancel_left one a.left b.left left)

-- one number is read at a place
reads_one : (code : Parameters) (here a b : Reading) (m n : ℕ) → Reads code here a m → Reads code here b n → (a ≡ b) × (m ≡ n)
reads_one code here a b m n one two =
    let same = spellings_are_apart code one.spelling two.spelling a.left b.left m n one.spelled two.spelled (sym one.taken.left ∙ two.taken.left) in
    (same_behind here a b one.spelling two.spelling one.taken two.taken same.0, same.1)

-- a code is refused in one way
cause_one : (code : Parameters) (here : Reading) (a b : CodeFault) → Refuses code here a → Refuses code here b → a ≡ b
cause_one code here (code_fault.TooLong m) (code_fault.TooLong n) one two = ap code_fault.TooLong (one.0 ∙ sym two.0)
cause_one code here (code_fault.TooLong m) (code_fault.BitsEnd n) one two = absurd (two.1 one.1)
cause_one code here (code_fault.BitsEnd m) (code_fault.TooLong n) one two = absurd (one.1 two.1)
cause_one code here (code_fault.BitsEnd m) (code_fault.BitsEnd n) one two = ap code_fault.BitsEnd (one.0 ∙ sym two.0)

no_code_one : (code : Parameters) (here : Reading) (a b : PartFault) → NoCode code here a → NoCode code here b → a ≡ b
no_code_one code here a b one two = one.is ∙ ap of_code (cause_one code here one.cause two.cause one.why two.why) ∙ sym two.is

-- where a number is read a code is
not_without : (code : Parameters) (here behind : Reading) (fault : PartFault) (n : ℕ) → NoCode code here fault → Reads code here behind n → ⊥
not_without code here behind fault n none read = none.none n read.spelling behind.left read.spelled read.taken.left

-- behind a run that ends inside the levels: no size, or no sign
abbrev NoLevelBehind : PairState → ℕ → Reading → PartFault → Type 0
NoLevelBehind s free here fault = NoSize s free here fault ⊎ NoSign s free here fault

-- no size where a size is read
size_or_sign : (s : PairState) (free : ℕ) (here : Reading) (a b : PartFault) → NoSize s free here a → NoSign s free here b → ⊥
size_or_sign s free here a b none sign =
    let same = reads_one (run_parameters s.run) here none.behind sign.behind none.run sign.run none.read sign.read in
    let again = subst (λ (r : Reading). NoCode (level_parameters s.size_less_one) r a) same.0 none.none in
    not_without (level_parameters s.size_less_one) sign.behind sign.last a sign.size_less_one again sign.size

level_one : (s : PairState) (free : ℕ) (here : Reading) (a b : PartFault) → NoLevelBehind s free here a → NoLevelBehind s free here b → a ≡ b
level_one s free here a b (inl one) (inl two) =
    let same = reads_one (run_parameters s.run) here one.behind two.behind one.run two.run one.read two.read in
    let again = subst (λ (r : Reading). NoCode (level_parameters s.size_less_one) r a) same.0 one.none in
    no_code_one (level_parameters s.size_less_one) two.behind a b again two.none
level_one s free here a b (inl one) (inr two) = absurd (size_or_sign s free here a b one two)
level_one s free here a b (inr one) (inl two) = absurd (size_or_sign s free here b a two one)
level_one s free here a b (inr one) (inr two) =
    let code = level_parameters s.size_less_one in
    let same = reads_one (run_parameters s.run) here one.behind two.behind one.run two.run one.read two.read in
    let again = subst (λ (r : Reading). Reads code r one.last one.size_less_one) same.0 one.size in
    let last = reads_one code two.behind one.last two.last one.size_less_one two.size_less_one again two.size in
    one.is ∙ ap (λ (r : Reading). BitsEnd (place_number r.place)) last.0 ∙ sym two.is

-- a run ends inside the levels or not
not_past : (s : PairState) (free : ℕ) (here : Reading) (a b : PartFault) → RunPasses s free here a → NoLevelBehind s free here b → ⊥
not_past s free here a b past (inl none) = omega (
  arith,
  past.past,
  none.inside,
  (reads_one (run_parameters s.run) here past.behind none.behind past.run none.run past.read none.read).1,
)
not_past s free here a b past (inr none) = omega (
  arith,
  past.past,
  none.inside,
  (reads_one (run_parameters s.run) here past.behind none.behind past.run none.run past.read none.read).1,
)

run_one : (s : PairState) (free : ℕ) (here : Reading) (a b : PartFault) → RunPasses s free here a ⊎ NoLevelBehind s free here a
    → RunPasses s free here b ⊎ NoLevelBehind s free here b → a ≡ b
run_one s free here a b (inl one) (inl two) = one.is ∙ sym two.is
run_one s free here a b (inl one) (inr two) = absurd (not_past s free here a b one two)
run_one s free here a b (inr one) (inl two) = absurd (not_past s free here b a two one)
run_one s free here a b (inr one) (inr two) = level_one s free here a b one two

-- where a run is read its code is
run_or_none : (s : PairState) (free : ℕ) (here : Reading) (a b : PartFault) → NoCode (run_parameters s.run) here a
    → RunPasses s free here b ⊎ NoLevelBehind s free here b → ⊥
run_or_none s free here a b none (inl has) = not_without (run_parameters s.run) here has.behind a has.run none has.read
run_or_none s free here a b none (inr (inl has)) = not_without (run_parameters s.run) here has.behind a has.run none has.read
run_or_none s free here a b none (inr (inr has)) = not_without (run_parameters s.run) here has.behind a has.run none has.read

-- a pair is missing for one cause
no_pair_one : (s : PairState) (free : ℕ) (here : Reading) (a b : PartFault) → NoPair s free here a → NoPair s free here b → a ≡ b
no_pair_one s free here a b (inl one) (inl two) = no_code_one (run_parameters s.run) here a b one two
no_pair_one s free here a b (inl one) (inr two) = absurd (run_or_none s free here a b one two)
no_pair_one s free here a b (inr one) (inl two) = absurd (run_or_none s free here b a two one)
no_pair_one s free here a b (inr one) (inr two) = run_one s free here a b one two

-- where the longer list of DC levels breaks off the shorter does
dc_one_way : (start : Reading) (count : ℕ) (a b : PartFault) (one : DcBreaks start count a) (two : DcBreaks start count b)
    → length one.levels ≤ length two.levels → a ≡ b
dc_one_way start count a b one two le =
    let r = goes_on DcSpells dc_next dc_apart First one.levels two.levels one.read.spelled one.here.left two.read.spelled two.here.left
    one.read.coded two.read.coded (sym one.read.taken.left ∙ two.read.taken.left) le in
    behind r.more r.rest r.items r.coded r.bits r.left
  where
    behind : (more : List ℤ) (rest : List ℕ) → two.levels ≡ one.levels ++ more → IsDc (fold dc_next First one.levels) more rest
        → two.read.spelled ≡ one.read.spelled ++ rest → one.here.left ≡ rest ++ two.here.left → a ≡ b
    behind [] rest items coded bits left =
        let levels : one.levels ≡ two.levels = sym (append-nil one.levels) ∙ sym items in
        let spelled : one.read.spelled ≡ two.read.spelled =
        sym (append-nil one.read.spelled) ∙ ap (λ (bs : List ℕ). one.read.spelled ++ bs) (sym coded) ∙ sym bits in
        let here = same_behind start one.here two.here one.read.spelled two.read.spelled one.read.taken two.read.taken spelled in
        let none = subst (λ (xs : List ℤ). NoCode (dc_code_of (fold dc_next First xs)) one.here a) levels one.none in
        let code = dc_code_of (fold dc_next First two.levels) in
        no_code_one code two.here a b (subst (λ (r : Reading). NoCode code r a) here none) two.none
    behind (x ∷ more) rest items coded bits left =
        let there = left ∙ ap (λ (bs : List ℕ). bs ++ two.here.left) coded.joined ∙ append_assoc coded.one coded.rest two.here.left in
        absurd (one.none.none (dc_number (fold dc_next First one.levels) x) coded.one (coded.rest ++ two.here.left) coded.head there)

dc_break_one : (start : Reading) (count : ℕ) (a b : PartFault) → DcBreaks start count a → DcBreaks start count b → a ≡ b
dc_break_one start count a b one two =
    elim (cases_lt (length two.levels) (length one.levels)) [
      | inl lt ↦ sym (dc_one_way start count b a two one (omega (arith, lt)))
      | inr le ↦ dc_one_way start count a b one two le
    ]

-- a pair in a list of pairs ends inside their levels
pair_inside : (pairs all more : List Pair) (p : Pair) (count : ℕ) → all ≡ pairs ++ p ∷ more → length (flat_map levels_of all) ≤ count
    → p.run < count - length (flat_map levels_of pairs)
pair_inside pairs all more p count items inside =
    let front : List ℤ = flat_map levels_of pairs in
    let flat : flat_map levels_of all ≡ front ++ ((replicate p.run (pos 0) ++ p.level ∷ []) ++ flat_map levels_of more) =
    ap (λ (zs : List Pair). flat_map levels_of zs) items ∙ flat_map-append levels_of pairs (p ∷ more) in
    omega (
      arith,
      inside,
      ap length flat,
      length-append front ((replicate p.run (pos 0) ++ p.level ∷ []) ++ flat_map levels_of more),
      length-append (replicate p.run (pos 0) ++ p.level ∷ []) (flat_map levels_of more),
      length-append (replicate p.run (pos 0)) (p.level ∷ []),
      length-replicate p.run (pos 0),
    )

-- where the longer list of pairs breaks off the shorter does
pairs_one_way : (start : Reading) (count : ℕ) (a b : PartFault) (one : PairsBreak start count a) (two : PairsBreak start count b)
    → length one.pairs ≤ length two.pairs → a ≡ b
pairs_one_way start count a b one two le =
    let r = goes_on PairSpells pair_next pairs_apart first_pair one.pairs two.pairs one.read.spelled one.here.left two.read.spelled two.here.left
    one.read.coded two.read.coded (sym one.read.taken.left ∙ two.read.taken.left) le in
    behind r.more r.rest r.items r.coded r.bits r.left
  where
    behind : (more : List Pair) (rest : List ℕ) → two.pairs ≡ one.pairs ++ more → ArePairs (fold pair_next first_pair one.pairs) more rest
        → two.read.spelled ≡ one.read.spelled ++ rest → one.here.left ≡ rest ++ two.here.left → a ≡ b
    behind [] rest items coded bits left =
        let pairs : one.pairs ≡ two.pairs = sym (append-nil one.pairs) ∙ sym items in
        let spelled : one.read.spelled ≡ two.read.spelled =
        sym (append-nil one.read.spelled) ∙ ap (λ (bs : List ℕ). one.read.spelled ++ bs) (sym coded) ∙ sym bits in
        let here = same_behind start one.here two.here one.read.spelled two.read.spelled one.read.taken two.read.taken spelled in
        let free : ℕ = count - length (flat_map levels_of two.pairs) in
        let state = fold pair_next first_pair two.pairs in
        let none = subst (λ (xs : List Pair). NoPair (fold pair_next first_pair xs) (count - length (flat_map levels_of xs)) one.here a) pairs one.none in
        no_pair_one state free two.here a b (subst (λ (r : Reading). NoPair state free r a) here none) two.none
    behind (p ∷ more) rest items coded bits left =
        let there = left ∙ ap (λ (bs : List ℕ). bs ++ two.here.left) coded.joined ∙ append_assoc coded.one coded.rest two.here.left in
        let free : ℕ = count - length (flat_map levels_of one.pairs) in
        let inside = pair_inside one.pairs two.pairs more p count items two.inside in
        absurd (
        no_pair_here (fold pair_next first_pair one.pairs) free one.here a coded.one (coded.rest ++ two.here.left) p one.none coded.head there inside)

pairs_break_one : (start : Reading) (count : ℕ) (a b : PartFault) → PairsBreak start count a → PairsBreak start count b → a ≡ b
pairs_break_one start count a b one two =
    elim (cases_lt (length two.pairs) (length one.pairs)) [
      | inl lt ↦ sym (pairs_one_way start count b a two one (omega (arith, lt)))
      | inr le ↦ pairs_one_way start count a b one two le
    ]

-- the pairs begin behind the same DC levels
others_break_one : (start : Reading) (blocks : ℕ) (a b : PartFault) → OthersBreak start blocks a → OthersBreak start blocks b → a ≡ b
others_break_one start blocks a b one two =
    let first = one.read in
    let second = two.read in
    let whole : first.spelled ++ one.middle.left ≡ second.spelled ++ two.middle.left = sym first.taken.left ∙ second.taken.left in
    let same = same_items DcSpells dc_next dc_apart First one.dc two.dc first.spelled one.middle.left second.spelled two.middle.left
    first.coded second.coded whole (one.all ∙ sym two.all) in
    let place : one.middle.place ≡ two.middle.place = omega (
      arith,
      first.taken.place,
      second.taken.place,
      ap length whole,
      ap length same.1,
      length-append first.spelled one.middle.left,
      length-append second.spelled two.middle.left,
    ) in
    let middle : one.middle ≡ two.middle = same_reading one.middle two.middle place same.1 in
    pairs_break_one two.middle (63 * blocks) a b (subst (λ (r : Reading). PairsBreak r (63 * blocks) a) middle one.pairs) two.pairs

-- DC levels break off or are all there
dc_or_others : (start : Reading) (blocks : ℕ) (a b : PartFault) → DcBreaks start blocks a → OthersBreak start blocks b → ⊥
dc_or_others start blocks a b none all = dc_breaks_none start blocks a all.dc all.read.spelled all.middle.left none all.all all.read.coded all.read.taken.left

-- bits that are no part have one first fault
pub breaks_one : (blocks : ℕ) (bits : List ℕ) (a b : PartFault) → Breaks blocks bits a → Breaks blocks bits b → a ≡ b
breaks_one blocks bits a b (inl one) (inl two) = dc_break_one (first_bit bits) blocks a b one two
breaks_one blocks bits a b (inl one) (inr two) = absurd (dc_or_others (first_bit bits) blocks a b one two)
breaks_one blocks bits a b (inr one) (inl two) = absurd (dc_or_others (first_bit bits) blocks b a two one)
breaks_one blocks bits a b (inr one) (inr two) = others_break_one (first_bit bits) blocks a b one two

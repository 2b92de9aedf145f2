-- The first item of a kind, and how long runs are.
use Rattle.std.proofs.Common.{◌≡◌, ◌⊎◌, inl, inr, ℕ, ◌-◌, ◌==◌, ◌&&◌, ◌||◌, Bool, true, false, not, if◌then◌else◌, List, [], ◌∷◌, ◌++◌, None, refl, sym}
use Rattle.std.proofs.Common.{ap, subst, ◌∙◌, append-nil}
use Rattle.std.proofs.lemmas.Bool.{and_from, and_parts, eq-eqb, eqb-true, not-false, not-true, not_from_false, not_from_true}
use Rattle.std.specs.List.{AllByRecursion}
use Rattle.mxf_op1a.specs.Contents.{Content, Placed, is_fill, is_primer, is_segment, is_set}
use Rattle.mxf_op1a.specs.Partitions.{Part, being, from_first, index_len, metadata_len, place_of, run_of}
use Rattle.mxf_op1a.specs.Clauses.{broken_10}
use Rattle.mxf_op1a.specs.Firsts.{CountsRun, EndsRun, IsFirst, IsRun, goes_on}
use Rattle.mxf_op1a.specs.Kept.{CountsLengths}
use Rattle.mxf_op1a.proofs.Steps.{each_so, goes, goes_back}

-- items of which none keeps a test
abbrev pub NoneIs : (Content → Bool) → List Placed → Type 0
NoneIs test items = AllByRecursion (λ q. being test q ≡ false) items

-- what stands from the first on
first_behind : (test : Content → Bool) (before behind : List Placed) (p : Placed) → NoneIs test before → being test p ≡ true
    → from_first test (before ++ p ∷ behind) ≡ p ∷ behind
unfolding from_first
first_behind test [] behind p none is = ap (λ (b : Bool). if b then p ∷ behind else from_first test behind) is
first_behind test (q ∷ before) behind p none is =
    ap (λ (b : Bool). if b then q ∷ (before ++ p ∷ behind) else from_first test (before ++ p ∷ behind)) none.0 ∙ first_behind test before behind p none.1 is

pub first_is : (test : Content → Bool) (items : List Placed) (p : Placed) (behind : List Placed) → IsFirst test items p behind
    → from_first test items ≡ p ∷ behind
first_is test items p behind f = ap (from_first test) f.items_are ∙ first_behind test f.before behind p f.others f.itself

pub first_none : (test : Content → Bool) (items : List Placed) → NoneIs test items → from_first test items ≡ []
unfolding from_first
first_none test [] none = refl
first_none test (q ∷ items) none = ap (λ (b : Bool). if b then q ∷ items else from_first test items) none.0 ∙ first_none test items none.1

-- what is answered begins with the first, or there is none
abbrev pub IsFound : (Content → Bool) → List Placed → List Placed → Type 0
IsFound test items answer =
    ((p : Placed) × (behind : List Placed) × (answer ≡ p ∷ behind) × IsFirst test items p behind) ⊎ ((answer ≡ []) × NoneIs test items)

found_more : (test : Content → Bool) (q : Placed) (items : List Placed) (b : Bool) → being test q ≡ b → IsFound test items (from_first test items)
    → IsFound test (q ∷ items) (if b then q ∷ items else from_first test items)
found_more test q items true is more = inl (q, items, refl, record { before = []; items_are = refl; others = tt; itself = is })
found_more test q items false is (inl f) = inl (
  f.0,
  f.1,
  f.2,
  record {
    before = q ∷ f.3.before;
    items_are = ap (λ (ps : List Placed). q ∷ ps) f.3.items_are;
    others = (is, f.3.others);
    itself = f.3.itself;
  },
)
found_more test q items false is (inr none) = inr (none.0, (is, none.1))

pub found : (test : Content → Bool) (items : List Placed) → IsFound test items (from_first test items)
unfolding from_first
found test [] = inr (refl, tt)
found test (q ∷ items) = found_more test q items (being test q) refl (found test items)

-- what ends a run
abbrev pub over : (Content → Bool) → Content → Bool
over goes_so content = not (goes_so content || is_fill content)

-- a run from its first item on
run_behind : (begins goes_so : Content → Bool) (part : Part) (p : Placed) (behind : List Placed) → IsFirst begins part.items p behind
    → IsRun begins goes_so part (place_of part.end (from_first (over goes_so) behind) - p.at)
run_behind begins goes_so part p behind is = elim (found (over goes_so) behind) [
  | inl f ↦ record {
    first = p;
    run = f.3.before;
    behind = f.0 ∷ f.1;
    is_first = subst (λ (ps : List Placed). IsFirst begins part.items p ps) f.3.items_are is;
    on = each_so (λ q. being (over goes_so) q ≡ false) (λ q. goes_on goes_so q ≡ true) (λ q. not-false (goes_on goes_so q)) f.3.before f.3.others;
    over = not-true (goes_on goes_so f.0) f.3.itself;
    len_is = ap (λ (ps : List Placed). place_of part.end ps - p.at) f.2;
  }
  | inr none ↦ record {
    first = p;
    run = behind;
    behind = [];
    is_first = subst (λ (ps : List Placed). IsFirst begins part.items p ps) (sym (append-nil behind)) is;
    on = each_so (λ q. being (over goes_so) q ≡ false) (λ q. goes_on goes_so q ≡ true) (λ q. not-false (goes_on goes_so q)) behind none.1;
    over = tt;
    len_is = ap (λ (ps : List Placed). place_of part.end ps - p.at) none.0;
  }
]

-- the length of a run
pub run_counted : (begins goes_so : Content → Bool) (part : Part) → CountsRun begins goes_so part (run_of goes_so part.end (from_first begins part.items))
run_counted begins goes_so part = elim (found begins part.items) [
  | inl f ↦ inr (subst (λ (ps : List Placed). IsRun begins goes_so part (run_of goes_so part.end ps)) (sym f.2) (run_behind begins goes_so part f.0 f.1 f.3))
  | inr none ↦ inl (none.1, ap (run_of goes_so part.end) none.0)
]

run_over : (goes_so : Content → Bool) (run behind : List Placed) → AllByRecursion (λ p. goes_on goes_so p ≡ true) run → EndsRun goes_so behind
    → from_first (over goes_so) (run ++ behind) ≡ behind
run_over goes_so run [] on end =
    ap (from_first (over goes_so)) (append-nil run)
    ∙ first_none (over goes_so) run
    (each_so (λ q. goes_on goes_so q ≡ true) (λ q. being (over goes_so) q ≡ false) (λ q. not_from_true (goes_on goes_so q)) run on)
run_over goes_so run (p ∷ behind) on end =
    first_behind (over goes_so) run behind p
    (each_so (λ q. goes_on goes_so q ≡ true) (λ q. being (over goes_so) q ≡ false) (λ q. not_from_true (goes_on goes_so q)) run on)
    (not_from_false (goes_on goes_so p) end)

pub run_is : (begins goes_so : Content → Bool) (part : Part) (len : ℕ) → CountsRun begins goes_so part len
    → len ≡ run_of goes_so part.end (from_first begins part.items)
run_is begins goes_so part len (inl none) = none.1 ∙ sym (ap (run_of goes_so part.end) (first_none begins part.items none.0))
run_is begins goes_so part len (inr r) =
    r.len_is
    ∙ sym (ap (run_of goes_so part.end) (first_is begins part.items r.first (r.run ++ r.behind) r.is_first)
    ∙ ap (λ (ps : List Placed). place_of part.end ps - r.first.at) (run_over goes_so r.run r.behind r.on r.over))

-- 10.
pub lengths : (all : List Part) → broken_10 all ≡ None → AllByRecursion CountsLengths all
unfolding broken_10
lengths [] e = tt
lengths (part ∷ all) e =
    let both = goes (part.pack.header_bytes == metadata_len part && part.pack.index_bytes == index_len part) (broken_10 all) part.at e in
    let own = and_parts (part.pack.header_bytes == metadata_len part) (part.pack.index_bytes == index_len part) both.0 in
    let header : part.pack.header_bytes ≡ metadata_len part = eqb-true part.pack.header_bytes (metadata_len part) own.0 in
    let index : part.pack.index_bytes ≡ index_len part = eqb-true part.pack.index_bytes (index_len part) own.1 in (
      record {
        header = subst (λ (n : ℕ). CountsRun is_primer is_set part n) (sym header) (run_counted is_primer is_set part);
        index = subst (λ (n : ℕ). CountsRun is_segment is_segment part n) (sym index) (run_counted is_segment is_segment part);
      },
      lengths all both.1,
    )

pub lengths_back : (all : List Part) → AllByRecursion CountsLengths all → broken_10 all ≡ None
unfolding broken_10
lengths_back [] k = refl
lengths_back (part ∷ all) k =
    goes_back (part.pack.header_bytes == metadata_len part && part.pack.index_bytes == index_len part) (broken_10 all) part.at
    (and_from (part.pack.header_bytes == metadata_len part) (part.pack.index_bytes == index_len part)
    (eq-eqb part.pack.header_bytes (metadata_len part) (run_is is_primer is_set part part.pack.header_bytes k.0.header))
    (eq-eqb part.pack.index_bytes (index_len part) (run_is is_segment is_segment part part.pack.index_bytes k.0.index)))
    (lengths_back all k.1)

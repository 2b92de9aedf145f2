-- Where the clauses on the file's end and on the kinds of partitions are broken.
use Rattle.std.proofs.Common.{◌≡◌, ◌⊎◌, inl, inr, ℕ, ◌<◌, Bool, true, false, nat_lt, if◌then◌else◌, List, [], ◌∷◌, ◌++◌, length, map, Option, Some, None}
use Rattle.std.proofs.Common.{refl, sym, ap, ◌∙◌, arith}
use Rattle.std.proofs.lemmas.Bool.{cases_Bool, cases_lt, le-ltb, lt-ltb, false_from_ne_true}
use Rattle.std.specs.List.{AllByRecursion}
use Rattle.mxf_partitions.specs.Reads.{entries_of}
use Rattle.mxf_op1a.specs.Contents.{Placed, is_random_index}
use Rattle.mxf_op1a.specs.Partitions.{Part, being}
use Rattle.mxf_op1a.specs.Clauses.{broken_1, broken_2, broken_4, broken_behind, ends_well, entries_match, is_body, is_closed_footer, is_open_header}
use Rattle.mxf_op1a.specs.Clauses.{last_item, names_parts}
use Rattle.mxf_op1a.specs.Firsts.{IsLast}
use Rattle.mxf_op1a.specs.Kept.{IsBody, IsClosedFooter, IsOpenHeader, entry_of}
use Rattle.mxf_op1a.specs.Broken.{BreaksEnd, BreaksKinds, BreaksNames, IsDue}
use Rattle.mxf_op1a.proofs.EndLemmas.{IsAnswered, answered, ends, ends_back, last_is, match_option, match_back}
use Rattle.mxf_op1a.proofs.PlaceLemmas.{body_is, closed_footer, closed_footer_back, open_header, open_header_back}

-- a test that fails names a place
pub fails : (b : Bool) (at place : ℕ) → (if b then None else Some place) ≡ Some at → (b ≡ false) × (at ≡ place)
fails true at place e = absurd (cc)
fails false at place e = (refl, cc)

pub fails_back : {A : Type 0} (b : Bool) (o : Option A) (x : A) → b ≡ false → (if b then o else Some x) ≡ Some x
fails_back b o x e = ap (λ (t : Bool). if t then o else Some x) e

-- a test that isn't kept
pub is_false : (b : Bool) (P : Type 0) → (b ≡ true → P) → ¬ P → b ≡ false
is_false b P so none = false_from_ne_true b (λ t. none (so t))

pub not_kept : (b : Bool) (P : Type 0) → (P → b ≡ true) → b ≡ false → ¬ P
not_kept b P so e p = let t : b ≡ true = so p in cc

-- 1.
well : (len at : ℕ) (last : Option Placed) → ends_well len last ≡ Some at → at ≡ len
well len at None e = cc
well len at (Some p) e = (fails (being is_random_index p) at len e).1

some_well : (len : ℕ) (last : Option Placed) → ¬ (ends_well len last ≡ None) → ends_well len last ≡ Some len
some_well len None some = refl
some_well len (Some p) some = elim (cases_Bool (being is_random_index p)) [
  | inl is ↦ absurd (some (ap (λ (t : Bool). if t then None else Some len) is))
  | inr other ↦ fails_back (being is_random_index p) None len other
]

pub end_breaks : (len stop : ℕ) (items : List Placed) (at : ℕ) → broken_1 stop len items ≡ Some at → BreaksEnd len stop items at
end_breaks len stop items at e = elim (cases_lt stop len) [
  | inl lt ↦ let t : nat_lt stop len ≡ true = lt-ltb stop len lt in let here = rw t at e in inl (lt, cc)
  | inr ge ↦
      let t : nat_lt stop len ≡ false = le-ltb stop len ge in
      inr (ge, (λ k. let none = ends_back len stop items k in cc), well len at (last_item None items) (rw t at e))
]

pub end_breaks_back : (len stop : ℕ) (items : List Placed) (at : ℕ) → BreaksEnd len stop items at → broken_1 stop len items ≡ Some at
end_breaks_back len stop items at (inl cut) =
    let t : nat_lt stop len ≡ true = lt-ltb stop len cut.0 in rw t (ap (λ (n : ℕ). Some n) (sym cut.1))
end_breaks_back len stop items at (inr b) =
    let t : nat_lt stop len ≡ false = le-ltb stop len b.0 in
    let whole : broken_1 stop len items ≡ ends_well len (last_item None items) = rw t refl in
    whole ∙ some_well len (last_item None items) (λ n. b.1 (ends len stop items (whole ∙ n))) ∙ ap (λ (n : ℕ). Some n) (sym b.2)

-- 2.
name_breaks_by : (items : List Placed) (all : List Part) (at : ℕ) (last : Option Placed) → IsAnswered None items last → names_parts all last ≡ Some at
    → BreaksNames items all at
name_breaks_by items all at None a e = absurd (cc)
name_breaks_by items all at (Some p) (inr none) e = absurd (let bad = none.0 in cc)
name_breaks_by items all at (Some p) (inl found) e =
    let same : p ≡ found.0 = cc in
    let l : IsLast items p = rw same found.2 in
    let f = fails (entries_match (entries_of p.item) all) at p.at e in
    record {
      last = p;
      is_last = l;
      breaks = not_kept (entries_match (entries_of p.item) all) (entries_of p.item ≡ Some (map entry_of all)) (match_back (entries_of p.item) all) f.0;
      at_is = f.1;
    }

pub name_breaks : (items : List Placed) (all : List Part) (at : ℕ) → broken_2 items all ≡ Some at → BreaksNames items all at
name_breaks items all at e = name_breaks_by items all at (last_item None items) (answered None items) e

pub name_breaks_back : (items : List Placed) (all : List Part) (at : ℕ) → BreaksNames items all at → broken_2 items all ≡ Some at
name_breaks_back items all at b =
    let f : entries_match (entries_of b.last.item) all ≡ false =
    is_false (entries_match (entries_of b.last.item) all) (entries_of b.last.item ≡ Some (map entry_of all))
    (match_option (entries_of b.last.item) all) b.breaks in
    ap (names_parts all) (last_is items b.last b.is_last) ∙ fails_back (entries_match (entries_of b.last.item) all) None b.last.at f
    ∙ ap (λ (n : ℕ). Some n) (sym b.at_is)

-- 4. behind the header
record IsBehind (all : List Part) (at : ℕ) : Type 0 where
  bodies : List Part
  one : Part
  behind : List Part
  all_are : all ≡ bodies ++ one ∷ behind
  between : AllByRecursion IsBody bodies
  breaks : ¬ IsDue one behind
  at_is : at ≡ one.at

-- a test that sends on, or fails here
pub sent : (b : Bool) (next : Option ℕ) (at place : ℕ) → (if b then next else Some place) ≡ Some at
    → ((b ≡ true) × (next ≡ Some at)) ⊎ ((b ≡ false) × (at ≡ place))
sent true next at place e = inl (refl, e)
sent false next at place e = inr (refl, cc)

behind_breaks : (part : Part) (all : List Part) (at : ℕ) → broken_behind (part ∷ all) ≡ Some at → IsBehind (part ∷ all) at
unfolding broken_behind
behind_breaks part [] at e =
    let f = fails (is_closed_footer part) at part.at e in
    record {
      bodies = [];
      one = part;
      behind = [];
      all_are = refl;
      between = tt;
      breaks = not_kept (is_closed_footer part) (IsClosedFooter part) (closed_footer_back part) f.0;
      at_is = f.1;
    }
behind_breaks part (next ∷ all) at e = elim (sent (is_body part.pack.kind) (broken_behind (next ∷ all)) at part.at e) [
  | inl on ↦
      let rest = behind_breaks next all at on.1 in
      record {
        bodies = part ∷ rest.bodies;
        one = rest.one;
        behind = rest.behind;
        all_are = ap (λ (ps : List Part). part ∷ ps) rest.all_are;
        between = (body_is part.pack.kind on.0, rest.between);
        breaks = rest.breaks;
        at_is = rest.at_is;
      }
  | inr here ↦ record {
    bodies = [];
    one = part;
    behind = next ∷ all;
    all_are = refl;
    between = tt;
    breaks = not_kept (is_body part.pack.kind) (IsBody part) (ap is_body) here.0;
    at_is = here.1;
  }
]

pub on_to : (b : Bool) (next : Option ℕ) (place : ℕ) → b ≡ true → (if b then next else Some place) ≡ next
on_to b next place e = ap (λ (t : Bool). if t then next else Some place) e

behind_breaks_back : (bodies : List Part) (one : Part) (behind : List Part) → AllByRecursion IsBody bodies → ¬ IsDue one behind
    → broken_behind (bodies ++ one ∷ behind) ≡ Some one.at
unfolding broken_behind
behind_breaks_back [] one [] between breaks =
    fails_back (is_closed_footer one) None one.at (is_false (is_closed_footer one) (IsClosedFooter one) (closed_footer one) breaks)
behind_breaks_back [] one (next ∷ behind) between breaks =
    fails_back (is_body one.pack.kind) (broken_behind (next ∷ behind)) one.at (is_false (is_body one.pack.kind) (IsBody one) (body_is one.pack.kind) breaks)
behind_breaks_back (body ∷ []) one behind between breaks =
    on_to (is_body body.pack.kind) (broken_behind (one ∷ behind)) body.at (ap is_body between.0) ∙ behind_breaks_back [] one behind tt breaks
behind_breaks_back (body ∷ next ∷ bodies) one behind between breaks =
    on_to (is_body body.pack.kind) (broken_behind (next ∷ (bodies ++ one ∷ behind))) body.at (ap is_body between.0)
    ∙ behind_breaks_back (next ∷ bodies) one behind between.1 breaks

pub kind_breaks : (len : ℕ) (all : List Part) (at : ℕ) → broken_4 len all ≡ Some at → BreaksKinds len all at
kind_breaks len [] at e = inl (refl, cc)
kind_breaks len (part ∷ []) at e =
    inr (inl (record { first = part; behind = []; all_are = refl; breaks = λ k. let bad = k.1 in absurd (omega arith); at_is = cc }))
kind_breaks len (part ∷ next ∷ all) at e = elim (sent (is_open_header part) (broken_behind (next ∷ all)) at part.at e) [
  | inl on ↦
      let rest = behind_breaks next all at on.1 in
      inr (inr (record {
        header = part;
        bodies = rest.bodies;
        one = rest.one;
        behind = rest.behind;
        all_are = ap (λ (ps : List Part). part ∷ ps) rest.all_are;
        begins = open_header part on.0;
        between = rest.between;
        breaks = rest.breaks;
        at_is = rest.at_is;
      }))
  | inr here ↦ inr (inl (record {
    first = part;
    behind = next ∷ all;
    all_are = refl;
    breaks = λ k. not_kept (is_open_header part) (IsOpenHeader part) (open_header_back part) here.0 k.0;
    at_is = here.1;
  }))
]

header_breaks : (len : ℕ) (first : Part) (behind : List Part) → ¬ (IsOpenHeader first × (0 < length behind)) → broken_4 len (first ∷ behind) ≡ Some first.at
header_breaks len first [] breaks = refl
header_breaks len first (next ∷ behind) breaks =
    fails_back (is_open_header first) (broken_behind (next ∷ behind)) first.at
    (is_false (is_open_header first) (IsOpenHeader first) (open_header first) (λ k. breaks (k, omega arith)))

others_break : (len : ℕ) (header one : Part) (bodies behind : List Part) → IsOpenHeader header → AllByRecursion IsBody bodies → ¬ IsDue one behind
    → broken_4 len (header ∷ (bodies ++ one ∷ behind)) ≡ Some one.at
others_break len header one [] behind begins between breaks =
    on_to (is_open_header header) (broken_behind (one ∷ behind)) header.at (open_header_back header begins) ∙ behind_breaks_back [] one behind tt breaks
others_break len header one (body ∷ bodies) behind begins between breaks =
    on_to (is_open_header header) (broken_behind (body ∷ (bodies ++ one ∷ behind))) header.at (open_header_back header begins)
    ∙ behind_breaks_back (body ∷ bodies) one behind between breaks

pub kind_breaks_back : (len : ℕ) (all : List Part) (at : ℕ) → BreaksKinds len all at → broken_4 len all ≡ Some at
kind_breaks_back len all at (inl none) = ap (broken_4 len) none.0 ∙ ap (λ (n : ℕ). Some n) (sym none.1)
kind_breaks_back len all at (inr (inl b)) = ap (broken_4 len) b.all_are ∙ header_breaks len b.first b.behind b.breaks ∙ ap (λ (n : ℕ). Some n) (sym b.at_is)
kind_breaks_back len all at (inr (inr b)) =
    ap (broken_4 len) b.all_are ∙ others_break len b.header b.one b.bodies b.behind b.begins b.between b.breaks ∙ ap (λ (n : ℕ). Some n) (sym b.at_is)

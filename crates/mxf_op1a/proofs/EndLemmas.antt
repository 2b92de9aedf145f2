-- The last item, and the clauses on the random index pack.
use Rattle.std.proofs.Common.{◌≡◌, ◌⊎◌, inl, inr, ℕ, ◌≤◌, ◌==◌, ◌&&◌, Bool, true, false, nat_lt, if◌then◌else◌, List, [], ◌∷◌, ◌++◌, map, Option, Some}
use Rattle.std.proofs.Common.{None, refl, sym, ap, ◌∙◌}
use Rattle.std.proofs.lemmas.Bool.{and_from, and_parts, cases_lt, eq-eqb, eqb-true, le-ltb, lt-ltb}
use Rattle.std.specs.List.{AllByRecursion}
use Rattle.mxf_partitions.specs.Reads.{entries_of}
use Rattle.mxf_partitions.specs.declared.random_index.PackEntry.{PackEntry}
use Rattle.mxf_op1a.specs.Contents.{Placed, is_fill, is_random_index}
use Rattle.mxf_op1a.specs.Partitions.{Part, being}
use Rattle.mxf_op1a.specs.Clauses.{broken_1, broken_2, ends_well, entries_match, last_item, names_parts}
use Rattle.mxf_op1a.specs.Firsts.{IsLast}
use Rattle.mxf_op1a.specs.Kept.{EndsWithRandomIndex, NamesPartitions, entry_of}
use Rattle.mxf_op1a.proofs.Steps.{goes, goes_back}

-- fill changes nothing
last_fill : (o : Option Placed) (items : List Placed) → AllByRecursion (λ q. being is_fill q ≡ true) items → last_item o items ≡ o
unfolding last_item
last_fill o [] h = refl
last_fill o (q ∷ items) h = ap (λ (b : Bool). last_item (if b then o else Some q) items) h.0 ∙ last_fill o items h.1

last_behind : (o : Option Placed) (before behind : List Placed) (p : Placed) → being is_fill p ≡ false → AllByRecursion (λ q. being is_fill q ≡ true) behind
    → last_item o (before ++ p ∷ behind) ≡ Some p
unfolding last_item
last_behind o [] behind p is h = ap (λ (b : Bool). last_item (if b then o else Some p) behind) is ∙ last_fill (Some p) behind h
last_behind o (q ∷ before) behind p is h = last_behind (if being is_fill q then o else Some q) before behind p is h

-- the last item is answered
pub last_is : (items : List Placed) (p : Placed) → IsLast items p → last_item None items ≡ Some p
last_is items p l = ap (last_item None) l.items_are ∙ last_behind None l.before l.behind p l.itself l.filled

-- what is answered is the last item, or there is none
abbrev pub IsAnswered : Option Placed → List Placed → Option Placed → Type 0
IsAnswered o items answer =
    ((p : Placed) × (answer ≡ Some p) × IsLast items p) ⊎ ((answer ≡ o) × AllByRecursion (λ q. being is_fill q ≡ true) items)

one_more : (o : Option Placed) (q : Placed) (items : List Placed) (answer : Option Placed) (fill : Bool) → being is_fill q ≡ fill
    → IsAnswered (if fill then o else Some q) items answer → IsAnswered o (q ∷ items) answer
one_more o q items answer fill is (inl found) = inl (
  found.0,
  found.1,
  record {
    before = q ∷ found.2.before;
    behind = found.2.behind;
    items_are = ap (λ (ps : List Placed). q ∷ ps) found.2.items_are;
    itself = found.2.itself;
    filled = found.2.filled;
  },
)
one_more o q items answer true is (inr none) = inr (none.0, (is, none.1))
one_more o q items answer false is (inr none) = inl (q, none.0, record { before = []; behind = items; items_are = refl; itself = is; filled = none.1 })

pub answered : (o : Option Placed) (items : List Placed) → IsAnswered o items (last_item o items)
unfolding last_item
answered o [] = inr (refl, tt)
answered o (q ∷ items) =
    one_more o q items (last_item (if being is_fill q then o else Some q) items) (being is_fill q) refl (answered (if being is_fill q then o else Some q) items)

-- 1.
ends_at : (len stop : ℕ) (items : List Placed) → len ≤ stop → (last : Option Placed) → last_item None items ≡ last → IsAnswered None items last
    → ends_well len last ≡ None → EndsWithRandomIndex len stop items
ends_at len stop items whole None is a e = absurd (cc)
ends_at len stop items whole (Some p) is (inl found) e =
    let same : p ≡ found.0 = cc in
    record { whole = whole; last = p; is_last = rw same found.2; index = (goes (being is_random_index p) None len e).0 }
ends_at len stop items whole (Some p) is (inr none) e = absurd (let bad = none.0 in cc)

pub ends : (len stop : ℕ) (items : List Placed) → broken_1 stop len items ≡ None → EndsWithRandomIndex len stop items
ends len stop items e = elim (cases_lt stop len) [
  | inl lt ↦ let t : nat_lt stop len ≡ true = lt-ltb stop len lt in let bad = rw t at e in absurd (cc)
  | inr ge ↦
      let t : nat_lt stop len ≡ false = le-ltb stop len ge in
      ends_at len stop items ge (last_item None items) refl (answered None items) (rw t at e)
]

pub ends_back : (len stop : ℕ) (items : List Placed) → EndsWithRandomIndex len stop items → broken_1 stop len items ≡ None
ends_back len stop items k =
    let t : nat_lt stop len ≡ false = le-ltb stop len k.whole in
    rw (t, last_is items k.last k.is_last) (goes_back (being is_random_index k.last) None len k.index refl)

-- 2.
matched : (entries : List PackEntry) (all : List Part) → entries_match (Some entries) all ≡ true → entries ≡ map entry_of all
matched [] [] e = refl
matched [] (part ∷ all) e = absurd (cc)
matched (entry ∷ entries) [] e = absurd (cc)
matched (entry ∷ entries) (part ∷ all) e =
    let both = and_parts (entry.body_sid == part.pack.body_sid && entry.at == part.at) (entries_match (Some entries) all) e in
    let own = and_parts (entry.body_sid == part.pack.body_sid) (entry.at == part.at) both.0 in
    let sid = eqb-true entry.body_sid part.pack.body_sid own.0 in
    let at = eqb-true entry.at part.at own.1 in
    let rest = matched entries all both.1 in
    λ i. record { body_sid = sid i; at = at i } ∷ rest i

match : (all : List Part) → entries_match (Some (map entry_of all)) all ≡ true
match [] = refl
match (part ∷ all) =
    and_from (part.pack.body_sid == part.pack.body_sid && part.at == part.at) (entries_match (Some (map entry_of all)) all)
    (and_from (part.pack.body_sid == part.pack.body_sid) (part.at == part.at) (eq-eqb part.pack.body_sid part.pack.body_sid refl)
    (eq-eqb part.at part.at refl)) (match all)

pub match_option : (entries : Option (List PackEntry)) (all : List Part) → entries_match entries all ≡ true → entries ≡ Some (map entry_of all)
match_option None all e = absurd (cc)
match_option (Some entries) all e = ap (λ (xs : List PackEntry). Some xs) (matched entries all e)

pub match_back : (entries : Option (List PackEntry)) (all : List Part) → entries ≡ Some (map entry_of all) → entries_match entries all ≡ true
match_back entries all e = ap (λ (o : Option (List PackEntry)). entries_match o all) e ∙ match all

pub named : (items : List Placed) (all : List Part) → broken_2 items all ≡ None → NamesPartitions items all
named items all e p l =
    let f : names_parts all (Some p) ≡ None = ap (names_parts all) (sym (last_is items p l)) ∙ e in
    match_option (entries_of p.item) all (goes (entries_match (entries_of p.item) all) None p.at f).0

named_by : (items : List Placed) (all : List Part) → NamesPartitions items all → (last : Option Placed) → IsAnswered None items last
    → names_parts all last ≡ None
named_by items all k None a = refl
named_by items all k (Some p) (inl found) =
    let same : p ≡ found.0 = cc in
    let l : IsLast items p = rw same found.2 in
    let m : entries_match (entries_of p.item) all ≡ true = rw (k p l) (match all) in
    goes_back (entries_match (entries_of p.item) all) None p.at m refl
named_by items all k (Some p) (inr none) = absurd (let bad = none.0 in cc)

pub named_back : (items : List Placed) (all : List Part) → NamesPartitions items all → broken_2 items all ≡ None
named_back items all k = named_by items all k (last_item None items) (answered None items)

-- Items at their places, whatever they are.
use Rattle.std.proofs.Common.{◌≡◌, ℕ, ◌+◌, Bool, true, false, cond, List, [], ◌∷◌, ◌++◌, length, refl, ap, ◌∙◌, arith}
use Rattle.std.proofs.Common.{length-append}
use Rattle.std.specs.Prelude.{filter}
use Rattle.std.specs.List.{flat_map, AllByRecursion}
use Rattle.klv.specs.Items.{Item, spelled}
use Rattle.mxf_op1a.specs.Contents.{Content, Placed, content_of, placed_from}
use Rattle.mxf_op1a.specs.Partitions.{being, up_to, from_first}

-- an item at a place
abbrev pub placed : ℕ → Item → Placed
placed at item = record { at = at; item = item }

-- bytes of items
abbrev pub bytes_of : List Item → ℕ
bytes_of items = length (flat_map spelled items)

-- each item is this
abbrev pub AreAll : Content → List Item → Type 0
AreAll content items = AllByRecursion (λ item. content_of item ≡ content) items

-- no item keeps a test
abbrev pub AreNone : (Content → Bool) → List Item → Type 0
AreNone test items = AllByRecursion (λ item. test (content_of item) ≡ false) items

-- each item keeps it
abbrev pub AreEach : (Content → Bool) → List Item → Type 0
AreEach test items = AllByRecursion (λ item. test (content_of item) ≡ true) items

pub all_none : (test : Content → Bool) (content : Content) (items : List Item) → test content ≡ false → AreAll content items → AreNone test items
all_none test content [] not_so h = tt
all_none test content (item ∷ items) not_so h = (ap test h.0 ∙ not_so, all_none test content items not_so h.1)

pub all_each : (test : Content → Bool) (content : Content) (items : List Item) → test content ≡ true → AreAll content items → AreEach test items
all_each test content [] is h = tt
all_each test content (item ∷ items) is h = (ap test h.0 ∙ is, all_each test content items is h.1)

pub none_append : (test : Content → Bool) (xs ys : List Item) → AreNone test xs → AreNone test ys → AreNone test (xs ++ ys)
none_append test [] ys h k = k
none_append test (x ∷ xs) ys h k = (h.0, none_append test xs ys h.1 k)

-- items behind others
pub placed_append : (at : ℕ) (xs ys : List Item) → placed_from at (xs ++ ys) ≡ placed_from at xs ++ placed_from (at + bytes_of xs) ys
unfolding placed_from
placed_append at [] ys = ap (λ (n : ℕ). placed_from n ys) (omega arith)
placed_append at (x ∷ xs) ys =
    let sum : (at + length (spelled x)) + bytes_of xs ≡ at + bytes_of (x ∷ xs) = omega (arith, length-append (spelled x) (flat_map spelled xs)) in
    ap (λ (ps : List Placed). placed at x ∷ ps) (placed_append (at + length (spelled x)) xs ys)
    ∙ ap (λ (n : ℕ). placed at x ∷ (placed_from (at + length (spelled x)) xs ++ placed_from n ys)) sum

pub placed_first : (at : ℕ) (x : Item) (xs : List Item) → placed_from at (x ∷ xs) ≡ placed at x ∷ placed_from (at + length (spelled x)) xs
unfolding placed_from
placed_first at x xs = refl

-- a filter over joined items, over those that it keeps and those that it doesn't
pub filter_append : (test : Placed → Bool) (xs ys : List Placed) → filter test (xs ++ ys) ≡ filter test xs ++ filter test ys
filter_append test [] ys = refl
filter_append test (x ∷ xs) ys = elim (test x) as (λ (b : Bool). cond b (x ∷ filter test (xs ++ ys)) (filter test (xs ++ ys))
    ≡ cond b (x ∷ filter test xs) (filter test xs) ++ filter test ys) [
      | true ↦ ap (λ (ps : List Placed). x ∷ ps) (filter_append test xs ys)
      | false ↦ filter_append test xs ys
    ]

pub filter_none : (test : Content → Bool) (at : ℕ) (items : List Item) → AreNone test items → filter (being test) (placed_from at items) ≡ []
unfolding placed_from
filter_none test at [] h = refl
filter_none test at (item ∷ items) h = rw h.0 (filter_none test (at + length (spelled item)) items h.1)

pub filter_each : (test : Content → Bool) (at : ℕ) (items : List Item) → AreEach test items → filter (being test) (placed_from at items) ≡ placed_from at items
unfolding placed_from
filter_each test at [] h = refl
filter_each test at (item ∷ items) h = rw h.0 (ap (λ (ps : List Placed). placed at item ∷ ps) (filter_each test (at + length (spelled item)) items h.1))

-- the first that keeps a test isn't among those that don't
pub from_past : (test : Content → Bool) (at : ℕ) (items : List Item) (ps : List Placed) → AreNone test items
    → from_first test (placed_from at items ++ ps) ≡ from_first test ps
unfolding placed_from from_first
from_past test at [] ps h = refl
from_past test at (item ∷ items) ps h = rw h.0 (from_past test (at + length (spelled item)) items ps h.1)

pub from_here : (test : Content → Bool) (p : Placed) (ps : List Placed) → test (content_of p.item) ≡ true → from_first test (p ∷ ps) ≡ p ∷ ps
unfolding from_first
from_here test p ps h = rw h refl

pub from_next : (test : Content → Bool) (p : Placed) (ps : List Placed) → test (content_of p.item) ≡ false → from_first test (p ∷ ps) ≡ from_first test ps
unfolding from_first
from_next test p ps h = rw h refl

pub from_none : (test : Content → Bool) → from_first test [] ≡ []
unfolding from_first
from_none test = refl

pub up_past : (test : Content → Bool) (at : ℕ) (items : List Item) (ps : List Placed) → AreNone test items
    → up_to test (placed_from at items ++ ps) ≡ placed_from at items ++ up_to test ps
unfolding placed_from up_to
up_past test at [] ps h = refl
up_past test at (item ∷ items) ps h =
    rw h.0 (ap (λ (qs : List Placed). placed at item ∷ qs) (up_past test (at + length (spelled item)) items ps h.1))

pub up_here : (test : Content → Bool) (p : Placed) (ps : List Placed) → test (content_of p.item) ≡ true → up_to test (p ∷ ps) ≡ []
unfolding up_to
up_here test p ps h = rw h refl

pub up_next : (test : Content → Bool) (p : Placed) (ps : List Placed) → test (content_of p.item) ≡ false → up_to test (p ∷ ps) ≡ p ∷ up_to test ps
unfolding up_to
up_next test p ps h = rw h refl

pub up_none : (test : Content → Bool) → up_to test [] ≡ []
unfolding up_to
up_none test = refl

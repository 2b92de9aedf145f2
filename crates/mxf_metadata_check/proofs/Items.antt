-- The items of a set's value, from a place on.
use Rattle.std.proofs.Common.{◌≡◌, ℕ, ◌+◌, ◌<◌, ◌≤◌, ◌&&◌, Bool, true, false, List, [], ◌∷◌, length, take, drop, Some, None, refl, ap, ap₂, ◌∙◌, arith}
use Rattle.std.proofs.lemmas.List.{length-drop, length-take-le, drop-drop, drop_all}
use Rattle.std.specs.List.{list_all}
use Rattle.local_sets.specs.Sets.{RawItem}
use Rattle.local_sets.specs.Reads.{first_item, items_in, rest_in, item_len, raw_at}
use Rattle.local_sets.specs.laws.Reads.{items_next, rest_next, no_items, no_rest, first_short}
use Rattle.mxf_op1a.specs.Metadata.{is_empty}
use Rattle.mxf_metadata_check.specs.inner.Firsts.{all_whole}
use Rattle.local_sets.specs.declared.reading.ItemPlace.{ItemPlace}

-- bytes of the item at a place
pub place_len : (value : List ℕ) (place : ItemPlace) → place.value_at + place.value_len ≤ length value → item_len (raw_at value place) ≡ 4 + place.value_len
place_len value place h =
    let long = length-drop place.value_at value in
    let taken : length (take place.value_len (drop place.value_at value)) ≡ place.value_len = length-take-le place.value_len (drop place.value_at value) (omega arith) in
    omega (arith, taken)

-- behind an item stand those from its end on
moved : (value : List ℕ) (at : ℕ) (place : ItemPlace) → place.value_at ≡ at + 4 → place.value_at + place.value_len ≤ length value
    → drop (item_len (raw_at value place)) (drop at value) ≡ drop (place.value_at + place.value_len) value
moved value at place p w =
    let len = place_len value place w in
    drop-drop (item_len (raw_at value place)) at value ∙ ap (λ (n : ℕ). drop n value) (omega (arith, len, p))

pub item_first : (value : List ℕ) (at : ℕ) (place : ItemPlace) → first_item (drop at value) ≡ Some (raw_at value place)
    → place.value_at ≡ at + 4 → place.value_at + place.value_len ≤ length value
    → items_in (drop at value) ≡ raw_at value place ∷ items_in (drop (place.value_at + place.value_len) value)
item_first value at place e p w =
    items_next (drop at value) (raw_at value place) e
    ∙ ap (λ (xs : List ℕ). raw_at value place ∷ items_in xs) (moved value at place p w)

pub rest_first : (value : List ℕ) (at : ℕ) (place : ItemPlace) → first_item (drop at value) ≡ Some (raw_at value place)
    → place.value_at ≡ at + 4 → place.value_at + place.value_len ≤ length value
    → rest_in (drop at value) ≡ rest_in (drop (place.value_at + place.value_len) value)
rest_first value at place e p w = rest_next (drop at value) (raw_at value place) e ∙ ap rest_in (moved value at place p w)

pub none_first : (value : List ℕ) (at : ℕ) → first_item (drop at value) ≡ None → items_in (drop at value) ≡ []
none_first value at e = no_items (length (drop at value)) (drop at value) e

pub rest_left : (value : List ℕ) (at : ℕ) → first_item (drop at value) ≡ None → rest_in (drop at value) ≡ drop at value
rest_left value at e = no_rest (length (drop at value)) (drop at value) e

pub none_past : (value : List ℕ) (at : ℕ) → length value ≤ at → items_in (drop at value) ≡ []
none_past value at past = none_first value at (ap first_item (drop_all at value past) ∙ first_short [] (omega arith))

pub rest_past : (value : List ℕ) (at : ℕ) → length value ≤ at → rest_in (drop at value) ≡ []
rest_past value at past =
    rest_left value at (ap first_item (drop_all at value past) ∙ first_short [] (omega arith)) ∙ drop_all at value past

-- a test of each item
all_by : (test : RawItem → Bool) (items : List RawItem) (item : RawItem) (rest : List RawItem) (b : Bool) → items ≡ item ∷ rest → test item ≡ b
    → list_all test items ≡ (b && list_all test rest)
all_by test items item rest b e t = ap (list_all test) e ∙ ap (λ (x : Bool). x && list_all test rest) t

pub all_next : (test : RawItem → Bool) (value : List ℕ) (at : ℕ) (place : ItemPlace) → first_item (drop at value) ≡ Some (raw_at value place)
    → place.value_at ≡ at + 4 → place.value_at + place.value_len ≤ length value → test (raw_at value place) ≡ true
    → list_all test (items_in (drop at value)) ≡ list_all test (items_in (drop (place.value_at + place.value_len) value))
all_next test value at place e p w t = all_by test _ (raw_at value place) _ true (item_first value at place e p w) t

pub all_fails : (test : RawItem → Bool) (value : List ℕ) (at : ℕ) (place : ItemPlace) → first_item (drop at value) ≡ Some (raw_at value place)
    → place.value_at ≡ at + 4 → place.value_at + place.value_len ≤ length value → test (raw_at value place) ≡ false
    → list_all test (items_in (drop at value)) ≡ false
all_fails test value at place e p w t = all_by test _ (raw_at value place) _ false (item_first value at place e p w) t

pub all_none : (test : RawItem → Bool) (value : List ℕ) (at : ℕ) → first_item (drop at value) ≡ None → list_all test (items_in (drop at value)) ≡ true
all_none test value at e = ap (list_all test) (none_first value at e)

pub all_past : (test : RawItem → Bool) (value : List ℕ) (at : ℕ) → length value ≤ at → list_all test (items_in (drop at value)) ≡ true
all_past test value at past = ap (list_all test) (none_past value at past)

-- whole items that keep a test, from a place on
whole_step : (test : RawItem → Bool) (value : List ℕ) (at : ℕ) (place : ItemPlace) (b : Bool) → first_item (drop at value) ≡ Some (raw_at value place)
    → place.value_at ≡ at + 4 → place.value_at + place.value_len ≤ length value → test (raw_at value place) ≡ b
    → all_whole test (drop at value)
    ≡ (is_empty (rest_in (drop (place.value_at + place.value_len) value)) && (b && list_all test (items_in (drop (place.value_at + place.value_len) value))))
whole_step test value at place b e p w t =
    ap₂ (λ (xs : List ℕ) (c : Bool). is_empty xs && c) (rest_first value at place e p w) (all_by test _ (raw_at value place) _ b (item_first value at place e p w) t)

never : (a : Bool) → (a && false) ≡ false
never true = refl
never false = refl

pub whole_next : (test : RawItem → Bool) (value : List ℕ) (at : ℕ) (place : ItemPlace) → first_item (drop at value) ≡ Some (raw_at value place)
    → place.value_at ≡ at + 4 → place.value_at + place.value_len ≤ length value → test (raw_at value place) ≡ true
    → all_whole test (drop at value) ≡ all_whole test (drop (place.value_at + place.value_len) value)
whole_next test value at place e p w t = whole_step test value at place true e p w t

pub whole_fails : (test : RawItem → Bool) (value : List ℕ) (at : ℕ) (place : ItemPlace) → first_item (drop at value) ≡ Some (raw_at value place)
    → place.value_at ≡ at + 4 → place.value_at + place.value_len ≤ length value → test (raw_at value place) ≡ false
    → all_whole test (drop at value) ≡ false
whole_fails test value at place e p w t =
    whole_step test value at place false e p w t ∙ never (is_empty (rest_in (drop (place.value_at + place.value_len) value)))

not_empty : (xs : List ℕ) → 0 < length xs → is_empty xs ≡ false
not_empty [] h = absurd (omega arith)
not_empty (x ∷ xs) h = refl

pub whole_cut : (test : RawItem → Bool) (value : List ℕ) (at : ℕ) → at < length value → first_item (drop at value) ≡ None → all_whole test (drop at value) ≡ false
whole_cut test value at lt e =
    let long = length-drop at value in
    ap (λ (b : Bool). b && list_all test (items_in (drop at value))) (ap is_empty (rest_left value at e) ∙ not_empty (drop at value) (omega (arith, long)))

pub whole_past : (test : RawItem → Bool) (value : List ℕ) (at : ℕ) → length value ≤ at → all_whole test (drop at value) ≡ true
whole_past test value at past =
    ap₂ (λ (xs : List ℕ) (b : Bool). is_empty xs && b) (rest_past value at past) (all_past test value at past)

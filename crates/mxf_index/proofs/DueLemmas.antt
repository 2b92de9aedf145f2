-- Items that are due, one after the other.
use Rattle.std.proofs.Common.{◌≡◌, ℕ, zero, suc, ◌+◌, ◌*◌, ◌<◌, List, [], ◌∷◌, ◌++◌, Option, Some, None, length, take, get_or, refl, sym, ap, ap₂}
use Rattle.std.proofs.Common.{◌∙◌, ◌==◌, true, false, arith}
use Rattle.std.proofs.lemmas.Bool.{ne_eqb, eq-eqb}
use Rattle.std.proofs.lemmas.List.{take_more}
use Rattle.std.specs.Option.{option_or}
use Rattle.local_sets.specs.declared.set.TheConstants.{ITEM_HEAD_LEN}
use Rattle.mxf_index.specs.Dues.{end_fault, first_fault, size_of, due, due_items, opening_dues}
use Rattle.mxf_index.specs.Reads.{count_in}
use Rattle.mxf_index.specs.inner.Items.{closing_due, dues_len, entries_due, fault_at, items_fault, rest_fault}
use Rattle.mxf_index.specs.declared.due.Due.{Due}
use Rattle.mxf_index.specs.declared.fault.SegmentFault.{SegmentFault}
use Rattle.mxf_index.specs.declared.fault.SegmentFault.TheVariants.{SegmentField}

-- no fault, or no fault
pub or_none : (x : Option SegmentFault) → option_or x None ≡ x
or_none None = refl
or_none (Some fault) = refl

-- the first of three
pub or_or : (x y z : Option SegmentFault) → option_or x (option_or y z) ≡ option_or (option_or x y) z
or_or None y z = refl
or_or (Some fault) y z = refl

-- neither of two
pub neither : (x y : Option SegmentFault) → option_or x y ≡ None → (x ≡ None) × (y ≡ None)
neither None y e = (refl, e)
neither (Some fault) y e = absurd (cc)

-- the place behind an item, then one behind more
behind : (at size more : ℕ) → at + 4 + size + more ≡ at + (4 + size + more)
behind at size more = omega arith

-- items in two parts
pub first_fault-append : (value : List ℕ) (at : ℕ) (xs ys : List Due)
    → first_fault value at (xs ++ ys) ≡ option_or (first_fault value at xs) (first_fault value (at + dues_len xs) ys)
unfolding first_fault dues_len
first_fault-append value at [] ys =
    let same : at ≡ at + 0 = omega arith in
    ap (λ (n : ℕ). first_fault value n ys) same
first_fault-append value at (x ∷ xs) ys =
    let next : ℕ = at + 4 + size_of x.holds in
    ap (option_or (fault_at value at x)) (first_fault-append value next xs ys)
    ∙ or_or (fault_at value at x) (first_fault value next xs) (first_fault value (next + dues_len xs) ys)
    ∙ ap (λ (n : ℕ). option_or (option_or (fault_at value at x) (first_fault value next xs)) (first_fault value n ys)) (behind at (size_of x.holds)
    (dues_len xs))

-- their bytes
pub dues_len-append : (xs ys : List Due) → dues_len (xs ++ ys) ≡ dues_len xs + dues_len ys
unfolding dues_len
dues_len-append [] ys = omega arith
dues_len-append (x ∷ xs) ys = let rest = dues_len-append xs ys in omega arith

-- one item
pub alone : (value : List ℕ) (at : ℕ) (due : Due) → first_fault value at (due ∷ []) ≡ fault_at value at due
unfolding first_fault
alone value at due = or_none (fault_at value at due)

-- one item alone has its bytes
alone_len : (due : Due) → dues_len (due ∷ []) ≡ 4 + size_of due.holds
unfolding dues_len
alone_len due = omega arith

-- one item more, where those before and it are there
pub one_more : (value : List ℕ) (dues : List Due) (k end next : ℕ) (d : Due) → k < length dues → first_fault value 0 (take k dues) ≡ None
    → end ≡ dues_len (take k dues) → fault_at value end (get_or dues k d) ≡ None → next ≡ end + ITEM_HEAD_LEN + size_of (get_or dues k d).holds
    → (first_fault value 0 (take (k + 1) dues) ≡ None) × (next ≡ dues_len (take (k + 1) dues))
one_more value dues k end next d less before place there beyond =
    let due : Due = get_or dues k d in
    let more : take (k + 1) dues ≡ take k dues ++ due ∷ [] = take_more dues k d less in
    let at : 0 + dues_len (take k dues) ≡ end = omega (arith, place) in (
      ap (first_fault value 0) more
          ∙ first_fault-append value 0 (take k dues) (due ∷ [])
          ∙ ap₂ option_or before (ap (λ (n : ℕ). first_fault value n (due ∷ [])) at ∙ alone value end due ∙ there),
      omega (arith, beyond, place, ap dues_len more, dues_len-append (take k dues) (due ∷ []), alone_len due),
    )

-- the first item that isn't there
from : (value : List ℕ) (at : ℕ) (dues : List Due) (k : ℕ) (d : Due) (fault : SegmentFault) → k < length dues → first_fault value at (take k dues) ≡ None
    → fault_at value (at + dues_len (take k dues)) (get_or dues k d) ≡ Some fault → first_fault value at dues ≡ Some fault
unfolding first_fault dues_len
from value at [] k d fault less before wrong = absurd (omega arith)
from value at (x ∷ xs) zero d fault less before wrong =
    let same : at + 0 ≡ at = omega arith in
    let here : fault_at value at x ≡ Some fault = ap (λ (n : ℕ). fault_at value n x) (sym same) ∙ wrong in
    ap (λ (found : Option SegmentFault). option_or found (first_fault value (at + 4 + size_of x.holds) xs)) here
from value at (x ∷ xs) (suc k) d fault less before wrong =
    let next : ℕ = at + 4 + size_of x.holds in
    let both = neither (fault_at value at x) (first_fault value next (take k xs)) before in
    let place : next + dues_len (take k xs) ≡ at + (4 + size_of x.holds + dues_len (take k xs)) = behind at (size_of x.holds) (dues_len (take k xs)) in
    ap (λ (found : Option SegmentFault). option_or found (first_fault value next xs)) both.0
    ∙ from value next xs k d fault (omega arith) both.1 (ap (λ (n : ℕ). fault_at value n (get_or xs k d)) place ∙ wrong)

-- it is the fault of all
pub stops : (value : List ℕ) (dues : List Due) (k end : ℕ) (d : Due) (fault : SegmentFault) → k < length dues → first_fault value 0 (take k dues) ≡ None
    → end ≡ dues_len (take k dues) → fault_at value end (get_or dues k d) ≡ Some fault → first_fault value 0 dues ≡ Some fault
stops value dues k end d fault less before place wrong =
    let at : end ≡ 0 + dues_len (take k dues) = omega (arith, place) in
    from value 0 dues k d fault less before (ap (λ (n : ℕ). fault_at value n (get_or dues k d)) (sym at) ∙ wrong)

-- the items up to the entries have 103 bytes
pub opening_len : dues_len opening_dues ≡ 103
unfolding dues_len opening_dues size_of
opening_len = refl

-- the entries have 11 bytes each
pub entries_len : (at count : ℕ) → at + 4 + size_of (entries_due count).holds ≡ at + 12 + 11 * count
unfolding size_of
entries_len at count = omega arith

-- what stands behind them has 5
pub closing_len : (at : ℕ) → at + 4 + size_of closing_due.holds ≡ at + 5
unfolding size_of
closing_len at = omega arith

-- two items
both : (value : List ℕ) (count : ℕ) → first_fault value 103 (entries_due count ∷ closing_due ∷ [])
    ≡ option_or (fault_at value 103 (entries_due count)) (fault_at value (115 + 11 * count) closing_due)
unfolding first_fault
both value count =
    ap (λ (n : ℕ). option_or (fault_at value 103 (entries_due count)) (first_fault value n (closing_due ∷ []))) (entries_len 103 count)
    ∙ ap (option_or (fault_at value 103 (entries_due count))) (alone value (115 + 11 * count) closing_due)

-- all items in three parts
in_parts : (value : List ℕ) (count : ℕ) → first_fault value 0 (due_items count)
    ≡ option_or (first_fault value 0 opening_dues) (option_or (fault_at value 103 (entries_due count)) (fault_at value (115 + 11 * count) closing_due))
unfolding first_fault
in_parts value count =
    let two : List Due = entries_due count ∷ closing_due ∷ [] in
    let at : 0 + dues_len opening_dues ≡ 103 = omega (arith, opening_len) in
    first_fault-append value 0 opening_dues two
    ∙ ap (λ (n : ℕ). option_or (first_fault value 0 opening_dues) (first_fault value n two)) at
    ∙ ap (option_or (first_fault value 0 opening_dues)) (both value count)

-- and what stands behind them
pub items_are : (value : List ℕ) → items_fault value ≡ option_or (first_fault value 0 opening_dues) (rest_fault value (count_in value))
unfolding items_fault rest_fault
items_are value =
    let count : ℕ = count_in value in
    let opening = first_fault value 0 opening_dues in
    let entries = fault_at value 103 (entries_due count) in
    let closing = fault_at value (115 + 11 * count) closing_due in
    let end = end_fault value (120 + 11 * count) in
    ap (λ (found : Option SegmentFault). option_or found end) (in_parts value count)
    ∙ sym (or_or opening (option_or entries closing) end)
    ∙ ap (option_or opening) (sym (or_or entries closing end))

-- the entries aren't there
pub rest_entries : (value : List ℕ) (count : ℕ) (entries : Due) (fault : SegmentFault) → entries ≡ entries_due count
    → fault_at value 103 entries ≡ Some fault → rest_fault value count ≡ Some fault
unfolding rest_fault
rest_entries value count entries fault is wrong =
    let here : fault_at value 103 (entries_due count) ≡ Some fault = ap (fault_at value 103) (sym is) ∙ wrong in
    ap (λ (x : Option SegmentFault). option_or x (option_or (fault_at value (115 + 11 * count) closing_due) (end_fault value (120 + 11 * count)))) here

-- where the entries end
entries_end : (count at : ℕ) (entries : Due) → entries ≡ entries_due count → at ≡ 107 + size_of entries.holds → at ≡ 115 + 11 * count
entries_end count at entries is place =
    let size : size_of entries.holds ≡ size_of (entries_due count).holds = ap (λ (d : Due). size_of d.holds) is in
    omega (arith, place, size, entries_len 103 count)

-- what stands behind them isn't there
pub rest_closing : (value : List ℕ) (count at : ℕ) (entries closing : Due) (fault : SegmentFault) → entries ≡ entries_due count → closing ≡ closing_due
    → fault_at value 103 entries ≡ None → at ≡ 107 + size_of entries.holds → fault_at value at closing ≡ Some fault → rest_fault value count ≡ Some fault
unfolding rest_fault
rest_closing value count at entries closing fault is also there place wrong =
    let here : fault_at value 103 (entries_due count) ≡ None = ap (fault_at value 103) (sym is) ∙ there in
    let next : at ≡ 115 + 11 * count = entries_end count at entries is place in
    let then : fault_at value (115 + 11 * count) closing_due ≡ Some fault = ap₂ (fault_at value) (sym next) (sym also) ∙ wrong in
    ap₂ (λ (x y : Option SegmentFault). option_or x (option_or y (end_fault value (120 + 11 * count)))) here then

-- both are there, and where they end
pub rest_items : (value : List ℕ) (count at end : ℕ) (entries closing : Due) → entries ≡ entries_due count → closing ≡ closing_due
    → fault_at value 103 entries ≡ None → at ≡ 107 + size_of entries.holds → fault_at value at closing ≡ None → end ≡ at + 4 + size_of closing.holds
    → (rest_fault value count ≡ end_fault value end) × (end ≡ 120 + 11 * count)
unfolding rest_fault
rest_items value count at end entries closing is also there place then beyond =
    let here : fault_at value 103 (entries_due count) ≡ None = ap (fault_at value 103) (sym is) ∙ there in
    let next : at ≡ 115 + 11 * count = entries_end count at entries is place in
    let last : fault_at value (115 + 11 * count) closing_due ≡ None = ap₂ (fault_at value) (sym next) (sym also) ∙ then in
    let size : size_of closing.holds ≡ size_of closing_due.holds = ap (λ (d : Due). size_of d.holds) also in
    let ends : end ≡ 120 + 11 * count = omega (arith, beyond, next, size, closing_len at) in
    (ap₂ (λ (x y : Option SegmentFault). option_or x (option_or y (end_fault value (120 + 11 * count)))) here last ∙ ap (end_fault value) (sym ends), ends)

-- bytes stand behind the items
pub end_wrong : (value : List ℕ) (end : ℕ) → ((length value ≡ end) → ⊥) → end_fault value end ≡ Some (SegmentField end 0)
end_wrong value end other =
    let test : (length value == end) ≡ false = ne_eqb (length value) end other in
    rw test refl

-- none do
pub end_right : (value : List ℕ) (end : ℕ) → length value ≡ end → end_fault value end ≡ None
end_right value end same =
    let test : (length value == end) ≡ true = eq-eqb (length value) end same in
    rw test refl

-- the first rule is broken before the entries
pub items_opening : (value : List ℕ) (fault : SegmentFault) → first_fault value 0 opening_dues ≡ Some fault → items_fault value ≡ Some fault
items_opening value fault e =
    items_are value ∙ ap (λ (x : Option SegmentFault). option_or x (rest_fault value (count_in value))) e

-- or no rule is
pub items_rest : (value : List ℕ) (count : ℕ) → first_fault value 0 opening_dues ≡ None → count ≡ count_in value → items_fault value ≡ rest_fault value count
items_rest value count e n =
    items_are value ∙ ap (λ (x : Option SegmentFault). option_or x (rest_fault value (count_in value))) e ∙ ap (rest_fault value) (sym n)

-- What is wrong with the items of a set, from a place of its value on.
use Rattle.std.proofs.Common.{◌≡◌, ℕ, zero, suc, ◌+◌, ◌<◌, ◌≤◌, ◌==◌, Bool, true, false, cond, List, [], ◌∷◌, length, get_or, take, drop, Option}
use Rattle.std.proofs.Common.{Some, None, refl, sym, ap, ap₂, ◌∙◌, arith}
use Rattle.std.proofs.lemmas.Bool.{eq-eqb, ne_eqb}
use Rattle.std.proofs.lemmas.List.{length-drop, length-take-le, drop-drop, drop_all}
use Rattle.std.proofs.Math.Seq.{drop-cons}
use Rattle.std.specs.List.{AllByRecursion}
use Rattle.std.specs.Option.{option_or}
use Rattle.local_sets.specs.Sets.{RawItem}
use Rattle.local_sets.specs.Reads.{first_item, items_in, rest_in, item_len, raw_at}
use Rattle.local_sets.specs.laws.Reads.{items_next, rest_next, no_items, no_rest, first_short}
use Rattle.local_sets.specs.declared.reading.ItemPlace.{ItemPlace}
use Rattle.mxf_metadata.specs.declared.tags.Tag.{Tag}
use Rattle.mxf_metadata_reader.specs.Faults.{cut_fault, cut_tag, item_fault, items_fault, sets_fault}
use Rattle.mxf_metadata_reader.specs.PlacedSets.{PlacedSet}
use Rattle.mxf_metadata_reader.specs.Sizes.{size_among}
use Rattle.mxf_metadata_reader.specs.inner.Places.{placed, sets_at}
use Rattle.mxf_metadata_reader.specs.declared.fault.SetFault.{SetFault}
use Rattle.mxf_metadata_reader.specs.declared.fault.SetFault.TheVariants.{SetCut}
use Rattle.mxf_metadata_reader.specs.declared.outline.SetPlace.{SetPlace}

-- what holds of each of a list holds of the one at a place
pub all_at : {A : Type 0} (P : A → Type 0) (xs : List A) (i : ℕ) (d : A) → AllByRecursion P xs → i < length xs → P (get_or xs i d)
all_at P [] i d h lt = absurd (omega arith)
all_at P (x ∷ xs) zero d h lt = h.0
all_at P (x ∷ xs) (suc i) d h lt = all_at P xs i d h.1 (omega arith)

-- a row of the table of tags and those behind it
row_step : (row : Tag) (rows : List Tag) (tag : ℕ) → size_among (row ∷ rows) tag ≡ cond (row.tag == tag) (Some row.size) (size_among rows tag)
unfolding size_among
row_step row rows tag = refl

pub row_found : (rows : List Tag) (i tag : ℕ) (d : Tag) → i < length rows → (get_or rows i d).tag ≡ tag
    → size_among (drop i rows) tag ≡ Some (get_or rows i d).size
row_found rows i tag d lt e =
    let row : Tag = get_or rows i d in
    let t : (row.tag == tag) ≡ true = eq-eqb row.tag tag e in
    ap (λ (xs : List Tag). size_among xs tag) (drop-cons rows i d lt) ∙ row_step row (drop (suc i) rows) tag
    ∙ ap (λ (b : Bool). cond b (Some row.size) (size_among (drop (suc i) rows) tag)) t

pub row_other : (rows : List Tag) (i tag : ℕ) (d : Tag) → i < length rows → ((get_or rows i d).tag ≡ tag → ⊥)
    → size_among (drop i rows) tag ≡ size_among (drop (i + 1) rows) tag
row_other rows i tag d lt ne =
    let row : Tag = get_or rows i d in
    let t : (row.tag == tag) ≡ false = ne_eqb row.tag tag ne in
    let next : suc i ≡ i + 1 = omega arith in
    ap (λ (xs : List Tag). size_among xs tag) (drop-cons rows i d lt) ∙ row_step row (drop (suc i) rows) tag
    ∙ ap (λ (b : Bool). cond b (Some row.size) (size_among (drop (suc i) rows) tag)) t
    ∙ ap (λ (n : ℕ). size_among (drop n rows) tag) next

pub rows_end : (rows : List Tag) (i tag : ℕ) → length rows ≤ i → size_among (drop i rows) tag ≡ None
unfolding size_among
rows_end rows i tag past = ap (λ (xs : List Tag). size_among xs tag) (drop_all i rows past)

-- from a place of a value on
abbrev pub fault_from : List ℕ → List ℕ → ℕ → ℕ → Option SetFault
fault_from tags value start at = items_fault tags (start + at) (items_in (drop at value)) (rest_in (drop at value))

item_step : (tags : List ℕ) (at : ℕ) (item : RawItem) (items : List RawItem) (rest : List ℕ)
    → items_fault tags at (item ∷ items) rest ≡ option_or (item_fault tags at item) (items_fault tags (at + item_len item) items rest)
unfolding items_fault
item_step tags at item items rest = refl

none_step : (tags : List ℕ) (at : ℕ) (rest : List ℕ) → items_fault tags at [] rest ≡ cut_fault at rest
unfolding items_fault
none_step tags at rest = refl

-- bytes of the item at a place
pub place_len : (value : List ℕ) (place : ItemPlace) → place.value_at + place.value_len ≤ length value → item_len (raw_at value place) ≡ 4 + place.value_len
place_len value place h =
    let long = length-drop place.value_at value in
    let taken : length (take place.value_len (drop place.value_at value))
    ≡ place.value_len = length-take-le place.value_len (drop place.value_at value) (omega arith) in
    omega (arith, taken)

-- an item, and those behind it
pub part_step : (tags value : List ℕ) (start at : ℕ) (place : ItemPlace) → first_item (drop at value) ≡ Some (raw_at value place)
    → place.value_at ≡ at + 4 → place.value_at + place.value_len ≤ length value
    → fault_from tags value start at
    ≡ option_or (item_fault tags (start + at) (raw_at value place)) (fault_from tags value start (place.value_at + place.value_len))
part_step tags value start at place e p w =
    let item : RawItem = raw_at value place in
    let next : ℕ = place.value_at + place.value_len in
    let len = place_len value place w in
    let moved : drop (item_len item) (drop at value) ≡ drop next value = drop-drop (item_len item) at value
    ∙ ap (λ (n : ℕ). drop n value) (omega (arith, len, p)) in
    ap₂ (λ (items : List RawItem) (rest : List ℕ). items_fault tags (start + at) items rest) (items_next (drop at value) item e) (rest_next
    (drop at value) item e)
    ∙ item_step tags (start + at) item (items_in (drop (item_len item) (drop at value))) (rest_in (drop (item_len item) (drop at value)))
    ∙ ap₂ (λ (n : ℕ) (xs : List ℕ). option_or (item_fault tags (start + at) item) (items_fault tags n (items_in xs) (rest_in xs))) (omega (arith, len, p)) moved

-- which is right
pub part_next : (tags value : List ℕ) (start at : ℕ) (place : ItemPlace) → first_item (drop at value) ≡ Some (raw_at value place)
    → place.value_at ≡ at + 4 → place.value_at + place.value_len ≤ length value → item_fault tags (start + at) (raw_at value place) ≡ None
    → fault_from tags value start at ≡ fault_from tags value start (place.value_at + place.value_len)
part_next tags value start at place e p w none =
    part_step tags value start at place e p w
    ∙ ap (λ (o : Option SetFault). option_or o (fault_from tags value start (place.value_at + place.value_len))) none

-- or wrong
pub part_wrong : (tags value : List ℕ) (start at : ℕ) (place : ItemPlace) (fault : SetFault) → first_item (drop at value) ≡ Some (raw_at value place)
    → place.value_at ≡ at + 4 → place.value_at + place.value_len ≤ length value → item_fault tags (start + at) (raw_at value place) ≡ Some fault
    → fault_from tags value start at ≡ Some fault
part_wrong tags value start at place fault e p w some =
    part_step tags value start at place e p w
    ∙ ap (λ (o : Option SetFault). option_or o (fault_from tags value start (place.value_at + place.value_len))) some

cut_some : (at : ℕ) (rest : List ℕ) → 0 < length rest → cut_fault at rest ≡ Some (SetCut at (cut_tag rest))
cut_some at [] h = absurd (omega arith)
cut_some at (byte ∷ rest) h = refl

-- an item that is cut
pub part_cut : (tags value : List ℕ) (start at : ℕ) → at < length value → first_item (drop at value) ≡ None
    → fault_from tags value start at ≡ Some (SetCut (start + at) (cut_tag (drop at value)))
part_cut tags value start at lt none =
    let rest : List ℕ = drop at value in
    let long = length-drop at value in
    ap₂ (λ (items : List RawItem) (xs : List ℕ). items_fault tags (start + at) items xs) (no_items (length rest) rest none) (no_rest (length rest) rest none)
    ∙ none_step tags (start + at) rest ∙ cut_some (start + at) rest (omega (arith, long))

-- the value's end
pub part_end : (tags value : List ℕ) (start at : ℕ) → length value ≤ at → fault_from tags value start at ≡ None
part_end tags value start at past =
    let short : first_item [] ≡ None = first_short [] (omega arith) in
    ap (λ (xs : List ℕ). items_fault tags (start + at) (items_in xs) (rest_in xs)) (drop_all at value past)
    ∙ ap₂ (λ (items : List RawItem) (xs : List ℕ). items_fault tags (start + at) items xs) (no_items 0 [] short) (no_rest 0 [] short)
    ∙ none_step tags (start + at) []

-- the value's front
pub part_whole : (tags value : List ℕ) (start : ℕ) → items_fault tags start (items_in value) (rest_in value) ≡ fault_from tags value start 0
part_whole tags value start = ap (λ (at : ℕ). items_fault tags at (items_in value) (rest_in value)) (omega arith)

-- a set and those behind it
set_step : (tags : List ℕ) (one : PlacedSet) (sets : List PlacedSet)
    → sets_fault tags (one ∷ sets) ≡ option_or (items_fault tags one.at one.set.items one.set.rest) (sets_fault tags sets)
unfolding sets_fault
set_step tags one sets = refl

pub sets_step : (tags bytes : List ℕ) (sets : List SetPlace) (i : ℕ) (d : SetPlace) → i < length sets
    → sets_fault tags (sets_at bytes (drop i sets))
    ≡ option_or (items_fault tags (placed bytes (get_or sets i d)).at (placed bytes (get_or sets i d)).set.items (placed bytes (get_or sets i d)).set.rest)
    (sets_fault tags (sets_at bytes (drop (i + 1) sets)))
sets_step tags bytes sets i d lt =
    let one : PlacedSet = placed bytes (get_or sets i d) in
    let next : suc i ≡ i + 1 = omega arith in
    ap (λ (xs : List SetPlace). sets_fault tags (sets_at bytes xs)) (drop-cons sets i d lt)
    ∙ set_step tags one (sets_at bytes (drop (suc i) sets))
    ∙ ap (λ (n : ℕ). option_or (items_fault tags one.at one.set.items one.set.rest) (sets_fault tags (sets_at bytes (drop n sets)))) next

pub sets_end : (tags bytes : List ℕ) (sets : List SetPlace) (i : ℕ) → length sets ≤ i → sets_fault tags (sets_at bytes (drop i sets)) ≡ None
unfolding sets_fault
sets_end tags bytes sets i past = ap (λ (xs : List SetPlace). sets_fault tags (sets_at bytes xs)) (drop_all i sets past)

-- the items of the set at a place are those of its value
pub set_value_is : (tags bytes value : List ℕ) (place : SetPlace) → value ≡ take place.value_len (drop place.value_at bytes)
    → items_fault tags (placed bytes place).at (placed bytes place).set.items (placed bytes place).set.rest
    ≡ items_fault tags place.value_at (items_in value) (rest_in value)
set_value_is tags bytes value place e = ap (λ (xs : List ℕ). items_fault tags place.value_at (items_in xs) (rest_in xs)) (sym e)

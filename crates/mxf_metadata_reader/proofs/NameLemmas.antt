-- What is wrong with what a set names, from a place of its value on.
use Rattle.std.proofs.Common.{◌≡◌, ℕ, suc, ◌+◌, ◌<◌, ◌≤◌, List, [], ◌∷◌, length, get_or, take, drop, Option, Some, None, refl, sym, ap, ap₂, ◌∙◌, arith}
use Rattle.std.proofs.lemmas.List.{drop-drop, drop_all}
use Rattle.std.proofs.Math.Seq.{drop-cons}
use Rattle.std.specs.Option.{option_or}
use Rattle.local_sets.specs.Sets.{RawItem}
use Rattle.local_sets.specs.Reads.{first_item, items_in, item_len, raw_at}
use Rattle.local_sets.specs.laws.Reads.{items_next, no_items, first_short}
use Rattle.local_sets.specs.declared.reading.ItemPlace.{ItemPlace}
use Rattle.mxf_metadata_reader.specs.Faults.{links_fault, name_fault, names_fault}
use Rattle.mxf_metadata_reader.specs.PlacedSets.{PlacedSet}
use Rattle.mxf_metadata_reader.specs.inner.Places.{placed, sets_at}
use Rattle.mxf_metadata_reader.specs.declared.fault.SetFault.{SetFault}
use Rattle.mxf_metadata_reader.specs.declared.outline.SetPlace.{SetPlace}
use Rattle.mxf_metadata_reader.proofs.FormLemmas.{place_len}

-- from a place of a value on
abbrev pub names_from : List PlacedSet → List ℕ → ℕ → ℕ → Option SetFault
names_from all value start at = names_fault all (start + at) (items_in (drop at value))

item_step : (all : List PlacedSet) (at : ℕ) (item : RawItem) (items : List RawItem)
    → names_fault all at (item ∷ items) ≡ option_or (name_fault all at item) (names_fault all (at + item_len item) items)
unfolding names_fault
item_step all at item items = refl

none_step : (all : List PlacedSet) (at : ℕ) → names_fault all at [] ≡ None
unfolding names_fault
none_step all at = refl

names_step : (all : List PlacedSet) (value : List ℕ) (start at : ℕ) (place : ItemPlace) → first_item (drop at value) ≡ Some (raw_at value place)
    → place.value_at ≡ at + 4 → place.value_at + place.value_len ≤ length value
    → names_from all value start at
    ≡ option_or (name_fault all (start + at) (raw_at value place)) (names_from all value start (place.value_at + place.value_len))
names_step all value start at place e p w =
    let item : RawItem = raw_at value place in
    let next : ℕ = place.value_at + place.value_len in
    let len = place_len value place w in
    let moved : drop (item_len item) (drop at value) ≡ drop next value = drop-drop (item_len item) at value
    ∙ ap (λ (n : ℕ). drop n value) (omega (arith, len, p)) in
    ap (names_fault all (start + at)) (items_next (drop at value) item e)
    ∙ item_step all (start + at) item (items_in (drop (item_len item) (drop at value)))
    ∙ ap₂ (λ (n : ℕ) (xs : List ℕ). option_or (name_fault all (start + at) item) (names_fault all n (items_in xs))) (omega (arith, len, p)) moved

-- an item whose names are there
pub names_next : (all : List PlacedSet) (value : List ℕ) (start at : ℕ) (place : ItemPlace) → first_item (drop at value) ≡ Some (raw_at value place)
    → place.value_at ≡ at + 4 → place.value_at + place.value_len ≤ length value → name_fault all (start + at) (raw_at value place) ≡ None
    → names_from all value start at ≡ names_from all value start (place.value_at + place.value_len)
names_next all value start at place e p w none =
    names_step all value start at place e p w
    ∙ ap (λ (o : Option SetFault). option_or o (names_from all value start (place.value_at + place.value_len))) none

-- or are not
pub names_wrong : (all : List PlacedSet) (value : List ℕ) (start at : ℕ) (place : ItemPlace) (fault : SetFault)
    → first_item (drop at value) ≡ Some (raw_at value place)
    → place.value_at ≡ at + 4 → place.value_at + place.value_len ≤ length value → name_fault all (start + at) (raw_at value place) ≡ Some fault
    → names_from all value start at ≡ Some fault
names_wrong all value start at place fault e p w some =
    names_step all value start at place e p w
    ∙ ap (λ (o : Option SetFault). option_or o (names_from all value start (place.value_at + place.value_len))) some

-- no item more
pub names_cut : (all : List PlacedSet) (value : List ℕ) (start at : ℕ) → first_item (drop at value) ≡ None → names_from all value start at ≡ None
names_cut all value start at none = ap (names_fault all (start + at)) (no_items (length (drop at value)) (drop at value) none) ∙ none_step all (start + at)

pub names_end : (all : List PlacedSet) (value : List ℕ) (start at : ℕ) → length value ≤ at → names_from all value start at ≡ None
names_end all value start at past = names_cut all value start at (ap first_item (drop_all at value past) ∙ first_short [] (omega arith))

pub names_whole : (all : List PlacedSet) (value : List ℕ) (start : ℕ) → names_fault all start (items_in value) ≡ names_from all value start 0
names_whole all value start = ap (λ (at : ℕ). names_fault all at (items_in value)) (omega arith)

-- a set and those behind it
set_step : (all : List PlacedSet) (one : PlacedSet) (sets : List PlacedSet)
    → links_fault all (one ∷ sets) ≡ option_or (names_fault all one.at one.set.items) (links_fault all sets)
unfolding links_fault
set_step all one sets = refl

pub links_step : (all : List PlacedSet) (bytes value : List ℕ) (sets : List SetPlace) (i : ℕ) (d : SetPlace) → i < length sets
    → value ≡ take (get_or sets i d).value_len (drop (get_or sets i d).value_at bytes)
    → links_fault all (sets_at bytes (drop i sets))
    ≡ option_or (names_fault all (get_or sets i d).value_at (items_in value)) (links_fault all (sets_at bytes (drop (i + 1) sets)))
links_step all bytes value sets i d lt e =
    let place : SetPlace = get_or sets i d in
    let one : PlacedSet = placed bytes place in
    let next : suc i ≡ i + 1 = omega arith in
    ap (λ (xs : List SetPlace). links_fault all (sets_at bytes xs)) (drop-cons sets i d lt)
    ∙ set_step all one (sets_at bytes (drop (suc i) sets))
    ∙ ap₂ (λ (xs : List ℕ) (n : ℕ). option_or (names_fault all place.value_at (items_in xs)) (links_fault all (sets_at bytes (drop n sets)))) (sym e) next

pub links_end : (all : List PlacedSet) (bytes : List ℕ) (sets : List SetPlace) (i : ℕ) → length sets ≤ i → links_fault all (sets_at bytes (drop i sets)) ≡ None
unfolding links_fault
links_end all bytes sets i past = ap (λ (xs : List SetPlace). links_fault all (sets_at bytes xs)) (drop_all i sets past)

-- The sets among items, and those that are kept.
use Rattle.std.proofs.Common.{◌≡◌, ℕ, ◌+◌, ◌<◌, ◌≤◌, ◌||◌, not, Bool, true, false, cond, List, [], ◌∷◌, ◌++◌, length, map, filter, slice_index, take, drop, Option, Some, None, refl, sym, ap, ap₂, ◌∙◌, arith, append_assoc, append-nil}
use Rattle.std.proofs.lemmas.List.{map-append}
use Rattle.std.specs.List.{AllByRecursion}
use Rattle.klv.specs.Items.{AreItems, Item, spelled}
use Rattle.klv.specs.Reads.{HasItemAt, IsKlvAt}
use Rattle.klv.specs.declared.item.Klv.{Klv}
use Rattle.local_sets.specs.Reads.{items_in}
use Rattle.mxf_metadata_reader.specs.PlacedSets.{is_set_key, read_set}
use Rattle.mxf_metadata_reader.specs.inner.Places.{kind_of}
use Rattle.mxf_metadata_check.specs.declared.outline.Held.{Held}
use Rattle.mxf_metadata_check.specs.inner.Held.{AreWithin, HoldsSets, all_last, kept, other_among, set_held, sets_among, sets_held}
use Rattle.mxf_metadata_check.proofs.Walk.{Goes, IsLaw, Left, Stands, all_passed, first_goes, none_stands, stands_so}
use Rattle.mxf_op1a.specs.Clauses.{first_place}
use Rattle.mxf_op1a.specs.Contents.{Placed, placed_from}
use Rattle.mxf_op1a.specs.Metadata.{SetAt, lasts, places_but, set_at}

-- the sets of one item and those behind it
unfoldable pub set_if : Bool → ℕ → Item → List SetAt
set_if true at item = set_at (record { at = at; item = item }) ∷ []
set_if false at item = []

pub among_step : (at : ℕ) (item : Item) (rest : List Item)
    → sets_among at (item ∷ rest) ≡ set_if (is_set_key item.key) at item ++ sets_among (at + length (spelled item)) rest
unfolding placed_from set_if
among_step at item rest =
    elim (is_set_key item.key) as (λ (b : Bool). map set_at (cond b (record { at = at; item = item } ∷ filter (λ (p : Placed). is_set_key p.item.key) (placed_from (at + length (spelled item)) rest))
    (filter (λ (p : Placed). is_set_key p.item.key) (placed_from (at + length (spelled item)) rest)))
    ≡ set_if b at item ++ sets_among (at + length (spelled item)) rest) [ true ↦ refl | false ↦ refl ]

pub among_none : (at : ℕ) → sets_among at [] ≡ []
unfolding placed_from
among_none at = refl

kept_by : (b : Bool) (at : ℕ) (klv : Klv) (bytes : List ℕ) (item : Item) → take klv.value_len (drop klv.value_at bytes) ≡ item.value
    → sets_held bytes (kept (cond b (Some (slice_index item.key 14)) None) at klv) ≡ set_if b at item
unfolding set_if
kept_by true at klv bytes item e =
    ap (λ (xs : List ℕ). record { at = at; set = read_set (slice_index item.key 14) xs } ∷ []) e
kept_by false at klv bytes item e = refl

kept_is : (bytes : List ℕ) (at place : ℕ) (klv : Klv) (item : Item) → Stands bytes place klv item
    → sets_held bytes (kept (kind_of klv.key) at klv) ≡ set_if (is_set_key item.key) at item
kept_is bytes at place klv item s =
    ap (λ (key : List ℕ). sets_held bytes (kept (kind_of key) at klv)) s.key
    ∙ kept_by (is_set_key item.key) at klv bytes item s.value

kept_within : (b : Bool) (kind len at : ℕ) (klv : Klv) → klv.value_at + klv.value_len ≤ len → AreWithin len (kept (cond b (Some kind) None) at klv)
kept_within true kind len at klv h = (h, tt)
kept_within false kind len at klv h = tt

all_both : {A : Type 0} (P : A → Type 0) (xs ys : List A) → AllByRecursion P xs → AllByRecursion P ys → AllByRecursion P (xs ++ ys)
all_both P [] ys p q = q
all_both P (x ∷ xs) ys p q = (p.0, all_both P xs ys p.1 q)

-- up to a place these sets are kept
pub record Kept (bytes : List ℕ) (start at place : ℕ) (all : List Held) : Type 0 where
  pub inside : place ≤ length bytes
  pub within : AreWithin (length bytes) all
  pub sets : (items : List Item) → AreItems (drop start bytes) items
      → Left bytes place (λ rest. sets_held bytes all ++ sets_among (at + place) rest ≡ sets_among (at + start) items)

pub kept_none : (bytes : List ℕ) (start at : ℕ) → start ≤ length bytes → Kept bytes start at start []
kept_none bytes start at h = record {
  inside = h;
  within = tt;
  sets = λ items are. record { rest = items; are = are; holds = refl };
}

more_holds : (bytes : List ℕ) (start at place : ℕ) (all : List Held) (klv : Klv) (items left : List Item) → Goes bytes place klv left
    → sets_held bytes all ++ sets_among (at + place) left ≡ sets_among (at + start) items
    → Left bytes klv.end (λ rest. sets_held bytes (all ++ kept (kind_of klv.key) (at + place) klv) ++ sets_among (at + klv.end) rest ≡ sets_among (at + start) items)
more_holds bytes start at place all klv items left g e =
    let held : List SetAt = sets_held bytes all in
    let one : List SetAt = sets_held bytes (kept (kind_of klv.key) (at + place) klv) in
    let next : at + place + length (spelled g.item) ≡ at + klv.end = let end = g.stands.end_is in omega (arith, end) in
    let step : sets_among (at + place) left ≡ one ++ sets_among (at + klv.end) g.rest =
    ap (sets_among (at + place)) g.items_are ∙ among_step (at + place) g.item g.rest
    ∙ ap₂ (λ (xs : List SetAt) (n : ℕ). xs ++ sets_among n g.rest) (sym (kept_is bytes (at + place) place klv g.item g.stands)) next in
    record {
      rest = g.rest;
      are = g.behind;
      holds =
          ap (λ (xs : List SetAt). xs ++ sets_among (at + klv.end) g.rest) (map-append (set_held bytes) all (kept (kind_of klv.key) (at + place) klv))
          ∙ append_assoc held one (sets_among (at + klv.end) g.rest)
          ∙ ap (λ (xs : List SetAt). held ++ xs) (sym step)
          ∙ e;
    }

pub kept_more : IsLaw → (bytes : List ℕ) (start at place : ℕ) (all : List Held) (klv : Klv) → place < length bytes → IsKlvAt bytes place klv
    → Kept bytes start at place all → Kept bytes start at klv.end (all ++ kept (kind_of klv.key) (at + place) klv)
kept_more law bytes start at place all klv lt h k =
    let s = stands_so bytes place klv h (omega arith) in
    record {
      inside = s.end;
      within = all_both (λ (held : Held). held.value_at + held.value_len ≤ length bytes) all (kept (kind_of klv.key) (at + place) klv) k.within
          (kept_within (is_set_key klv.key) (slice_index klv.key 14) (length bytes) (at + place) klv s.within);
      sets = λ items are.
          let left = k.sets items are in
          more_holds bytes start at place all klv items left.rest (first_goes law bytes place klv left.rest lt h left.are) left.holds;
    }

pub kept_cut : (bytes : List ℕ) (start at place : ℕ) (all : List Held) → place < length bytes → ¬ HasItemAt bytes place
    → Kept bytes start at place all → HoldsSets bytes start at all
kept_cut bytes start at place all lt none k items are =
    let left = k.sets items are in
    absurd (none_stands bytes place left.rest lt none left.are)

pub kept_all : (bytes : List ℕ) (start at place : ℕ) (all : List Held) → length bytes ≤ place
    → Kept bytes start at place all → HoldsSets bytes start at all
kept_all bytes start at place all past k items are =
    let left = k.sets items are in
    let empty = all_passed bytes place left.rest past left.are in
    sym (append-nil (sets_held bytes all))
    ∙ ap (λ (xs : List SetAt). sets_held bytes all ++ xs) (sym (among_none (at + place)))
    ∙ ap (λ (xs : List Item). sets_held bytes all ++ sets_among (at + place) xs) (sym empty)
    ∙ left.holds

-- the first set with another duration
pub record Passes (bytes : List ℕ) (start at : ℕ) (duration : List ℕ) (place : ℕ) : Type 0 where
  pub inside : place ≤ length bytes
  pub same : (items : List Item) → AreItems (drop start bytes) items
      → Left bytes place (λ rest. other_among duration (at + place) rest ≡ other_among duration (at + start) items)

pub passes_none : (bytes : List ℕ) (start at : ℕ) (duration : List ℕ) → start ≤ length bytes → Passes bytes start at duration start
passes_none bytes start at duration h = record { inside = h; same = λ items are. record { rest = items; are = are; holds = refl } }

abbrev other_by : (set last : Bool) (at : ℕ) (rest : List ℕ) → Option ℕ
other_by set last at rest = cond (not set || last) (first_place rest) (Some at)

other_step : (duration : List ℕ) (at : ℕ) (item : Item) (rest : List Item)
    → other_among duration at (item ∷ rest)
    ≡ other_by (is_set_key item.key) (all_last duration (items_in item.value)) at (places_but (lasts duration) (sets_among (at + length (spelled item)) rest))
unfolding set_if placed_from
other_step duration at item rest =
    let others : List SetAt = sets_among (at + length (spelled item)) rest in
    ap (λ (xs : List SetAt). first_place (places_but (lasts duration) xs)) (among_step at item rest)
    ∙ elim (is_set_key item.key) as (λ (b : Bool). first_place (places_but (lasts duration) (set_if b at item ++ others))
    ≡ other_by b (all_last duration (items_in item.value)) at (places_but (lasts duration) others)) [
      | true ↦ elim (all_last duration (items_in item.value)) as (λ (l : Bool). first_place (map (λ (s : SetAt). s.at) (cond (not l)
          (set_at (record { at = at; item = item }) ∷ filter (λ (s : SetAt). not (lasts duration s)) others) (filter (λ (s : SetAt). not (lasts duration s)) others)))
          ≡ other_by true l at (places_but (lasts duration) others)) [ true ↦ refl | false ↦ refl ]
      | false ↦ refl
    ]

-- what is read of an item says whether its durations are this
abbrev pub is_last : List ℕ → List ℕ → Klv → Bool
is_last bytes duration klv = not (is_set_key klv.key) || all_last duration (items_in (take klv.value_len (drop klv.value_at bytes)))

last_is : (bytes duration : List ℕ) (place : ℕ) (klv : Klv) (item : Item) → Stands bytes place klv item
    → is_last bytes duration klv ≡ (not (is_set_key item.key) || all_last duration (items_in item.value))
last_is bytes duration place klv item s =
    ap₂ (λ (key value : List ℕ). not (is_set_key key) || all_last duration (items_in value)) s.key s.value

other_goes : (bytes duration : List ℕ) (at place : ℕ) (klv : Klv) (left : List Item) (b : Bool) (g : Goes bytes place klv left) → is_last bytes duration klv ≡ b
    → other_among duration (at + place) left ≡ cond b (other_among duration (at + klv.end) g.rest) (Some (at + place))
other_goes bytes duration at place klv left b g e =
    let next : at + place + length (spelled g.item) ≡ at + klv.end = let end = g.stands.end_is in omega (arith, end) in
    ap (other_among duration (at + place)) g.items_are
    ∙ other_step duration (at + place) g.item g.rest
    ∙ ap₂ (λ (l : Bool) (n : ℕ). cond l (other_among duration n g.rest) (Some (at + place)))
    (sym (last_is bytes duration place klv g.item g.stands) ∙ e) next

pub passes_more : IsLaw → (bytes : List ℕ) (start at : ℕ) (duration : List ℕ) (place : ℕ) (klv : Klv) → place < length bytes → IsKlvAt bytes place klv
    → is_last bytes duration klv ≡ true → Passes bytes start at duration place → Passes bytes start at duration klv.end
passes_more law bytes start at duration place klv lt h e p = record {
  inside = (stands_so bytes place klv h (omega arith)).end;
  same = λ items are.
      let left = p.same items are in
      let g = first_goes law bytes place klv left.rest lt h left.are in
      record { rest = g.rest; are = g.behind; holds = sym (other_goes bytes duration at place klv left.rest true g e) ∙ left.holds };
}

pub passes_found : IsLaw → (bytes : List ℕ) (start at : ℕ) (duration : List ℕ) (place : ℕ) (klv : Klv) → place < length bytes → IsKlvAt bytes place klv
    → is_last bytes duration klv ≡ false → Passes bytes start at duration place
    → (items : List Item) → AreItems (drop start bytes) items → other_among duration (at + start) items ≡ Some (at + place)
passes_found law bytes start at duration place klv lt h e p items are =
    let left = p.same items are in
    let g = first_goes law bytes place klv left.rest lt h left.are in
    sym left.holds ∙ other_goes bytes duration at place klv left.rest false g e

pub passes_cut : (bytes : List ℕ) (start at : ℕ) (duration : List ℕ) (place : ℕ) → place < length bytes → ¬ HasItemAt bytes place
    → Passes bytes start at duration place
    → (items : List Item) → AreItems (drop start bytes) items → other_among duration (at + start) items ≡ None
passes_cut bytes start at duration place lt none p items are =
    let left = p.same items are in absurd (none_stands bytes place left.rest lt none left.are)

pub passes_all : (bytes : List ℕ) (start at : ℕ) (duration : List ℕ) (place : ℕ) → length bytes ≤ place
    → Passes bytes start at duration place
    → (items : List Item) → AreItems (drop start bytes) items → other_among duration (at + start) items ≡ None
passes_all bytes start at duration place past p items are =
    let left = p.same items are in
    let empty = all_passed bytes place left.rest past left.are in
    sym left.holds ∙ ap (other_among duration (at + place)) empty
    ∙ ap (λ (xs : List SetAt). first_place (places_but (lasts duration) xs)) (among_none (at + place))

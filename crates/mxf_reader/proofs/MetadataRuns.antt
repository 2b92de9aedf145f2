-- The sets and fill behind a primer, and where they end.
use Rattle.std.proofs.Common.{◌≡◌, ◌⊎◌, inl, inr, ℕ, ◌+◌, ◌≤◌, ◌||◌, not, min, Bool, true, false, if◌then◌else◌, List, [], ◌∷◌, ◌++◌, length, refl, ap, ap₂, ◌∙◌, arith}
use Rattle.std.proofs.lemmas.List.{length-append}
use Rattle.std.specs.List.{flat_map, AllByRecursion}
use Rattle.klv.specs.Items.{Item, spelled}
use Rattle.mxf_metadata_check.specs.Metadata.{IsSetOrFill}
use Rattle.mxf_op1a.specs.Clauses.{first_place, places}
use Rattle.mxf_op1a.specs.Contents.{Content, Placed, content_of, is_fill, is_pack, is_set, placed_from}
use Rattle.mxf_op1a.specs.Contents.Content.{Fill, Pack, Primer, Set, Segment, RandomIndex, Element, Other}
use Rattle.mxf_op1a.specs.Partitions.{being, from_first, place_of, up_to}
use Rattle.mxf_reader.specs.inner.Parts.{place_or}

-- items up to the first that keeps a test, and from it on
pub up_none : (test : Content → Bool) (p : Placed) (ps : List Placed) → being test p ≡ true → up_to test (p ∷ ps) ≡ []
unfolding up_to
up_none test p ps e = ap (λ (b : Bool). if b then [] else p ∷ up_to test ps) e

pub up_more : (test : Content → Bool) (p : Placed) (ps : List Placed) → being test p ≡ false → up_to test (p ∷ ps) ≡ p ∷ up_to test ps
unfolding up_to
up_more test p ps e = ap (λ (b : Bool). if b then [] else p ∷ up_to test ps) e

pub first_here : (test : Content → Bool) (p : Placed) (ps : List Placed) → being test p ≡ true → from_first test (p ∷ ps) ≡ p ∷ ps
unfolding from_first
first_here test p ps e = ap (λ (b : Bool). if b then p ∷ ps else from_first test ps) e

pub first_later : (test : Content → Bool) (p : Placed) (ps : List Placed) → being test p ≡ false → from_first test (p ∷ ps) ≡ from_first test ps
unfolding from_first
first_later test p ps e = ap (λ (b : Bool). if b then p ∷ ps else from_first test ps) e

-- the bytes of an item and of those behind it
pub long_with : (item : Item) (items : List Item) → length (flat_map spelled (item ∷ items)) ≡ length (spelled item) + length (flat_map spelled items)
long_with item items = length-append (spelled item) (flat_map spelled items)

-- what is neither a set nor fill
abbrev pub ends : Content → Bool
ends content = not (is_set content || is_fill content)

-- an item is a pack, or something else that ends metadata, or goes on with them
abbrev IsOne : Content → Type 0
IsOne content =
    ((is_pack content ≡ true) × (ends content ≡ true))
    ⊎ (((is_pack content ≡ false) × (ends content ≡ true)) ⊎ ((is_pack content ≡ false) × (ends content ≡ false)))

-- so it is of each content
is_one : (content : Content) → IsOne content
is_one (Pack pack) = inl (refl, refl)
is_one Fill = inr (inr (refl, refl))
is_one Primer = inr (inl (refl, refl))
is_one Set = inr (inr (refl, refl))
is_one Segment = inr (inl (refl, refl))
is_one RandomIndex = inr (inl (refl, refl))
is_one Element = inr (inl (refl, refl))
is_one Other = inr (inl (refl, refl))

-- what doesn't end them is a set or fill
on_so : (content : Content) → ends content ≡ false → (is_set content || is_fill content) ≡ true
on_so (Pack pack) e = absurd (cc)
on_so Fill e = refl
on_so Primer e = absurd (cc)
on_so Set e = refl
on_so Segment e = absurd (cc)
on_so RandomIndex e = absurd (cc)
on_so Element e = absurd (cc)
on_so Other e = absurd (cc)

-- where metadata end, by the items from the next pack on and those from what ends them
abbrev pub place_by : ℕ → List Placed → List Placed → ℕ
place_by len packs others = place_or (place_of len packs) (first_place (places others))

-- where those end with which items of a partition begin, where the last partition ends with the file
abbrev pub run_stop : ℕ → List Placed → ℕ
run_stop len ps = place_by len (from_first is_pack ps) (from_first ends (up_to is_pack ps))

-- the sets and fill with which items begin, all of which end at a place
pub record IsRunOf (len stop at : ℕ) (items : List Item) : Type 0 where
  pub run : List Item
  pub rest : List Item
  pub items_are : items ≡ run ++ rest
  pub each : AllByRecursion IsSetOrFill run
  pub up : up_to ends (up_to is_pack (placed_from at items)) ≡ placed_from at run
  pub same : up_to ends (placed_from at run) ≡ placed_from at run
  pub end : min (run_stop len (placed_from at items)) stop ≡ at + length (flat_map spelled run)

-- where what stands first ends them, there are none
none_runs : (len stop at : ℕ) (items : List Item) (place : ℕ) → up_to ends (up_to is_pack (placed_from at items)) ≡ []
    → run_stop len (placed_from at items) ≡ place
    → min place stop ≡ at → IsRunOf len stop at items
unfolding placed_from up_to
none_runs len stop at items place up is e = record {
  run = [];
  rest = items;
  items_are = refl;
  each = tt;
  up = up;
  same = refl;
  end = ap (λ (n : ℕ). min n stop) is ∙ e ∙ omega arith;
}

-- they end at a pack, and at what else ends them, and go on over a set or fill
pack_ends : (len at : ℕ) (p : Placed) (ps : List Placed) → p.at ≡ at → being is_pack p ≡ true → run_stop len (p ∷ ps) ≡ at
unfolding from_first
pack_ends len at p ps e is =
    ap₂ (λ (packs up : List Placed). place_by len packs (from_first ends up)) (first_here is_pack p ps is) (up_none is_pack p ps is) ∙ e

other_ends : (len at : ℕ) (p : Placed) (ps : List Placed) → p.at ≡ at → being is_pack p ≡ false → being ends p ≡ true → run_stop len (p ∷ ps) ≡ at
other_ends len at p ps e bare is =
    let packs : List Placed = from_first is_pack (p ∷ ps) in
    ap (λ (up : List Placed). place_by len packs (from_first ends up)) (up_more is_pack p ps bare)
    ∙ ap (place_by len packs) (first_here ends p (up_to is_pack ps) is)
    ∙ e

on_ends : (len : ℕ) (p : Placed) (ps : List Placed) → being is_pack p ≡ false → being ends p ≡ false → run_stop len (p ∷ ps) ≡ run_stop len ps
on_ends len p ps bare on =
    ap₂ (λ (packs up : List Placed). place_by len packs (from_first ends up)) (first_later is_pack p ps bare) (up_more is_pack p ps bare)
    ∙ ap (place_by len (from_first is_pack ps)) (first_later ends p (up_to is_pack ps) on)

-- so do the items themselves
pack_up : (p : Placed) (ps : List Placed) → being is_pack p ≡ true → up_to ends (up_to is_pack (p ∷ ps)) ≡ []
unfolding up_to
pack_up p ps is = ap (up_to ends) (up_none is_pack p ps is)

other_up : (p : Placed) (ps : List Placed) → being is_pack p ≡ false → being ends p ≡ true → up_to ends (up_to is_pack (p ∷ ps)) ≡ []
other_up p ps bare is = ap (up_to ends) (up_more is_pack p ps bare) ∙ up_none ends p (up_to is_pack ps) is

on_up : (p : Placed) (ps qs : List Placed) → being is_pack p ≡ false → being ends p ≡ false → up_to ends (up_to is_pack ps) ≡ qs
    → up_to ends (up_to is_pack (p ∷ ps)) ≡ p ∷ qs
on_up p ps qs bare on e = ap (up_to ends) (up_more is_pack p ps bare) ∙ up_more ends p (up_to is_pack ps) on ∙ ap (λ (up : List Placed). p ∷ up) e

-- a set or fill before a run is one more item of it
one_more : (len stop at : ℕ) (item : Item) (items : List Item) → is_pack (content_of item) ≡ false → ends (content_of item) ≡ false
    → IsRunOf len stop (at + length (spelled item)) items → IsRunOf len stop at (item ∷ items)
unfolding placed_from
one_more len stop at item items bare on r =
    let p : Placed = record { at = at; item = item } in
    let next : ℕ = at + length (spelled item) in
    record {
      run = item ∷ r.run;
      rest = r.rest;
      items_are = ap (λ (xs : List Item). item ∷ xs) r.items_are;
      each = (on_so (content_of item) on, r.each);
      up = on_up p (placed_from next items) (placed_from next r.run) bare on r.up;
      same = up_more ends p (placed_from next r.run) on ∙ ap (λ (qs : List Placed). p ∷ qs) r.same;
      end =
          ap (λ (n : ℕ). min n stop) (on_ends len p (placed_from next items) bare on)
          ∙ r.end
          ∙ omega (arith, long_with item r.run);
    }

-- of all items there is such a run
pub run_of_items : (len stop at : ℕ) (items : List Item) → stop ≡ at + length (flat_map spelled items) → stop ≤ len → IsRunOf len stop at items
unfolding placed_from up_to from_first
run_of_items len stop at [] e inside = none_runs len stop at [] len refl refl (omega arith)
run_of_items len stop at (item ∷ items) e inside =
    let p : Placed = record { at = at; item = item } in
    let next : ℕ = at + length (spelled item) in
    let ps : List Placed = placed_from next items in
    let long = long_with item items in
    let left : stop ≡ next + length (flat_map spelled items) = omega (arith, e, long) in
    let here : min at stop ≡ at = omega (arith, left) in
    elim (is_one (content_of item)) [
      | inl h ↦ none_runs len stop at (item ∷ items) at (pack_up p ps h.0) (pack_ends len at p ps refl h.0) here
      | inr (inl h) ↦ none_runs len stop at (item ∷ items) at (other_up p ps h.0 h.1) (other_ends len at p ps refl h.0 h.1) here
      | inr (inr h) ↦ one_more len stop at item items h.0 h.1 (run_of_items len stop next items left inside)
    ]

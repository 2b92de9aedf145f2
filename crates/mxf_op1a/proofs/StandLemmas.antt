-- Items stand at their places.
use Rattle.std.proofs.Common.{◌≡◌, ℕ, zero, suc, ◌+◌, ◌-◌, ◌<◌, List, [], ◌∷◌, ◌++◌, length, map, drop, get_or, refl, sym, ap, subst, ◌∙◌, arith, append_assoc}
use Rattle.std.proofs.lemmas.List.{drop_at, length-append, length-drop}
use Rattle.std.specs.List.{flat_map, AllByRecursion}
use Rattle.std.specs.List.Sorted.{IsStrictlyIncreasing}
use Rattle.klv.specs.Items.{IsItem, Item, spelled}
use Rattle.klv.specs.Outline.{Outline}
use Rattle.mxf_op1a.specs.Broken.{item_at}
use Rattle.mxf_op1a.specs.Contents.{Placed, placed_from}
use Rattle.mxf_op1a.specs.Whole.{StandsIn}
use Rattle.mxf_op1a.proofs.Steps.{each_so}

-- an item has at least the bytes before its value
abbrev pub HaveLengths : Type 0
HaveLengths = (item : Item) → length item.key ≡ 16 → length (spelled item) ≡ 17 + item.form + length item.value

stand_from : (bytes before : List ℕ) (at : ℕ) (items : List Item) (rest : List ℕ) → length before ≡ at → bytes ≡ before ++ (flat_map spelled items ++ rest)
    → AllByRecursion IsItem items → AllByRecursion (StandsIn bytes) (placed_from at items)
unfolding placed_from
stand_from bytes before at [] rest long are each = tt
stand_from bytes before at (item ∷ items) rest long are each =
    let tail : List ℕ = flat_map spelled items ++ rest in
    let whole : bytes ≡ before ++ (spelled item ++ tail) = are ∙ ap (λ (xs : List ℕ). before ++ xs) (append_assoc (spelled item) (flat_map spelled items) rest) in
    let here : drop at bytes ≡ spelled item ++ tail = ap (drop at) whole ∙ drop_at before (spelled item ++ tail) at long in
    let next : length (before ++ spelled item) ≡ at + length (spelled item) =
    length-append before (spelled item) ∙ ap (λ (n : ℕ). n + length (spelled item)) long in (
      record { is_item = each.0; rest = tail; bytes_are = here },
      stand_from bytes (before ++ spelled item) (at + length (spelled item)) items rest next (whole ∙ sym (append_assoc before (spelled item) tail)) each.1,
    )

pub stand : (bytes : List ℕ) (outline : Outline bytes) → AllByRecursion (StandsIn bytes) (placed_from 0 outline.items)
stand bytes outline = stand_from bytes [] 0 outline.items outline.rest refl outline.bytes_are outline.each

is_inside : HaveLengths → (bytes : List ℕ) (p : Placed) → StandsIn bytes p → p.at < length bytes
is_inside lengths bytes p s =
    let own : length (spelled p.item) ≡ 17 + p.item.form + length p.item.value = lengths p.item s.is_item.key in
    let all : length bytes - p.at ≡ length (spelled p.item) + length s.rest =
    sym (length-drop p.at bytes) ∙ ap (λ (xs : List ℕ). length xs) s.bytes_are ∙ length-append (spelled p.item) s.rest in
    omega arith

pub inside : HaveLengths → (bytes : List ℕ) (outline : Outline bytes) → AllByRecursion (λ p. p.at < length bytes) (placed_from 0 outline.items)
inside lengths bytes outline = each_so (StandsIn bytes) (λ p. p.at < length bytes) (is_inside lengths bytes) (placed_from 0 outline.items) (stand bytes outline)

-- places rise
abbrev pub places_from : ℕ → List Item → List ℕ
places_from at items = map item_at (placed_from at items)

longer : HaveLengths → (at : ℕ) (item : Item) → IsItem item → at < at + length (spelled item)
longer lengths at item is = let own = lengths item is.key in omega arith

rise_from : HaveLengths → (at : ℕ) (items : List Item) → AllByRecursion IsItem items → IsStrictlyIncreasing (places_from at items)
unfolding placed_from
rise_from lengths at [] each k low = absurd (omega arith)
rise_from lengths at (item ∷ []) each k low = absurd (omega arith)
rise_from lengths at (item ∷ next ∷ items) each zero low = longer lengths at item each.0
rise_from lengths at (item ∷ next ∷ items) each (suc k) low =
    let behind : ℕ = at + length (spelled item) in
    let rest = rise_from lengths behind (next ∷ items) each.1 k (omega arith) in
    let moved : suc k + 1 ≡ suc (k + 1) = omega arith in
    subst (λ (n : ℕ). get_or (places_from at (item ∷ next ∷ items)) (suc k) 0 < get_or (places_from at (item ∷ next ∷ items)) n 0) (sym moved) rest

pub rise : HaveLengths → (bytes : List ℕ) (outline : Outline bytes) → IsStrictlyIncreasing (places_from 0 outline.items)
rise lengths bytes outline = rise_from lengths 0 outline.items outline.each

-- The first set of a kind among items, and the take that it names.
use Rattle.std.proofs.Common.{◌≡◌, ℕ, ◌+◌, ◌<◌, ◌≤◌, ◌==◌, ◌&&◌, Bool, true, false, cond, List, ◌∷◌, ◌++◌, length, slice_index, take, drop, replicate, Option, Some, refl, sym, ap, ap₂, ◌∙◌, arith}
use Rattle.std.proofs.lemmas.Bool.{eq-eqb}
use Rattle.std.proofs.lemmas.List.{length-drop, length-take-le, drop-drop, drop-take}
use Rattle.klv.specs.Items.{AreItems, Item, spelled}
use Rattle.klv.specs.Reads.{HasItemAt, IsKlvAt}
use Rattle.klv.specs.declared.item.Klv.{Klv}
use Rattle.local_sets.specs.Sets.{RawItem}
use Rattle.local_sets.specs.Reads.{items_in}
use Rattle.local_sets.specs.laws.Reads.{first_short, no_items}
use Rattle.mxf_metadata.specs.declared.labels.TheConstants.{MATERIAL_SET}
use Rattle.mxf_metadata.specs.declared.tags.TheConstants.{PACKAGE_ID}
use Rattle.mxf_metadata_reader.specs.Fields.{or_zeros}
use Rattle.mxf_metadata_reader.specs.PlacedSets.{is_set_key}
use Rattle.mxf_metadata_reader.specs.References.{first_value}
use Rattle.mxf_metadata_check.specs.Metadata.{AreMetadata, behind, first_items, take_id_in}
use Rattle.mxf_metadata_check.specs.inner.Held.{sets_among}
use Rattle.mxf_metadata_check.specs.inner.Takes.{is_of_kind, kind_among}
use Rattle.mxf_metadata_check.proofs.Behind.{behind_sets}
use Rattle.mxf_metadata_check.proofs.Sets.{among_none, among_step, set_if}
use Rattle.mxf_metadata_check.proofs.Walk.{Goes, IsLaw, Left, all_passed, first_goes, front_goes, none_front, none_stands, stands_so}
use Rattle.mxf_op1a.specs.Contents.{placed_from}
use Rattle.mxf_op1a.specs.Metadata.{SetAt, all_of_kind, set_at, sets_behind}

-- the first item is such a set, or those behind it tell
kind_step : (kind at : ℕ) (item : Item) (rest : List Item)
    → kind_among kind at (item ∷ rest) ≡ cond (is_of_kind kind item.key) (items_in item.value) (kind_among kind (at + length (spelled item)) rest)
unfolding set_if placed_from
kind_step kind at item rest =
    let others : List SetAt = sets_among (at + length (spelled item)) rest in
    ap (λ (xs : List SetAt). first_items (all_of_kind kind xs)) (among_step at item rest)
    ∙ elim (is_set_key item.key) as (λ (b : Bool). first_items (all_of_kind kind (set_if b at item ++ others))
    ≡ cond (b && slice_index item.key 14 == kind) (items_in item.value) (first_items (all_of_kind kind others))) [
      | true ↦ elim (slice_index item.key 14 == kind) as (λ (same : Bool).
          first_items (cond same (set_at (record { at = at; item = item }) ∷ all_of_kind kind others) (all_of_kind kind others))
          ≡ cond same (items_in item.value) (first_items (all_of_kind kind others))) [ true ↦ refl | false ↦ refl ]
      | false ↦ refl
    ]

-- up to a place there is no set of a kind
pub record Lacks (bytes : List ℕ) (start kind place : ℕ) : Type 0 where
  pub inside : place ≤ length bytes
  pub same : (at : ℕ) (items : List Item) → AreItems (drop start bytes) items
      → Left bytes place (λ rest. kind_among kind (at + place) rest ≡ kind_among kind (at + start) items)

pub lacks_none : (bytes : List ℕ) (start kind : ℕ) → start ≤ length bytes → Lacks bytes start kind start
lacks_none bytes start kind h = record { inside = h; same = λ at items are. record { rest = items; are = are; holds = refl } }

kind_goes : (bytes : List ℕ) (kind at place : ℕ) (klv : Klv) (left : List Item) (b : Bool) (g : Goes bytes place klv left)
    → is_of_kind kind klv.key ≡ b
    → kind_among kind (at + place) left ≡ cond b (items_in (take klv.value_len (drop klv.value_at bytes))) (kind_among kind (at + klv.end) g.rest)
kind_goes bytes kind at place klv left b g e =
    let next : at + place + length (spelled g.item) ≡ at + klv.end = let end = g.stands.end_is in omega (arith, end) in
    ap (kind_among kind (at + place)) g.items_are
    ∙ kind_step kind (at + place) g.item g.rest
    ∙ ap₂ (λ (same : Bool) (n : ℕ). cond same (items_in g.item.value) (kind_among kind n g.rest)) (ap (is_of_kind kind) (sym g.stands.key) ∙ e) next
    ∙ ap (λ (value : List ℕ). cond b (items_in value) (kind_among kind (at + klv.end) g.rest)) (sym g.stands.value)

pub lacks_more : IsLaw → (bytes : List ℕ) (start kind place : ℕ) (klv : Klv) → place < length bytes → IsKlvAt bytes place klv
    → is_of_kind kind klv.key ≡ false → Lacks bytes start kind place → Lacks bytes start kind klv.end
lacks_more law bytes start kind place klv lt h e p = record {
  inside = (stands_so bytes place klv h (omega arith)).end;
  same = λ at items are.
      let left = p.same at items are in
      let g = first_goes law bytes place klv left.rest lt h left.are in
      record { rest = g.rest; are = g.behind; holds = sym (kind_goes bytes kind at place klv left.rest false g e) ∙ left.holds };
}

pub lacks_found : IsLaw → (bytes : List ℕ) (start kind place : ℕ) (klv : Klv) → place < length bytes → IsKlvAt bytes place klv
    → is_of_kind kind klv.key ≡ true → Lacks bytes start kind place
    → (at : ℕ) (items : List Item) → AreItems (drop start bytes) items
    → kind_among kind (at + start) items ≡ items_in (take klv.value_len (drop klv.value_at bytes))
lacks_found law bytes start kind place klv lt h e p at items are =
    let left = p.same at items are in
    let g = first_goes law bytes place klv left.rest lt h left.are in
    sym left.holds ∙ kind_goes bytes kind at place klv left.rest true g e

pub lacks_cut : (bytes : List ℕ) (start kind place : ℕ) (value : List ℕ) → place < length bytes → ¬ HasItemAt bytes place
    → Lacks bytes start kind place
    → (at : ℕ) (items : List Item) → AreItems (drop start bytes) items → kind_among kind (at + start) items ≡ items_in value
lacks_cut bytes start kind place value lt none p at items are =
    let left = p.same at items are in absurd (none_stands bytes place left.rest lt none left.are)

pub lacks_all : (bytes : List ℕ) (start kind place : ℕ) (value : List ℕ) → length bytes ≤ place → length value ≡ 0 → Lacks bytes start kind place
    → (at : ℕ) (items : List Item) → AreItems (drop start bytes) items → kind_among kind (at + start) items ≡ items_in value
lacks_all bytes start kind place value past long p at items are =
    let left = p.same at items are in
    let empty = all_passed bytes place left.rest past left.are in
    sym left.holds ∙ ap (kind_among kind (at + place)) empty
    ∙ ap (λ (xs : List SetAt). first_items (all_of_kind kind xs)) (among_none (at + place))
    ∙ sym (no_items (length value) value (first_short value (omega (arith, long))))

-- the second half of a value that was found with its size
pub half_found : (at len : ℕ) (half value : List ℕ) (found : Option (List ℕ)) → Some (take len (drop at value)) ≡ found → len ≡ 32
    → at + len ≤ length value
    → half ≡ take 16 (drop (at + 16) value) → half ≡ drop 16 (or_zeros 32 found)
half_found at len half value found e same w p =
    let rest : List ℕ = drop at value in
    let long : length (take len rest) ≡ 32 = length-take-le len rest (omega (arith, length-drop at value)) ∙ same in
    let whole : or_zeros 32 (Some (take len rest)) ≡ take len rest =
    ap (λ (b : Bool). cond b (take len rest) (replicate 32 0)) (eq-eqb (length (take len rest)) 32 long) in
    let is : or_zeros 32 found ≡ take 32 rest = ap (or_zeros 32) (sym e) ∙ whole ∙ ap (λ (n : ℕ). take n rest) same in
    let moved : drop 16 rest ≡ drop (at + 16) value = drop-drop 16 at value ∙ ap (λ (n : ℕ). drop n value) (omega arith) in
    p ∙ ap (take 16) (sym moved) ∙ sym (drop-take 16 16 rest) ∙ ap (drop 16) (sym is)

-- the take that metadata are of, by the first material package behind the primer
pub id_is : IsLaw → (bytes : List ℕ) (at : ℕ) (klv : Klv) (primer : Item) (items : List Item) (value id : List ℕ) → IsKlvAt bytes 0 klv
    → AreMetadata bytes primer items
    → ((at : ℕ) (items : List Item) → AreItems (drop klv.end bytes) items → kind_among MATERIAL_SET (at + klv.end) items ≡ items_in value)
    → id ≡ drop 16 (or_zeros 32 (first_value PACKAGE_ID (items_in value)))
    → take_id_in (sets_behind (behind at primer items)) ≡ id
id_is law bytes at klv primer items value id h are found is =
    let front = front_goes law bytes klv primer items h are.are_items in
    let end : klv.end ≡ length (spelled primer) = let e = front.stands.end_is in omega (arith, e) in
    ap take_id_in (behind_sets (at + length (spelled primer)) items are.each)
    ∙ ap (λ (n : ℕ). take_id_in (sets_among (at + n) items)) (sym end)
    ∙ ap (λ (xs : List RawItem). drop 16 (or_zeros 32 (first_value PACKAGE_ID xs))) (found at items front.behind)
    ∙ sym is

pub no_id : (bytes : List ℕ) (at : ℕ) (primer : Item) (items : List Item) (id : List ℕ) → ¬ HasItemAt bytes 0 → AreMetadata bytes primer items
    → take_id_in (sets_behind (behind at primer items)) ≡ id
no_id bytes at primer items id none are = absurd (none_front bytes primer items none are.are_items)

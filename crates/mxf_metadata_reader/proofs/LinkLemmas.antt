-- The identifiers of sets, as they stand and as numbers.
use Rattle.std.proofs.Common.{◌≡◌, inl, inr, ℕ, zero, suc, ◌+◌, ◌<◌, ◌≤◌, ◌==◌, ◌&&◌, ◌||◌, Bool, true, false, cond, List, [], ◌∷◌, length}
use Rattle.std.proofs.Common.{get_or, take, drop, Option, Some, None, refl, sym, ap, ap₂, subst, ◌∙◌, arith}
use Rattle.std.proofs.lemmas.Bool.{cases_eq, eq-eqb, ne_eqb}
use Rattle.std.proofs.lemmas.List.{length-drop, length-take-le, drop-drop, drop_all}
use Rattle.std.proofs.lemmas.Slice.Eq.{bytes_eq-Decides}
use Rattle.std.proofs.Math.Seq.{drop-cons}
use Rattle.std.specs.List.{AllByRecursion}
use Rattle.std.specs.Option.{is_some}
use Rattle.std.specs.Str.{bytes_eq}
use Rattle.std.specs.BTreeSet.{BTreeSet, contains}
use Rattle.std.specs.Ordering.{nat_cmp}
use Rattle.byteorder.specs.Endian.{big_number}
use Rattle.byteorder.specs.Numbers.{big_from-take}
use Rattle.local_sets.specs.Sets.{RawItem}
use Rattle.local_sets.specs.Reads.{first_item, first_items, items_in, item_len, raw_at}
use Rattle.local_sets.specs.laws.Numbers.{AreBytes, number_one}
use Rattle.local_sets.specs.laws.Reads.{begins, items_next, no_items, first_short, taken_bytes, dropped_bytes}
use Rattle.local_sets.specs.declared.reading.ItemPlace.{ItemPlace}
use Rattle.mxf_names.specs.declared.tags.TheConstants.{INSTANCE_ID}
use Rattle.mxf_metadata_reader.specs.PlacedSets.{PlacedSet}
use Rattle.mxf_metadata_reader.specs.References.{find, first_value, has_id, is_found, is_id}
use Rattle.mxf_metadata_reader.specs.inner.Own.{number_is, number_of, own_number}
use Rattle.mxf_metadata_reader.specs.inner.Places.{HoldsIds, placed, sets_at}
use Rattle.mxf_metadata_reader.specs.declared.outline.SetPlace.{SetPlace}
use Rattle.mxf_metadata_reader.proofs.FormLemmas.{place_len}

-- the first item with a tag, from a place of a value on
abbrev pub value_from : List ℕ → ℕ → ℕ → Option (List ℕ)
value_from value tag at = first_value tag (items_in (drop at value))

first_step : (tag : ℕ) (item : RawItem) (items : List RawItem)
    → first_value tag (item ∷ items) ≡ cond (item.tag == tag) (Some item.value) (first_value tag items)
unfolding first_value
first_step tag item items = refl

found_step : (value : List ℕ) (tag at : ℕ) (place : ItemPlace) → first_item (drop at value) ≡ Some (raw_at value place) → place.value_at ≡ at + 4
    → place.value_at + place.value_len ≤ length value
    → value_from value tag at ≡ cond (place.tag == tag) (Some (raw_at value place).value) (value_from value tag (place.value_at + place.value_len))
found_step value tag at place e p w =
    let item : RawItem = raw_at value place in
    let len = place_len value place w in
    let moved : drop (item_len item) (drop at value) ≡ drop (place.value_at + place.value_len) value =
    drop-drop (item_len item) at value ∙ ap (λ (n : ℕ). drop n value) (omega (arith, len, p)) in
    ap (first_value tag) (items_next (drop at value) item e)
    ∙ first_step tag item (items_in (drop (item_len item) (drop at value)))
    ∙ ap (λ (xs : List ℕ). cond (place.tag == tag) (Some item.value) (first_value tag (items_in xs))) moved

pub found_here : (value : List ℕ) (tag at : ℕ) (place : ItemPlace) → first_item (drop at value) ≡ Some (raw_at value place) → place.value_at ≡ at + 4
    → place.value_at + place.value_len ≤ length value → place.tag ≡ tag
    → value_from value tag at ≡ Some (take place.value_len (drop place.value_at value))
found_here value tag at place e p w same =
    let t : (place.tag == tag) ≡ true = eq-eqb place.tag tag same in
    found_step value tag at place e p w
    ∙ ap (λ (b : Bool). cond b (Some (raw_at value place).value) (value_from value tag (place.value_at + place.value_len))) t

pub found_later : (value : List ℕ) (tag at : ℕ) (place : ItemPlace) → first_item (drop at value) ≡ Some (raw_at value place) → place.value_at ≡ at + 4
    → place.value_at + place.value_len ≤ length value → (place.tag ≡ tag → ⊥)
    → value_from value tag at ≡ value_from value tag (place.value_at + place.value_len)
found_later value tag at place e p w other =
    let t : (place.tag == tag) ≡ false = ne_eqb place.tag tag other in
    found_step value tag at place e p w
    ∙ ap (λ (b : Bool). cond b (Some (raw_at value place).value) (value_from value tag (place.value_at + place.value_len))) t

pub found_none : (value : List ℕ) (tag at : ℕ) → first_item (drop at value) ≡ None → value_from value tag at ≡ None
unfolding first_value
found_none value tag at e = ap (first_value tag) (no_items (length (drop at value)) (drop at value) e)

pub found_end : (value : List ℕ) (tag at : ℕ) → length value ≤ at → value_from value tag at ≡ None
found_end value tag at past = found_none value tag at (ap first_item (drop_all at value past) ∙ first_short [] (omega arith))

-- the number of a value of 16 bytes
pub own_some : (value : List ℕ) (place : ItemPlace) (own : Option (List ℕ)) (number : ℕ) → Some (take place.value_len (drop place.value_at value)) ≡ own
    → place.value_len ≡ 16 → place.value_at + place.value_len ≤ length value → number ≡ big_number 16 (drop place.value_at value) → Some number ≡ number_of own
own_some value place own number e size w n =
    let rest : List ℕ = drop place.value_at value in
    let long : length (take place.value_len rest) ≡ 16 = length-take-le place.value_len rest (omega (arith, length-drop place.value_at value)) ∙ size in
    let t : (length (take place.value_len rest) == 16) ≡ true = eq-eqb (length (take place.value_len rest)) 16 long in
    ap Some (n ∙ sym (ap (λ (k : ℕ). big_number 16 (take k rest)) size ∙ big_from-take 0 16 16 rest (omega arith)))
    ∙ ap (λ (b : Bool). cond b (Some (big_number 16 (take place.value_len rest))) None) (sym t)
    ∙ ap number_of e

pub own_other : (value : List ℕ) (place : ItemPlace) (own : Option (List ℕ)) → Some (take place.value_len (drop place.value_at value)) ≡ own
    → (place.value_len ≡ 16 → ⊥) → place.value_at + place.value_len ≤ length value → None ≡ number_of own
own_other value place own e size w =
    let rest : List ℕ = drop place.value_at value in
    let long : length (take place.value_len rest) ≡ place.value_len = length-take-le place.value_len rest (omega (arith, length-drop place.value_at value)) in
    let t : (length (take place.value_len rest) == 16)
    ≡ false = ne_eqb (length (take place.value_len rest)) 16 (λ (q : length (take place.value_len rest) ≡ 16). size (sym long ∙ q)) in
    ap (λ (b : Bool). cond b (Some (big_number 16 (take place.value_len rest))) None) (sym t)
    ∙ ap number_of e

-- the values of items that are read of bytes are bytes
values_bytes : (n : ℕ) (value : List ℕ) → AreBytes value → AllByRecursion (λ (item : RawItem). AreBytes item.value) (first_items n value)
unfolding first_items
values_bytes zero value are = tt
values_bytes (suc more) value are =
    elim (first_item value) as (λ (o : Option RawItem). first_item value ≡ o → AllByRecursion (λ (item : RawItem). AreBytes item.value)
    (elim o [ None ↦ [] | Some item ↦ item ∷ first_items more (drop (item_len item) value) ])) [
      | None ↦ λ e. tt
      | Some item ↦ λ e.
          let is = (begins value item e).value in (
            subst AreBytes (sym is) (taken_bytes (length item.value) (drop 4 value) (dropped_bytes 4 value are)),
            values_bytes more (drop (item_len item) value) (dropped_bytes (item_len item) value are),
          )
    ] refl

pub AreBytesIf : Option (List ℕ) → Type 0
AreBytesIf None = Unit {0}
AreBytesIf (Some value) = AreBytes value

first_bytes : (tag : ℕ) (items : List RawItem) → AllByRecursion (λ (item : RawItem). AreBytes item.value) items → AreBytesIf (first_value tag items)
unfolding first_value AreBytesIf
first_bytes tag [] h = tt
first_bytes tag (item ∷ items) h =
    elim (item.tag == tag) as (λ (b : Bool). AreBytesIf (cond b (Some item.value) (first_value tag items))) [
      | true ↦ h.0
      | false ↦ first_bytes tag items h.1
    ]

-- the test of two lists
eq_true : (xs ys : List ℕ) → xs ≡ ys → bytes_eq xs ys ≡ true
eq_true xs ys e = (bytes_eq-Decides xs ys).1 e

eq_false : (xs ys : List ℕ) → (xs ≡ ys → ⊥) → bytes_eq xs ys ≡ false
eq_false xs ys e =
    elim (bytes_eq xs ys) as (λ (b : Bool). bytes_eq xs ys ≡ b → bytes_eq xs ys ≡ false) [
      | true ↦ λ t. absurd (e ((bytes_eq-Decides xs ys).0 t))
      | false ↦ λ t. t
    ] refl

-- two lists of 16 bytes are one where their numbers are
same_id : (own id : List ℕ) → length own ≡ 16 → length id ≡ 16 → AreBytes own → AreBytes id
    → bytes_eq own id ≡ (big_number 16 id == big_number 16 own)
same_id own id p q a b = elim (cases_eq (big_number 16 id) (big_number 16 own)) [
  | inl same ↦
      let one : own ≡ id = number_one 16 own id p q a b (sym same) in
      eq_true own id one ∙ sym (eq-eqb (big_number 16 id) (big_number 16 own) same)
  | inr other ↦
      eq_false own id (λ (e : own ≡ id). other (ap (big_number 16) (sym e))) ∙ sym (ne_eqb (big_number 16 id) (big_number 16 own) other)
]

-- a set has an identifier where it has its number
id_number : (id : List ℕ) (own : Option (List ℕ)) → length id ≡ 16 → AreBytes id → AreBytesIf own → is_id id own ≡ number_is (big_number 16 id) (number_of own)
unfolding AreBytesIf
id_number id None long are h = refl
id_number id (Some own) long are h = elim (cases_eq (length own) 16) [
  | inl same ↦
      let t : (length own == 16) ≡ true = eq-eqb (length own) 16 same in
      ap (λ (b : Bool). b && bytes_eq own id) t ∙ same_id own id same long h are
      ∙ ap (λ (b : Bool). number_is (big_number 16 id) (cond b (Some (big_number 16 own)) None)) (sym t)
  | inr other ↦
      let t : (length own == 16) ≡ false = ne_eqb (length own) 16 other in
      ap (λ (b : Bool). b && bytes_eq own id) t
      ∙ ap (λ (b : Bool). number_is (big_number 16 id) (cond b (Some (big_number 16 own)) None)) (sym t)
]

pub has_number : (id value : List ℕ) → length id ≡ 16 → AreBytes id → AreBytes value
    → has_id id (items_in value) ≡ number_is (big_number 16 id) (own_number (items_in value))
has_number id value long are h =
    id_number id (first_value INSTANCE_ID (items_in value)) long are (first_bytes INSTANCE_ID (items_in value) (values_bytes (length value) value h))

-- one set more is looked at
pub found_cons : (id : List ℕ) (one : PlacedSet) (sets : List PlacedSet) → is_found id (one ∷ sets) ≡ (has_id id one.set.items || is_found id sets)
unfolding find
found_cons id one sets =
    elim (has_id id one.set.items) as (λ (b : Bool). is_some (cond b (Some one) (find id sets)) ≡ (b || is_some (find id sets))) [ true ↦ refl | false ↦ refl ]

turned : (h c r : Bool) → ((h || c) || r) ≡ (c || (h || r))
turned true true r = refl
turned true false r = refl
turned false c r = refl

-- the numbers that are kept tell, with the sets from a place on, which identifiers are found
abbrev pub HoldsBefore : BTreeSet ℕ → List ℕ → List SetPlace → ℕ → Type 0
HoldsBefore ids bytes sets i =
    (id : List ℕ) → length id ≡ 16 → AreBytes id
    → (contains nat_cmp ids (big_number 16 id) || is_found id (sets_at bytes (drop i sets))) ≡ is_found id (sets_at bytes sets)

pub holds_none : (ids : BTreeSet ℕ) (bytes : List ℕ) (sets : List SetPlace) → ((q : ℕ) → contains nat_cmp ids q ≡ false) → HoldsBefore ids bytes sets 0
holds_none ids bytes sets none id long are = ap (λ (b : Bool). b || is_found id (sets_at bytes sets)) (none (big_number 16 id))

pub holds_more : (old new : BTreeSet ℕ) (bytes value : List ℕ) (sets : List SetPlace) (i : ℕ) (d : SetPlace) → i < length sets → AreBytes bytes
    → value ≡ take (get_or sets i d).value_len (drop (get_or sets i d).value_at bytes)
    → ((q : ℕ) → contains nat_cmp new q ≡ (number_is q (own_number (items_in value)) || contains nat_cmp old q))
    → HoldsBefore old bytes sets i → HoldsBefore new bytes sets (i + 1)
holds_more old new bytes value sets i d lt bytes_are e kept h id long are =
    let place : SetPlace = get_or sets i d in
    let q : ℕ = big_number 16 id in
    let next : suc i ≡ i + 1 = omega arith in
    let rest : Bool = is_found id (sets_at bytes (drop (i + 1) sets)) in
    let value_are : AreBytes value =
    subst AreBytes (sym e) (taken_bytes place.value_len (drop place.value_at bytes) (dropped_bytes place.value_at bytes bytes_are)) in
    let has : has_id id (placed bytes place).set.items ≡ number_is q (own_number (items_in value)) =
    ap (λ (xs : List ℕ). has_id id (items_in xs)) (sym e) ∙ has_number id value long are value_are in
    let behind : is_found id (sets_at bytes (drop i sets)) ≡ (number_is q (own_number (items_in value)) || rest) =
    ap (λ (xs : List SetPlace). is_found id (sets_at bytes xs)) (drop-cons sets i d lt)
    ∙ found_cons id (placed bytes place) (sets_at bytes (drop (suc i) sets))
    ∙ ap₂ (λ (b : Bool) (n : ℕ). b || is_found id (sets_at bytes (drop n sets))) has next in
    ap (λ (b : Bool). b || rest) (kept q)
    ∙ turned (number_is q (own_number (items_in value))) (contains nat_cmp old q) rest
    ∙ ap (λ (b : Bool). contains nat_cmp old q || b) (sym behind)
    ∙ h id long are

or_false : (b : Bool) → (b || false) ≡ b
or_false true = refl
or_false false = refl

none_found : (id bytes : List ℕ) (sets : List SetPlace) (i : ℕ) → length sets ≤ i → is_found id (sets_at bytes (drop i sets)) ≡ false
unfolding find
none_found id bytes sets i past = ap (λ (xs : List SetPlace). is_found id (sets_at bytes xs)) (drop_all i sets past)

pub holds_all : (ids : BTreeSet ℕ) (bytes : List ℕ) (sets : List SetPlace) (i : ℕ) → length sets ≤ i → HoldsBefore ids bytes sets i
    → HoldsIds ids (sets_at bytes sets)
holds_all ids bytes sets i past h id long are =
    sym (or_false (contains nat_cmp ids (big_number 16 id)))
    ∙ ap (λ (b : Bool). contains nat_cmp ids (big_number 16 id) || b) (sym (none_found id bytes sets i past))
    ∙ h id long are

-- no set has an identifier of another size
id_not : (id : List ℕ) (own : Option (List ℕ)) → (length id ≡ 16 → ⊥) → is_id id own ≡ false
id_not id None other = refl
id_not id (Some own) other = elim (cases_eq (length own) 16) [
  | inl same ↦
      ap (λ (b : Bool). b && bytes_eq own id) (eq-eqb (length own) 16 same)
      ∙ eq_false own id (λ (e : own ≡ id). other (ap length (sym e) ∙ same))
  | inr differs ↦ ap (λ (b : Bool). b && bytes_eq own id) (ne_eqb (length own) 16 differs)
]

pub found_not : (id : List ℕ) (sets : List PlacedSet) → (length id ≡ 16 → ⊥) → is_found id sets ≡ false
unfolding find
found_not id [] other = refl
found_not id (one ∷ sets) other =
    ap (λ (b : Bool). is_some (cond b (Some one) (find id sets))) (id_not id (first_value INSTANCE_ID one.set.items) other) ∙ found_not id sets other

-- The items that were walked over, and their sets.
use Rattle.std.proofs.Common.{◌≡◌, inl, inr, ℕ, ◌+◌, ◌≤◌, Bool, true, false, cond, List, [], ◌∷◌, ◌++◌, length, slice_index, take, drop, Some, None}
use Rattle.std.proofs.Common.{refl, sym, ap, ap₂, ◌∙◌, arith, append_assoc, append-nil, length-append}
use Rattle.std.proofs.lemmas.Grind.{flat_map-append}
use Rattle.std.proofs.lemmas.List.{length-drop, drop-drop, drop_at, take_at, map-append, drop_all}
use Rattle.std.specs.List.{flat_map, AllByRecursion}
use Rattle.klv.specs.Items.{Item, IsItem, spelled, klv_head}
use Rattle.klv.specs.Reads.{HasItemAt, IsKlvAt}
use Rattle.klv.specs.laws.Lengths.{length-klv_head}
use Rattle.klv.specs.declared.item.Klv.{Klv}
use Rattle.mxf_metadata_reader.specs.PlacedSets.{PlacedSet, is_set_key, placed_at, read_set, set_at, sets_from}
use Rattle.mxf_metadata_reader.specs.inner.Places.{AreWithin, IsOutline, Passed, kept, kind_of, placed, sets_at}
use Rattle.mxf_metadata_reader.specs.declared.outline.Outline.{Outline}
use Rattle.mxf_metadata_reader.specs.declared.outline.SetPlace.{SetPlace}

-- what holds of each of two lists holds of each of both
pub all_both : {A : Type 0} (P : A → Type 0) (xs ys : List A) → AllByRecursion P xs → AllByRecursion P ys → AllByRecursion P (xs ++ ys)
all_both P [] ys p q = q
all_both P (x ∷ xs) ys p q = (p.0, all_both P xs ys p.1 q)

-- the sets of one item more
sets_more : (start : ℕ) (items : List Item) (item : Item)
    → sets_from start (items ++ item ∷ []) ≡ sets_from start items ++ set_at (start + length (flat_map spelled items)) item
unfolding sets_from
sets_more start [] item = append-nil (set_at start item) ∙ ap (λ (at : ℕ). set_at at item) (omega arith)
sets_more start (first ∷ items) item =
    let next : ℕ = start + length (spelled first) in
    let place : next + length (flat_map spelled items) ≡ start + length (flat_map spelled (first ∷ items)) =
    omega (arith, length-append (spelled first) (flat_map spelled items)) in
    ap (λ (sets : List PlacedSet). set_at start first ++ sets)
    (sets_more next items item ∙ ap (λ (at : ℕ). sets_from next items ++ set_at at item) place)
    ∙ sym (append_assoc (set_at start first) (sets_from next items) (set_at (start + length (flat_map spelled (first ∷ items))) item))

-- the value of an item that stands at a place
value_stands : (item : Item) (rest bytes : List ℕ) (at : ℕ) → length item.key ≡ 16 → drop at bytes ≡ spelled item ++ rest
    → take (length item.value) (drop (at + (17 + item.form)) bytes) ≡ item.value
value_stands item rest bytes at key e =
    let head : List ℕ = klv_head item.key item.form (length item.value) in
    let long : length head ≡ 17 + item.form = length-klv_head item.key item.form (length item.value) key in
    let behind : drop (at + (17 + item.form)) bytes ≡ item.value ++ rest =
    ap (λ (n : ℕ). drop n bytes) (omega arith) ∙ sym (drop-drop (17 + item.form) at bytes)
    ∙ ap (drop (17 + item.form)) (e ∙ append_assoc head item.value rest)
    ∙ drop_at head (item.value ++ rest) (17 + item.form) long in
    ap (take (length item.value)) behind ∙ take_at item.value rest (length item.value) refl

-- what is kept of an item is the set that it is
kept_by : (b : Bool) (kind : ℕ) (bytes value : List ℕ) (at : ℕ) (klv : Klv) → klv.value_at ≡ at → take klv.value_len (drop klv.value_at bytes) ≡ value
    → sets_at bytes (kept (cond b (Some kind) None) klv) ≡ placed_at at (cond b (Some (read_set kind value)) None)
kept_by true kind bytes value at klv place is =
    let made : ℕ → List ℕ → List PlacedSet = λ at value. record { at = at; set = read_set kind value } ∷ [] in
    ap₂ made place is
kept_by false kind bytes value at klv place is = refl

-- the value of an item that was read
pub item_value : (bytes : List ℕ) (at : ℕ) (klv : Klv) (h : IsKlvAt bytes at klv) → take klv.value_len (drop klv.value_at bytes) ≡ h.item.value
item_value bytes at klv h =
    ap₂ (λ (n k : ℕ). take n (drop k bytes)) h.value_len h.value_at
    ∙ value_stands h.item h.stands.rest bytes at h.stands.is_item.key h.stands.bytes_are

-- lies within the bytes, as the item does
pub record IsWithin (bytes : List ℕ) (at : ℕ) (klv : Klv) (h : IsKlvAt bytes at klv) : Type 0 where
  pub value : klv.value_at + klv.value_len ≤ length bytes
  pub end : klv.end ≤ length bytes
  pub behind : drop klv.end bytes ≡ h.stands.rest

pub item_within : (bytes : List ℕ) (at : ℕ) (klv : Klv) (h : IsKlvAt bytes at klv) → at ≤ length bytes → IsWithin bytes at klv h
item_within bytes at klv h end =
    let item : Item = h.item in
    let rest : List ℕ = h.stands.rest in
    let ends = h.end in
    let value_at = h.value_at in
    let value_len = h.value_len in
    let long : length bytes ≡ at + (length (spelled item) + length rest) =
    omega (arith, length-drop at bytes, ap length h.stands.bytes_are, length-append (spelled item) rest) in
    let head : length (spelled item) ≡ 17 + item.form + length item.value =
    omega (
      arith,
      length-append (klv_head item.key item.form (length item.value)) item.value,
      length-klv_head item.key item.form (length item.value) h.stands.is_item.key,
    ) in
    record {
      value = omega (arith, long, head, value_at, value_len);
      end = omega (arith, long, ends);
      behind =
          ap (λ (n : ℕ). drop n bytes) ends ∙ sym (drop-drop (length (spelled item)) at bytes)
          ∙ ap (drop (length (spelled item))) h.stands.bytes_are ∙ drop_at (spelled item) rest (length (spelled item)) refl;
    }

kept_is : (bytes : List ℕ) (at : ℕ) (klv : Klv) (h : IsKlvAt bytes at klv) → sets_at bytes (kept (kind_of klv.key) klv) ≡ set_at at h.item
kept_is bytes at klv h =
    let item : Item = h.item in
    ap (λ (key : List ℕ). sets_at bytes (kept (kind_of key) klv)) h.key
    ∙ kept_by (is_set_key item.key) (slice_index item.key 14) bytes item.value (at + (17 + item.form)) klv h.value_at (item_value bytes at klv h)

-- and lies within the bytes
kept_within : (b : Bool) (kind len : ℕ) (klv : Klv) → klv.value_at + klv.value_len ≤ len → AreWithin len (kept (cond b (Some kind) None) klv)
kept_within true kind len klv h = (h, tt)
kept_within false kind len klv h = tt

pub passed_none : (bytes : List ℕ) (start : ℕ) → start ≤ length bytes → Passed bytes start start []
unfolding sets_from
passed_none bytes start h = record { items = []; each = tt; bytes_are = refl; place = omega arith; end = h; sets_are = refl; within = tt }

pub passed_more : (bytes : List ℕ) (start at : ℕ) (places : List SetPlace) (klv : Klv) → Passed bytes start at places → IsKlvAt bytes at klv
    → Passed bytes start klv.end (places ++ kept (kind_of klv.key) klv)
passed_more bytes start at places klv p h =
    let item : Item = h.item in
    let one : List Item = item ∷ [] in
    let rest : List ℕ = h.stands.rest in
    let place = p.place in
    let end = p.end in
    let ends = h.end in
    let inside = item_within bytes at klv h end in
    let all : flat_map spelled (p.items ++ one) ≡ flat_map spelled p.items ++ spelled item =
    flat_map-append spelled p.items one ∙ ap (λ (xs : List ℕ). flat_map spelled p.items ++ xs) (append-nil (spelled item)) in
    record {
      items = p.items ++ one;
      each = all_both IsItem p.items one p.each (h.stands.is_item, tt);
      bytes_are =
          p.bytes_are ∙ ap (λ (xs : List ℕ). flat_map spelled p.items ++ xs) (h.stands.bytes_are ∙ ap (λ (xs : List ℕ). spelled item ++ xs) (sym inside.behind))
          ∙ sym (append_assoc (flat_map spelled p.items) (spelled item) (drop klv.end bytes))
          ∙ ap (λ (xs : List ℕ). xs ++ drop klv.end bytes) (sym all);
      place = omega (arith, ends, place, ap length all, length-append (flat_map spelled p.items) (spelled item));
      end = inside.end;
      sets_are =
          map-append (placed bytes) places (kept (kind_of klv.key) klv)
          ∙ ap₂ (λ (xs ys : List PlacedSet). xs ++ ys) p.sets_are (kept_is bytes at klv h ∙ ap (λ (n : ℕ). set_at n item) place)
          ∙ sym (sets_more start p.items item);
      within = all_both (λ (q : SetPlace). q.value_at + q.value_len ≤ length bytes) places (kept (kind_of klv.key) klv) p.within
          (kept_within (is_set_key klv.key) (slice_index klv.key 14) (length bytes) klv inside.value);
    }

-- nothing is left
pub outline_all : (bytes : List ℕ) (start : ℕ) (outline : Outline) → Passed bytes start outline.stop outline.sets.items → length bytes ≤ outline.stop
    → IsOutline bytes start outline
outline_all bytes start outline p past = record {
  items = p.items;
  are_first = record { each = p.each; bytes_are = p.bytes_are; ends = inl (drop_all outline.stop bytes past) };
  place = p.place;
  end = p.end;
  sets_are = p.sets_are;
  within = p.within;
}

-- or what is left begins with no item
pub outline_part : (bytes : List ℕ) (start : ℕ) (outline : Outline) → Passed bytes start outline.stop outline.sets.items → ¬ HasItemAt bytes outline.stop
    → IsOutline bytes start outline
outline_part bytes start outline p none = record {
  items = p.items;
  are_first = record {
    each = p.each;
    bytes_are = p.bytes_are;
    ends = inr (λ (h : HasItemAt (drop outline.stop bytes) 0). none (h.0, record { is_item = h.1.is_item; rest = h.1.rest; bytes_are = h.1.bytes_are }));
  };
  place = p.place;
  end = p.end;
  sets_are = p.sets_are;
  within = p.within;
}

-- A walk over items of key, length and value.
use Rattle.std.proofs.Common.{◌≡◌, ℕ, ◌+◌, ◌<◌, ◌≤◌, List, [], ◌∷◌, ◌++◌, length, take, drop, refl, sym, ap, ap₂, subst, ◌∙◌, arith, append_assoc, length-append}
use Rattle.std.proofs.lemmas.List.{length-drop, drop-drop, drop_at, take_at, drop_all}
use Rattle.std.specs.List.{flat_map}
use Rattle.klv.specs.Items.{AreItems, Item, IsItem, spelled, klv_head}
use Rattle.klv.specs.Reads.{HasItemAt, IsKlvAt}
use Rattle.klv.specs.laws.Lengths.{length-klv_head}
use Rattle.klv.specs.declared.item.Klv.{Klv}

-- no item begins another
abbrev pub IsLaw : Type 0
IsLaw = (a b : Item) (x y : List ℕ) → IsItem a → IsItem b → spelled a ++ x ≡ spelled b ++ y → (a ≡ b) × (x ≡ y)

-- the value of an item that was read, and what is behind it
pub record Stands (bytes : List ℕ) (at : ℕ) (klv : Klv) (item : Item) : Type 0 where
  pub key : klv.key ≡ item.key
  pub value : take klv.value_len (drop klv.value_at bytes) ≡ item.value
  pub within : klv.value_at + klv.value_len ≤ length bytes
  pub end : klv.end ≤ length bytes
  pub goes : at < klv.end
  pub end_is : klv.end ≡ at + length (spelled item)

pub head_long : (item : Item) → length item.key ≡ 16 → length (spelled item) ≡ 17 + item.form + length item.value
head_long item key =
    omega (arith, length-append (klv_head item.key item.form (length item.value)) item.value, length-klv_head item.key item.form (length item.value) key)

value_stands : (item : Item) (rest bytes : List ℕ) (at : ℕ) → length item.key ≡ 16 → drop at bytes ≡ spelled item ++ rest
    → take (length item.value) (drop (at + (17 + item.form)) bytes) ≡ item.value
value_stands item rest bytes at key e =
    let head : List ℕ = klv_head item.key item.form (length item.value) in
    let long : length head ≡ 17 + item.form = length-klv_head item.key item.form (length item.value) key in
    let behind : drop (at + (17 + item.form)) bytes ≡ item.value ++ rest =
    ap (λ (n : ℕ). drop n bytes) (omega arith) ∙ sym (drop-drop (17 + item.form) at bytes)
    ∙ ap (drop (17 + item.form)) (e ∙ append_assoc head item.value rest)
    ∙ drop_at head (item.value ++ rest) (17 + item.form) long in
    ap (take (length item.value)) behind ∙ take_at item.value rest (length item.value) refl

pub stands_so : (bytes : List ℕ) (at : ℕ) (klv : Klv) (h : IsKlvAt bytes at klv) → at ≤ length bytes → Stands bytes at klv h.item
stands_so bytes at klv h end =
    let item : Item = h.item in
    let rest : List ℕ = h.stands.rest in
    let ends = h.end in
    let value_at = h.value_at in
    let value_len = h.value_len in
    let long : length bytes ≡ at + (length (spelled item) + length rest) =
    omega (arith, length-drop at bytes, ap length h.stands.bytes_are, length-append (spelled item) rest) in
    let head = head_long item h.stands.is_item.key in
    record {
      key = h.key;
      value =
          ap₂ (λ (n k : ℕ). take n (drop k bytes)) h.value_len h.value_at
          ∙ value_stands item rest bytes at h.stands.is_item.key h.stands.bytes_are;
      within = omega (arith, long, head, value_at, value_len);
      end = omega (arith, long, ends);
      goes = omega (arith, head, ends);
      end_is = ends;
    }

behind_is : (bytes : List ℕ) (at : ℕ) (klv : Klv) (h : IsKlvAt bytes at klv) → drop klv.end bytes ≡ h.stands.rest
behind_is bytes at klv h =
    ap (λ (n : ℕ). drop n bytes) h.end ∙ sym (drop-drop (length (spelled h.item)) at bytes)
    ∙ ap (drop (length (spelled h.item))) h.stands.bytes_are ∙ drop_at (spelled h.item) h.stands.rest (length (spelled h.item)) refl

-- of items that stand from a place on, the first and those behind it
pub record Goes (bytes : List ℕ) (at : ℕ) (klv : Klv) (items : List Item) : Type 0 where
  pub item : Item
  pub rest : List Item
  pub items_are : items ≡ item ∷ rest
  pub stands : Stands bytes at klv item
  pub behind : AreItems (drop klv.end bytes) rest

pub none_there : (bytes : List ℕ) (at : ℕ) → at < length bytes → AreItems (drop at bytes) [] → ⊥
none_there bytes at lt are = let long = length-drop at bytes in let e = ap length are.bytes_are in omega (arith, long, e)

pub first_goes : IsLaw → (bytes : List ℕ) (at : ℕ) (klv : Klv) (items : List Item) → at < length bytes → IsKlvAt bytes at klv → AreItems (drop at bytes) items
    → Goes bytes at klv items
first_goes law bytes at klv [] lt h are = absurd (none_there bytes at lt are)
first_goes law bytes at klv (item ∷ rest) lt h are =
    let same = law h.item item h.stands.rest (flat_map spelled rest) h.stands.is_item are.each.0
    (sym h.stands.bytes_are ∙ are.bytes_are) in
    record {
      item = item;
      rest = rest;
      items_are = refl;
      stands = subst (Stands bytes at klv) same.0 (stands_so bytes at klv h (omega arith));
      behind = record { bytes_are = behind_is bytes at klv h ∙ same.1; each = are.each.1 };
    }

-- the first of them at the front
pub record Front (bytes : List ℕ) (klv : Klv) (item : Item) (rest : List Item) : Type 0 where
  pub stands : Stands bytes 0 klv item
  pub behind : AreItems (drop klv.end bytes) rest

pub front_goes : IsLaw → (bytes : List ℕ) (klv : Klv) (item : Item) (rest : List Item) → IsKlvAt bytes 0 klv → AreItems bytes (item ∷ rest) → Front bytes klv item rest
front_goes law bytes klv item rest h are =
    let same = law h.item item h.stands.rest (flat_map spelled rest) h.stands.is_item are.each.0 (sym h.stands.bytes_are ∙ are.bytes_are) in
    record {
      stands = subst (Stands bytes 0 klv) same.0 (stands_so bytes 0 klv h (omega arith));
      behind = record { bytes_are = behind_is bytes 0 klv h ∙ same.1; each = are.each.1 };
    }

pub none_front : (bytes : List ℕ) (item : Item) (rest : List Item) → ¬ HasItemAt bytes 0 → AreItems bytes (item ∷ rest) → ⊥
none_front bytes item rest none are = none (item, record { is_item = are.each.0; rest = flat_map spelled rest; bytes_are = are.bytes_are })

-- where none stands, they are none
pub none_stands : (bytes : List ℕ) (at : ℕ) (items : List Item) → at < length bytes → ¬ HasItemAt bytes at → AreItems (drop at bytes) items → ⊥
none_stands bytes at [] lt none are = none_there bytes at lt are
none_stands bytes at (item ∷ rest) lt none are =
    none (item, record { is_item = are.each.0; rest = flat_map spelled rest; bytes_are = are.bytes_are })

-- at the end they are none
pub all_passed : (bytes : List ℕ) (at : ℕ) (items : List Item) → length bytes ≤ at → AreItems (drop at bytes) items → items ≡ []
all_passed bytes at [] past are = refl
all_passed bytes at (item ∷ rest) past are =
    let head = head_long item are.each.0.key in
    let e = ap length are.bytes_are in
    let long = length-append (spelled item) (flat_map spelled rest) in
    let empty = ap length (drop_all at bytes past) in
    absurd (omega (arith, head, e, long, empty))

-- of items, those that are left from a place on, of which something holds
pub record Left (bytes : List ℕ) (place : ℕ) (Holds : List Item → Type 0) : Type 0 where
  pub rest : List Item
  pub are : AreItems (drop place bytes) rest
  pub holds : Holds rest

-- The item with which bytes begin.
use Rattle.std.proofs.Common.{◌≡◌, ℕ, ◌-◌, ◌≤◌, List, ◌++◌, length, take, drop, sym, ap, ◌∙◌, arith, append_assoc}
use Rattle.std.proofs.lemmas.List.{length-append, take_at, drop_at}
use Rattle.klv.specs.Items.{Item, IsItem, spelled, klv_head}
use Rattle.klv.specs.Reads.{IsItemAt, IsKlvAt}
use Rattle.klv.specs.laws.Lengths.{length-klv_head, length-spelled}
use Rattle.klv.specs.declared.item.Klv.{Klv}

-- no item begins another
abbrev pub First : Type 0
First = (a b : Item) (x y : List ℕ) → IsItem a → IsItem b → spelled a ++ x ≡ spelled b ++ y → (a ≡ b) × (x ≡ y)

-- so one stands there at most
pub one_at : First → (bytes : List ℕ) (a b : Item) → IsItemAt bytes 0 a → IsItemAt bytes 0 b → a ≡ b
one_at first bytes a b p q = (first a b p.rest q.rest p.is_item q.is_item (sym p.bytes_are ∙ q.bytes_are)).0

-- where its value stands
pub record HasValue (bytes : List ℕ) (klv : Klv) (value : List ℕ) : Type 0 where
  pub before : klv.value_at ≤ klv.end
  pub within : klv.end ≤ length bytes
  pub long : klv.end - klv.value_at ≡ length value
  pub taken : take (klv.end - klv.value_at) (drop klv.value_at bytes) ≡ value

pub has_value : (bytes : List ℕ) (klv : Klv) (k : IsKlvAt bytes 0 klv) → HasValue bytes klv k.item.value
has_value bytes klv k =
    let item : Item = k.item in
    let head : List ℕ = klv_head item.key item.form (length item.value) in
    let rest : List ℕ = k.stands.rest in
    let is = k.stands.is_item in
    let value_at = k.value_at in
    let end = k.end in
    let long = length-spelled item is.key in
    let whole : bytes ≡ head ++ (item.value ++ rest) = k.stands.bytes_are ∙ append_assoc head item.value rest in
    let size : klv.end - klv.value_at ≡ length item.value = omega (arith, value_at, end, long) in
    let before : length head ≡ klv.value_at = omega (arith, value_at, length-klv_head item.key item.form (length item.value) is.key) in
    let behind : drop klv.value_at bytes ≡ item.value ++ rest = ap (drop klv.value_at) whole ∙ drop_at head (item.value ++ rest) klv.value_at before in
    record {
      before = omega (arith, value_at, end, long);
      within = omega (arith, end, ap length k.stands.bytes_are, length-append (spelled item) rest);
      long = size;
      taken = ap (take (klv.end - klv.value_at)) behind ∙ take_at item.value rest (klv.end - klv.value_at) (sym size);
    }

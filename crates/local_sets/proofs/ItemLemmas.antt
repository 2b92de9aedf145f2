-- No item of a set begins another, so bytes are one list of items at most.
use Rattle.std.proofs.Common.{◌≡◌, ℕ, ◌<◌, ◌^◌, List, [], ◌∷◌, ◌++◌, length, take, drop, map, refl, sym, ap, ap₂, ◌∙◌, arith}
use Rattle.std.proofs.lemmas.List.{take_at, drop_at}
use Rattle.std.proofs.lemmas.List.Folds.{flat_map-map}
use Rattle.std.specs.List.{AllByRecursion}
use Rattle.byteorder.specs.Endian.{big_bytes, big_from}
use Rattle.byteorder.specs.Numbers.{big_number-reads_back}
use Rattle.local_sets.specs.declared.set.Item.{Item}
use Rattle.local_sets.specs.Sets.{IsRawItem, IsSet, RawItem, raw, raw_bytes, set_item, set_value}

-- where two fronts of one length begin the same bytes, fronts and rests are the same
same_front : (p q x y : List ℕ) → length p ≡ length q → p ++ x ≡ q ++ y → (p ≡ q) × (x ≡ y)
same_front p q x y l e = (
  sym (take_at p x (length p) refl) ∙ ap (take (length p)) e ∙ take_at q y (length p) (sym l),
  sym (drop_at p x (length p) refl) ∙ ap (drop (length p)) e ∙ drop_at q y (length p) (sym l),
)

-- two bytes tell their number
same_number : (m n : ℕ) → m < 2 ^ 16 → n < 2 ^ 16 → big_bytes 2 m ≡ big_bytes 2 n → m ≡ n
same_number m n a b e =
    sym (big_number-reads_back 2 m [] a) ∙ ap (λ (bytes : List ℕ). big_from 0 2 (bytes ++ [])) e ∙ big_number-reads_back 2 n [] b

-- an item is its tag and its value
same_item : (a b : RawItem) → a.tag ≡ b.tag → a.value ≡ b.value → a ≡ b
same_item a b t v =
    let made : ℕ → List ℕ → RawItem = λ tag value. record { tag = tag; value = value } in
    ap₂ made t v

-- no item begins another
pub first_is_one : (a b : RawItem) (x y : List ℕ) → IsRawItem a → IsRawItem b → raw_bytes a ++ x ≡ raw_bytes b ++ y → (a ≡ b) × (x ≡ y)
first_is_one a b x y p q e =
    let tag = same_front (big_bytes 2 a.tag) (big_bytes 2 b.tag) (big_bytes 2 (length a.value) ++ (a.value ++ x)) (big_bytes 2 (length b.value) ++ (b.value ++ y)) refl e in
    let len = same_front (big_bytes 2 (length a.value)) (big_bytes 2 (length b.value)) (a.value ++ x) (b.value ++ y) refl tag.1 in
    let long = same_number (length a.value) (length b.value) p.fits q.fits len.0 in
    let value = same_front a.value b.value x y long len.1 in
    (same_item a b (same_number a.tag b.tag p.tag q.tag tag.0) value.0, value.1)

-- bytes are one list of items at most
pub list_is_one : (a b : List RawItem) → AllByRecursion IsRawItem a → AllByRecursion IsRawItem b → set_value a ≡ set_value b → a ≡ b
list_is_one [] [] p q e = refl
list_is_one [] (j ∷ b) p q e = absurd (omega (arith, ap length e))
list_is_one (i ∷ a) [] p q e = absurd (omega (arith, ap length e))
list_is_one (i ∷ a) (j ∷ b) p q e =
    let one = first_is_one i j (set_value a) (set_value b) p.0 q.0 e in
    ap₂ (λ x xs. x ∷ xs) one.0 (list_is_one a b p.1 q.1 one.1)

-- each item of ours fits as it stands in a set
each_is : (items : List Item) → AllByRecursion (λ item. IsRawItem (raw item)) items → AllByRecursion IsRawItem (map raw items)
each_is [] h = tt
each_is (item ∷ items) h = (h.0, each_is items h.1)

-- a set of ours is a set of these items
pub ours : (key : List ℕ) (items : List Item) → AllByRecursion (λ item. IsRawItem (raw item)) items → IsSet (set_item key items) key (map raw items)
ours key items h = record { keyed = refl; value = sym (flat_map-map raw_bytes raw items); each = each_is items h }

-- No item begins another, so bytes are one list of items at most.
use Rattle.std.proofs.Common.{◌≡◌, ℕ, zero, suc, ◌+◌, ◌<◌, List, [], ◌∷◌, ◌++◌, length, take, drop, refl, sym, ap, ap₂, ◌∙◌, arith, append_assoc, append-nil}
use Rattle.std.proofs.lemmas.List.{take_at, drop_at, take-append-drop, length-append, length-drop, length-take}
use Rattle.std.specs.List.{flat_map, AllByRecursion}
use Rattle.byteorder.specs.Endian.{big_bytes, big_from}
use Rattle.byteorder.specs.Numbers.{big_number-reads_back, length-bytes_high_first}
use Rattle.klv.specs.Items.{Item, IsItem, AreItems, EndsInside, item_of, spelled, length_bytes, length_limit}

-- where two fronts of one length begin the same bytes, fronts and rests are the same
same_front : (p q x y : List ℕ) → length p ≡ length q → p ++ x ≡ q ++ y → (p ≡ q) × (x ≡ y)
same_front p q x y l e = (
  sym (take_at p x (length p) refl) ∙ ap (take (length p)) e ∙ take_at q y (length p) (sym l),
  sym (drop_at p x (length p) refl) ∙ ap (drop (length p)) e ∙ drop_at q y (length p) (sym l),
)

-- a spelled length tells its form and its number, whatever follows it
same_length : (f g m n : ℕ) (x y : List ℕ) → m < length_limit f → n < length_limit g → length_bytes f m ++ x ≡ length_bytes g n ++ y → (f ≡ g) × (m ≡ n) × (x ≡ y)
unfolding length_bytes length_limit
same_length zero zero m n x y a b e = (refl, cc, cc)
same_length zero (suc g) m n x y a b e = let first : m ≡ 128 + suc g = cc in absurd (omega arith)
same_length (suc f) zero m n x y a b e = let first : 128 + suc f ≡ n = cc in absurd (omega arith)
same_length (suc f) (suc g) m n x y a b e =
    let first : 128 + suc f ≡ 128 + suc g = cc in
    let form : suc f ≡ suc g = omega arith in
    let rest : big_bytes (suc f) m ++ x ≡ big_bytes (suc g) n ++ y = cc in
    let long = length-bytes_high_first (suc f) m ∙ form ∙ sym (length-bytes_high_first (suc g) n) in
    let parts = same_front (big_bytes (suc f) m) (big_bytes (suc g) n) x y long rest in
    let number = sym (big_number-reads_back (suc f) m [] a) ∙ ap₂ (λ k bytes. big_from 0 k (bytes ++ [])) form parts.0 ∙ big_number-reads_back (suc g) n [] b in
    (form, number, parts.1)

-- an item is its three parts
same_item : (a b : Item) → a.key ≡ b.key → a.form ≡ b.form → a.value ≡ b.value → a ≡ b
same_item a b k f v = ap₂ (λ key form. item_of key form a.value) k f ∙ ap (item_of b.key b.form) v

-- no item begins another
pub first_is_one : (a b : Item) (x y : List ℕ) → IsItem a → IsItem b → spelled a ++ x ≡ spelled b ++ y → (a ≡ b) × (x ≡ y)
first_is_one a b x y p q e =
    let whole : a.key ++ (length_bytes a.form (length a.value) ++ (a.value ++ x)) ≡ b.key ++ (length_bytes b.form (length b.value) ++ (b.value ++ y)) = simp append_assoc at e in
    let key = same_front a.key b.key _ _ (p.key ∙ sym q.key) whole in
    let len = same_length a.form b.form (length a.value) (length b.value) _ _ p.fits q.fits key.1 in
    let value = same_front a.value b.value x y len.1 len.2 in
    (same_item a b key.0 len.0 value.0, value.1)

-- an item has bytes
spelled_some : (a : Item) → IsItem a → 0 < length (spelled a)
spelled_some a p = simp length-append (omega (arith, p.key))

-- bytes are one list of items at most
pub list_is_one : (a b : List Item) → AllByRecursion IsItem a → AllByRecursion IsItem b → flat_map spelled a ≡ flat_map spelled b → a ≡ b
list_is_one [] [] p q e = refl
list_is_one [] (i ∷ b) p q e = let some = spelled_some i q.0 in absurd (omega (arith, ap length e, length-append (spelled i) (flat_map spelled b)))
list_is_one (i ∷ a) [] p q e = let some = spelled_some i p.0 in absurd (omega (arith, ap length e, length-append (spelled i) (flat_map spelled a)))
list_is_one (i ∷ a) (j ∷ b) p q e =
    let one = first_is_one i j (flat_map spelled a) (flat_map spelled b) p.0 q.0 e in
    ap₂ (λ x xs. x ∷ xs) one.0 (list_is_one a b p.1 q.1 one.1)

-- a part of an item is no list of items
part_is_none : (i : Item) (n : ℕ) (items : List Item) → IsItem i → 0 < n → n < length (spelled i) → AllByRecursion IsItem items → take n (spelled i) ≡ flat_map spelled items → ⊥
part_is_none i n [] p some cut q e = omega (arith, ap length e, length-take n (spelled i))
part_is_none i n (j ∷ items) p some cut q e =
    let whole : spelled i ++ [] ≡ spelled j ++ (flat_map spelled items ++ drop n (spelled i)) =
    append-nil (spelled i) ∙ sym (take-append-drop n (spelled i)) ∙ ap (λ bytes. bytes ++ drop n (spelled i)) e ∙ append_assoc (spelled j) (flat_map spelled items) (drop n (spelled i)) in
    let one = first_is_one i j [] (flat_map spelled items ++ drop n (spelled i)) p q.0 whole in
    omega (arith, ap length one.1, length-append (flat_map spelled items) (drop n (spelled i)), length-drop n (spelled i))

-- what ends inside an item is no list of items
cut_is_none : (before items : List Item) (i : Item) (n : ℕ) → AllByRecursion IsItem before → IsItem i → 0 < n → n < length (spelled i) → AllByRecursion IsItem items → flat_map spelled before ++ take n (spelled i) ≡ flat_map spelled items → ⊥
cut_is_none [] items i n p is some cut q e = part_is_none i n items is some cut q e
cut_is_none (j ∷ before) [] i n p is some cut q e =
    let more = spelled_some j p.0 in
    omega (arith, ap length e, length-append (spelled j ++ flat_map spelled before) (take n (spelled i)), length-append (spelled j) (flat_map spelled before))
cut_is_none (j ∷ before) (k ∷ items) i n p is some cut q e =
    let one = first_is_one j k (flat_map spelled before ++ take n (spelled i)) (flat_map spelled items) p.0 q.0 (sym (append_assoc (spelled j) (flat_map spelled before) (take n (spelled i))) ∙ e) in
    cut_is_none before items i n p.1 is some cut q.1 one.1

-- the same of bytes that are known to end inside an item
pub ends_inside_is_none : (bytes : List ℕ) (items : List Item) → EndsInside bytes → AreItems bytes items → ⊥
ends_inside_is_none bytes items c a = cut_is_none c.before items c.item c.part c.each c.is_item c.some c.cut a.each (sym c.bytes_are ∙ a.bytes_are)

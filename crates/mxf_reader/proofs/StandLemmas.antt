-- What bytes at a place tell of the item that stands there.
use Rattle.std.proofs.Common.{◌≡◌, ℕ, ◌+◌, ◌≤◌, min, List, ◌++◌, length, take, drop, refl, sym, ap, ◌∙◌, inl, inr, arith, append_assoc}
use Rattle.std.proofs.lemmas.Bool.{cases_lt}
use Rattle.std.proofs.lemmas.List.{drop-drop, drop_at, take_at, take_all, take-take}
use Rattle.klv.specs.Items.{Item, klv_head, length_bytes}
use Rattle.klv.specs.laws.Lengths.{length-klv_head}
use Rattle.klv.specs.Reads.{IsItemAt}

-- it begins with its key
pub key_stands : (bytes : List ℕ) (at : ℕ) (item : Item) → IsItemAt bytes at item → take 16 (drop at bytes) ≡ item.key
key_stands bytes at item s =
    let lens : List ℕ = length_bytes item.form (length item.value) in
    ap (take 16) (s.bytes_are ∙ append_assoc (item.key ++ lens) item.value s.rest ∙ append_assoc item.key lens (item.value ++ s.rest))
    ∙ take_at item.key (lens ++ (item.value ++ s.rest)) 16 s.is_item.key

-- behind its head stands its value
pub value_stands : (bytes : List ℕ) (at : ℕ) (item : Item) (s : IsItemAt bytes at item) → drop (at + (17 + item.form)) bytes ≡ item.value ++ s.rest
value_stands bytes at item s =
    let head : List ℕ = klv_head item.key item.form (length item.value) in
    sym (drop-drop (17 + item.form) at bytes)
    ∙ ap (drop (17 + item.form)) (s.bytes_are ∙ append_assoc head item.value s.rest)
    ∙ drop_at head (item.value ++ s.rest) (17 + item.form) (length-klv_head item.key item.form (length item.value) s.is_item.key)

take_front : (xs ys : List ℕ) (k : ℕ) → k ≤ length xs → take k (xs ++ ys) ≡ take k xs
take_front xs ys k le = sym (take-take k (length xs) (xs ++ ys) le) ∙ ap (take k) (take_at xs ys (length xs) refl)

-- the first bytes of the value
value_read : (bytes front : List ℕ) (at value_at count : ℕ) (item : Item) → IsItemAt bytes at item → value_at ≡ at + (17 + item.form)
    → count ≤ length item.value → take count front ≡ take count (drop value_at bytes) → take count front ≡ take count item.value
value_read bytes front at value_at count item s e le read =
    read ∙ ap (λ (n : ℕ). take count (drop n bytes)) e ∙ ap (take count) (value_stands bytes at item s) ∙ take_front item.value s.rest count le

front_taken : (value front : List ℕ) (value_len count : ℕ) → value_len ≡ length value → count ≡ min value_len 104 → take count front ≡ take count value
    → take 104 value ≡ take 104 (take count front)
front_taken value front value_len count len c read = elim (cases_lt value_len 104) [
  | inl short ↦ ap (take 104) (sym (take_all count value (omega arith)) ∙ sym read)
  | inr long ↦ sym (ap (take 104) read ∙ take-take 104 count value (omega arith))
]

-- as many of them as say what a pack says
pub pack_front : (bytes front : List ℕ) (at value_at value_len count : ℕ) (item : Item) → IsItemAt bytes at item → value_at ≡ at + (17 + item.form)
    → value_len ≡ length item.value → count ≡ min value_len 104 → take count front ≡ take count (drop value_at bytes)
    → take 104 item.value ≡ take 104 (take count front)
pack_front bytes front at value_at value_len count item s e len c read =
    front_taken item.value front value_len count len c (value_read bytes front at value_at count item s e (omega arith) read)

-- as many bytes as there are, up to 25
pub front_whole : (rest front : List ℕ) (count left : ℕ) → left ≡ length rest → count ≡ min left 25 → take count front ≡ take count rest
    → take count front ≡ take 25 rest
front_whole rest front count left s e read = elim (cases_lt left 25) [
  | inl short ↦ read ∙ take_all count rest (omega arith) ∙ sym (take_all 25 rest (omega arith))
  | inr long ↦ let full : count ≡ 25 = omega arith in read ∙ ap (λ (k : ℕ). take k rest) full
]

-- the first 16 of them are the item's key
pub front_key : (bytes front : List ℕ) (at count : ℕ) (item : Item) → IsItemAt bytes at item → 16 ≤ count → take count front ≡ take 25 (drop at bytes)
    → take 16 front ≡ item.key
front_key bytes front at count item s some read =
    sym (take-take 16 count front some) ∙ ap (take 16) read ∙ take-take 16 25 (drop at bytes) (omega arith) ∙ key_stands bytes at item s

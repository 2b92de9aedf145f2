-- Laws of the lengths of values and sets: proved here, for proofs to cite.
use Rattle.std.proofs.Common.{◌≡◌, ℕ, ◌+◌, ◌*◌, ◌≤◌, List, [], ◌∷◌, ◌++◌, length, take, Some, None, refl, arith, length-append}
use Rattle.std.proofs.lemmas.List.{length-take-le}
use Rattle.std.specs.List.{AllByRecursion}
use Rattle.klv.specs.laws.Lengths.{length-spelled}
use Rattle.klv.specs.declared.head.TheConstants.{SET_HEAD_LEN}
use Rattle.local_sets.specs.Values.{value_bytes, utf16_bytes}
use Rattle.local_sets.specs.Sets.{item_bytes, items_bytes, set_item, local_set}
use Rattle.local_sets.specs.declared.set.Item.{Item}
use Rattle.local_sets.specs.declared.value.Value.{Value}
use Rattle.local_sets.specs.declared.value.Value.TheVariants.{Byte, Short, Word, Long, Ratio, Duration, Label, Umid, EmptyBatch, BatchOfOne, BatchOfTwo, Text}

-- bytes of a value whose labels, identifiers and texts have the sizes of their types
abbrev pub value_size : Value → ℕ
value_size (Byte number) = 1
value_size (Short number) = 2
value_size (Word number) = 4
value_size (Long number) = 8
value_size (Ratio numerator denominator) = 8
value_size (Duration count) = 8
value_size (Label bytes) = 16
value_size (Umid bytes) = 32
value_size EmptyBatch = 8
value_size (BatchOfOne item) = 24
value_size (BatchOfTwo first second) = 40
value_size (Text letters count) = 2 * count

-- labels, identifiers and texts have these sizes
abbrev pub IsSized : Value → Type 0
IsSized (Byte number) = Unit {0}
IsSized (Short number) = Unit {0}
IsSized (Word number) = Unit {0}
IsSized (Long number) = Unit {0}
IsSized (Ratio numerator denominator) = Unit {0}
IsSized (Duration count) = Unit {0}
IsSized (Label bytes) = length bytes ≡ 16
IsSized (Umid bytes) = length bytes ≡ 32
IsSized EmptyBatch = Unit {0}
IsSized (BatchOfOne item) = length item ≡ 16
IsSized (BatchOfTwo first second) = (length first ≡ 16) × (length second ≡ 16)
IsSized (Text letters count) = count ≤ length letters

-- bytes of such items
abbrev pub items_size : List Item → ℕ
items_size [] = 0
items_size (item ∷ items) = 4 + value_size item.value + items_size items

-- a text has two bytes a letter
pub length-utf16_bytes : (letters : List ℕ) → length (utf16_bytes letters) ≡ 2 * length letters
length-utf16_bytes [] = refl
length-utf16_bytes (letter ∷ letters) = let rest = length-utf16_bytes letters in omega arith

-- a value has its size
pub length-value_bytes : (value : Value) → IsSized value → length (value_bytes value) ≡ value_size value
length-value_bytes (Byte number) h = refl
length-value_bytes (Short number) h = refl
length-value_bytes (Word number) h = refl
length-value_bytes (Long number) h = refl
length-value_bytes (Ratio numerator denominator) h = refl
length-value_bytes (Duration None) h = refl
length-value_bytes (Duration (Some count)) h = refl
length-value_bytes (Label bytes) h = h
length-value_bytes (Umid bytes) h = h
length-value_bytes EmptyBatch h = refl
length-value_bytes (BatchOfOne item) h = omega (arith, length-append item [], h)
length-value_bytes (BatchOfTwo first second) h =
    omega (arith, length-append first (second ++ []), length-append second [], h.0, h.1)
length-value_bytes (Text letters count) h = omega (arith, length-utf16_bytes (take count letters), length-take-le count letters h)

-- items have theirs
pub length-items_bytes : (items : List Item) → AllByRecursion (λ item. IsSized item.value) items → length (items_bytes items) ≡ items_size items
length-items_bytes [] h = refl
length-items_bytes (item ∷ items) h =
    let value = length-value_bytes item.value h.0 in
    let rest = length-items_bytes items h.1 in
    omega (arith, length-append (item_bytes item) (items_bytes items))

-- a set has 20 bytes more than its items
pub length-local_set : (key : List ℕ) (items : List Item) → length key ≡ 16 → length (local_set key items) ≡ SET_HEAD_LEN + length (items_bytes items)
unfolding local_set
length-local_set key items h = length-spelled (set_item key items) h

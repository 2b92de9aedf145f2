-- Laws of the items that are read of bytes: proved here, for proofs to cite.
use Rattle.std.proofs.Common.{◌≡◌, inl, inr, ℕ, zero, suc, ◌+◌, ◌<◌, ◌≤◌, nat_lt, true, false, List, [], ◌∷◌, ◌++◌, length, take, drop, Option, Some}
use Rattle.std.proofs.Common.{None, refl, sym, ap, ap₂, subst, ◌∙◌, arith, append_assoc, length-append}
use Rattle.std.proofs.lemmas.Bool.{cases_lt, lt-ltb, le-ltb}
use Rattle.std.proofs.lemmas.List.{length-drop, length-take-le, take-append-drop, drop-drop, take_at, drop_at, get_or-take, get_or-drop, get_or_past}
use Rattle.std.specs.List.{AllByRecursion}
use Rattle.byteorder.specs.Endian.{big_bytes, big_number}
use Rattle.byteorder.specs.Numbers.{big_number-reads_back, big_from-lt, big_from-take}
use Rattle.local_sets.specs.Sets.{IsRawItem, RawItem, raw_bytes, set_value}
use Rattle.local_sets.specs.Reads.{first_item, first_items, rest_behind, items_in, rest_in, item_len}
use Rattle.local_sets.specs.laws.Numbers.{AreBytes, bytes_back}

-- what an item with which bytes begin is
pub record Begins (bytes : List ℕ) (item : RawItem) : Type 0 where
  pub tag : item.tag ≡ big_number 2 bytes
  pub len : length item.value ≡ big_number 2 (drop 2 bytes)
  pub value : item.value ≡ take (length item.value) (drop 4 bytes)
  pub within : item_len item ≤ length bytes

-- there are two numbers and the value that the second one counts
begins_whole : (bytes : List ℕ) → 4 ≤ length bytes → 4 + big_number 2 (drop 2 bytes) ≤ length bytes
    → Begins bytes (record { tag = big_number 2 bytes; value = take (big_number 2 (drop 2 bytes)) (drop 4 bytes) })
begins_whole bytes head whole =
    let len : ℕ = big_number 2 (drop 2 bytes) in
    let long : length (take len (drop 4 bytes)) ≡ len = length-take-le len (drop 4 bytes) (omega (arith, length-drop 4 bytes)) in
    record { tag = refl; len = long; value = ap (λ (n : ℕ). take n (drop 4 bytes)) (sym long); within = omega (arith, long) }

pub begins : (bytes : List ℕ) (item : RawItem) → first_item bytes ≡ Some item → Begins bytes item
unfolding first_item
begins bytes item e = elim (cases_lt (length bytes) 4) [
  | inl short ↦
      let t : nat_lt (length bytes) 4 ≡ true = lt-ltb (length bytes) 4 short in
      let bad = rw t at e in
      absurd (cc)
  | inr head ↦
      let t : nat_lt (length bytes) 4 ≡ false = le-ltb (length bytes) 4 head in
      let e1 = rw t at e in
      let len : ℕ = big_number 2 (drop 2 bytes) in
      elim (cases_lt (length bytes) (4 + len)) [
        | inl short ↦
            let k : nat_lt (length bytes) (4 + len) ≡ true = lt-ltb (length bytes) (4 + len) short in
            let bad = rw k at e1 in
            absurd (cc)
        | inr whole ↦
            let k : nat_lt (length bytes) (4 + len) ≡ false = le-ltb (length bytes) (4 + len) whole in
            let e2 = rw k at e1 in
            let made : RawItem = record { tag = big_number 2 bytes; value = take len (drop 4 bytes) } in
            let is : made ≡ item = cc in
            subst (Begins bytes) is (begins_whole bytes head whole)
      ]
]

-- where there are, an item is read
pub first_whole : (bytes : List ℕ) → 4 ≤ length bytes → 4 + big_number 2 (drop 2 bytes) ≤ length bytes
    → first_item bytes ≡ Some (record { tag = big_number 2 bytes; value = take (big_number 2 (drop 2 bytes)) (drop 4 bytes) })
unfolding first_item
first_whole bytes head whole =
    let t : nat_lt (length bytes) 4 ≡ false = le-ltb (length bytes) 4 head in
    let k : nat_lt (length bytes) (4 + big_number 2 (drop 2 bytes)) ≡ false = le-ltb (length bytes) (4 + big_number 2 (drop 2 bytes)) whole in
    rw (t, k) refl

-- and where there are not, none is
pub first_short : (bytes : List ℕ) → length bytes < 4 → first_item bytes ≡ None
unfolding first_item
first_short bytes short =
    let t : nat_lt (length bytes) 4 ≡ true = lt-ltb (length bytes) 4 short in
    rw t refl

pub first_cut : (bytes : List ℕ) → 4 ≤ length bytes → length bytes < 4 + big_number 2 (drop 2 bytes) → first_item bytes ≡ None
unfolding first_item
first_cut bytes head short =
    let t : nat_lt (length bytes) 4 ≡ false = le-ltb (length bytes) 4 head in
    let k : nat_lt (length bytes) (4 + big_number 2 (drop 2 bytes)) ≡ true = lt-ltb (length bytes) (4 + big_number 2 (drop 2 bytes)) short in
    rw (t, k) refl

-- one item and those behind it
some_items : (more : ℕ) (bytes : List ℕ) (item : RawItem) → first_item bytes ≡ Some item
    → first_items (suc more) bytes ≡ item ∷ first_items more (drop (item_len item) bytes)
unfolding first_items
some_items more bytes item e = rw (e, first_items) refl

some_rest : (more : ℕ) (bytes : List ℕ) (item : RawItem) → first_item bytes ≡ Some item
    → rest_behind (suc more) bytes ≡ rest_behind more (drop (item_len item) bytes)
unfolding rest_behind
some_rest more bytes item e = rw (e, rest_behind) refl

-- no item
pub no_items : (n : ℕ) (bytes : List ℕ) → first_item bytes ≡ None → first_items n bytes ≡ []
unfolding first_items
no_items zero bytes e = refl
no_items (suc more) bytes e = rw (e, first_items) refl

pub no_rest : (n : ℕ) (bytes : List ℕ) → first_item bytes ≡ None → rest_behind n bytes ≡ bytes
unfolding rest_behind
no_rest zero bytes e = refl
no_rest (suc more) bytes e = rw (e, rest_behind) refl

-- where counts are no less than the bytes, they change nothing
pub enough_items : (m n : ℕ) (bytes : List ℕ) → length bytes ≤ m → length bytes ≤ n → first_items m bytes ≡ first_items n bytes
enough_items zero n bytes h k = no_items zero bytes (first_short bytes (omega arith)) ∙ sym (no_items n bytes (first_short bytes (omega arith)))
enough_items (suc m) zero bytes h k = no_items (suc m) bytes (first_short bytes (omega arith)) ∙ sym (no_items zero bytes (first_short bytes (omega arith)))
enough_items (suc m) (suc n) bytes h k =
    elim (first_item bytes) as (λ (o : Option RawItem). first_item bytes ≡ o → first_items (suc m) bytes ≡ first_items (suc n) bytes) [
      | None ↦ λ e. no_items (suc m) bytes e ∙ sym (no_items (suc n) bytes e)
      | Some item ↦ λ e.
          let within = (begins bytes item e).within in
          let rest : List ℕ = drop (item_len item) bytes in
          let long = length-drop (item_len item) bytes in
          some_items m bytes item e ∙ ap (λ (items : List RawItem). item ∷ items) (enough_items m n rest (omega arith) (omega arith))
          ∙ sym (some_items n bytes item e)
    ] refl

pub enough_rest : (m n : ℕ) (bytes : List ℕ) → length bytes ≤ m → length bytes ≤ n → rest_behind m bytes ≡ rest_behind n bytes
enough_rest zero n bytes h k = no_rest zero bytes (first_short bytes (omega arith)) ∙ sym (no_rest n bytes (first_short bytes (omega arith)))
enough_rest (suc m) zero bytes h k = no_rest (suc m) bytes (first_short bytes (omega arith)) ∙ sym (no_rest zero bytes (first_short bytes (omega arith)))
enough_rest (suc m) (suc n) bytes h k =
    elim (first_item bytes) as (λ (o : Option RawItem). first_item bytes ≡ o → rest_behind (suc m) bytes ≡ rest_behind (suc n) bytes) [
      | None ↦ λ e. no_rest (suc m) bytes e ∙ sym (no_rest (suc n) bytes e)
      | Some item ↦ λ e.
          let within = (begins bytes item e).within in
          let rest : List ℕ = drop (item_len item) bytes in
          let long = length-drop (item_len item) bytes in
          some_rest m bytes item e ∙ enough_rest m n rest (omega arith) (omega arith) ∙ sym (some_rest n bytes item e)
    ] refl

-- items behind the first one
pub items_next : (bytes : List ℕ) (item : RawItem) → first_item bytes ≡ Some item → items_in bytes ≡ item ∷ items_in (drop (item_len item) bytes)
items_next bytes item e =
    let within = (begins bytes item e).within in
    let rest : List ℕ = drop (item_len item) bytes in
    let long = length-drop (item_len item) bytes in
    enough_items (length bytes) (suc (length bytes)) bytes (omega arith) (omega arith)
    ∙ some_items (length bytes) bytes item e
    ∙ ap (λ (items : List RawItem). item ∷ items) (enough_items (length bytes) (length rest) rest (omega arith) (omega arith))

pub rest_next : (bytes : List ℕ) (item : RawItem) → first_item bytes ≡ Some item → rest_in bytes ≡ rest_in (drop (item_len item) bytes)
rest_next bytes item e =
    let within = (begins bytes item e).within in
    let rest : List ℕ = drop (item_len item) bytes in
    let long = length-drop (item_len item) bytes in
    enough_rest (length bytes) (suc (length bytes)) bytes (omega arith) (omega arith)
    ∙ some_rest (length bytes) bytes item e
    ∙ enough_rest (length bytes) (length rest) rest (omega arith) (omega arith)

-- the first n are n at most
taken_most : (n : ℕ) (bytes : List ℕ) → length (take n bytes) ≤ n
taken_most zero bytes = omega arith
taken_most (suc n) [] = omega arith
taken_most (suc n) (byte ∷ bytes) = let rest = taken_most n bytes in omega arith

-- the first of bytes are bytes, and so are those behind
pub taken_bytes : (n : ℕ) (bytes : List ℕ) → AreBytes bytes → AreBytes (take n bytes)
taken_bytes n bytes are k = elim (cases_lt k n) [
  | inl lt ↦ rw (get_or-take n bytes k 0 lt) (are k)
  | inr ge ↦ rw (get_or_past (take n bytes) k 0 (omega (arith, taken_most n bytes))) (omega arith)
]

pub dropped_bytes : (n : ℕ) (bytes : List ℕ) → AreBytes bytes → AreBytes (drop n bytes)
dropped_bytes n bytes are k = rw (get_or-drop n bytes k 0) (are (n + k))

-- an item that is read stands there as it is spelled
pub item_stands : (bytes : List ℕ) (item : RawItem) → AreBytes bytes → first_item bytes ≡ Some item
    → (bytes ≡ raw_bytes item ++ drop (item_len item) bytes) × IsRawItem item
item_stands bytes item are e =
    let b = begins bytes item e in
    let within = b.within in
    let first : List ℕ = take 2 bytes in
    let second : List ℕ = take 2 (drop 2 bytes) in
    let first_are = taken_bytes 2 bytes are in
    let second_are = taken_bytes 2 (drop 2 bytes) (dropped_bytes 2 bytes are) in
    let first_long : length first ≡ 2 = length-take-le 2 bytes (omega arith) in
    let second_long : length second ≡ 2 = length-take-le 2 (drop 2 bytes) (omega (arith, length-drop 2 bytes)) in
    let tag : big_bytes 2 item.tag ≡ first =
    ap (big_bytes 2) (b.tag ∙ sym (big_from-take 0 2 2 bytes (omega arith))) ∙ bytes_back 2 first first_long first_are in
    let len : big_bytes 2 (length item.value) ≡ second =
    ap (big_bytes 2) (b.len ∙ sym (big_from-take 0 2 2 (drop 2 bytes) (omega arith))) ∙ bytes_back 2 second second_long second_are in
    let small = big_from-lt 0 2 bytes are in
    let short = big_from-lt 0 2 (drop 2 bytes) (dropped_bytes 2 bytes are) in
    let n : ℕ = length item.value in
    let rest : List ℕ = drop (item_len item) bytes in
    let after : drop n (drop 4 bytes) ≡ rest = drop-drop n 4 bytes ∙ ap (λ (k : ℕ). drop k bytes) (omega arith) in
    let four : drop 2 (drop 2 bytes) ≡ drop 4 bytes = drop-drop 2 2 bytes in
    let whole : bytes ≡ big_bytes 2 item.tag ++ (big_bytes 2 n ++ (item.value ++ rest)) =
    sym (take-append-drop 2 bytes)
    ∙ ap₂ (λ (xs ys : List ℕ). xs ++ ys) (sym tag)
    (sym (take-append-drop 2 (drop 2 bytes))
    ∙ ap₂ (λ (xs ys : List ℕ). xs ++ ys) (sym len)
    (four ∙ sym (take-append-drop n (drop 4 bytes)) ∙ ap₂ (λ (xs ys : List ℕ). xs ++ ys) (sym b.value) after)) in (
      whole ∙ sym (append_assoc (big_bytes 2 item.tag) (big_bytes 2 n) (item.value ++ rest))
          ∙ sym (append_assoc (big_bytes 2 item.tag ++ big_bytes 2 n) item.value rest),
      record { tag = omega (arith, b.tag, small); fits = omega (arith, b.len, short) },
    )

-- an item that is spelled is read, whatever follows
pub item_read : (item : RawItem) (rest : List ℕ) → IsRawItem item → first_item (raw_bytes item ++ rest) ≡ Some item
item_read item rest is =
    let n : ℕ = length item.value in
    let bytes : List ℕ = raw_bytes item ++ rest in
    let parts : bytes ≡ big_bytes 2 item.tag ++ (big_bytes 2 n ++ (item.value ++ rest)) =
    append_assoc (big_bytes 2 item.tag ++ big_bytes 2 n) item.value rest ∙ append_assoc (big_bytes 2 item.tag) (big_bytes 2 n) (item.value ++ rest) in
    let tag : big_number 2 bytes ≡ item.tag = ap (big_number 2) parts ∙ big_number-reads_back 2 item.tag (big_bytes 2 n ++ (item.value ++ rest)) is.tag in
    let len : big_number 2 (drop 2 bytes) ≡ n = ap (λ (xs : List ℕ). big_number 2 (drop 2 xs)) parts ∙ big_number-reads_back 2 n (item.value ++ rest) is.fits in
    let value : take n (drop 4 bytes) ≡ item.value = ap (λ (xs : List ℕ). take n (drop 4 xs)) parts ∙ take_at item.value rest n refl in
    let long : length bytes ≡ 4 + n + length rest = ap length parts ∙ omega (arith, length-append item.value rest) in
    let made : ℕ → List ℕ → RawItem = λ tag value. record { tag = tag; value = value } in
    first_whole bytes (omega arith) (omega (arith, len))
    ∙ ap Some (ap₂ made tag (ap (λ (k : ℕ). take k (drop 4 bytes)) len ∙ value))

-- and what follows is left
pub item_behind : (item : RawItem) (rest : List ℕ) → drop (item_len item) (raw_bytes item ++ rest) ≡ rest
item_behind item rest =
    let n : ℕ = length item.value in
    let long : length (raw_bytes item) ≡ item_len item = omega (arith, length-append (big_bytes 2 item.tag ++ big_bytes 2 n) item.value) in
    drop_at (raw_bytes item) rest (item_len item) long

-- bytes are the items that are read of them, and the rest
pub value_whole : (n : ℕ) (value : List ℕ) → AreBytes value → value ≡ set_value (first_items n value) ++ rest_behind n value
unfolding first_items rest_behind
value_whole zero value are = refl
value_whole (suc more) value are =
    elim (first_item value) as (λ (o : Option RawItem). first_item value ≡ o
    → value ≡ set_value (first_items (suc more) value) ++ rest_behind (suc more) value) [
      | None ↦ λ e. sym (ap₂ (λ (items : List RawItem) (xs : List ℕ). set_value items ++ xs) (no_items (suc more) value e) (no_rest (suc more) value e))
      | Some item ↦ λ e.
          let rest : List ℕ = drop (item_len item) value in
          let stands = item_stands value item are e in
          let behind = value_whole more rest (dropped_bytes (item_len item) value are) in
          stands.0 ∙ ap (λ (xs : List ℕ). raw_bytes item ++ xs) behind
          ∙ sym (append_assoc (raw_bytes item) (set_value (first_items more rest)) (rest_behind more rest))
          ∙ ap₂ (λ (items : List RawItem) (xs : List ℕ). set_value items ++ xs) (sym (some_items more value item e)) (sym (some_rest more value item e))
    ] refl

-- and each of them fits
pub value_each : (n : ℕ) (value : List ℕ) → AreBytes value → AllByRecursion IsRawItem (first_items n value)
unfolding first_items
value_each zero value are = tt
value_each (suc more) value are =
    elim (first_item value) as (λ (o : Option RawItem). first_item value ≡ o → AllByRecursion IsRawItem (first_items (suc more) value)) [
      | None ↦ λ e. subst (AllByRecursion IsRawItem) (sym (no_items (suc more) value e)) tt
      | Some item ↦ λ e.
          let rest : List ℕ = drop (item_len item) value in
          subst (AllByRecursion IsRawItem) (sym (some_items more value item e))
          ((item_stands value item are e).1, value_each more rest (dropped_bytes (item_len item) value are))
    ] refl

-- with the rest no item begins
pub value_ends : (n : ℕ) (value : List ℕ) → length value ≤ n → first_item (rest_behind n value) ≡ None
value_ends zero value h = ap first_item (no_rest zero value (first_short value (omega arith))) ∙ first_short value (omega arith)
value_ends (suc more) value h =
    elim (first_item value) as (λ (o : Option RawItem). first_item value ≡ o → first_item (rest_behind (suc more) value) ≡ None) [
      | None ↦ λ e. ap first_item (no_rest (suc more) value e) ∙ e
      | Some item ↦ λ e.
          let within = (begins value item e).within in
          let long = length-drop (item_len item) value in
          ap first_item (some_rest more value item e) ∙ value_ends more (drop (item_len item) value) (omega arith)
    ] refl

-- items that are spelled are read
pub written_items : (items : List RawItem) → AllByRecursion IsRawItem items → items_in (set_value items) ≡ items
written_items [] h = no_items zero [] (first_short [] (omega arith))
written_items (item ∷ items) h =
    items_next (raw_bytes item ++ set_value items) item (item_read item (set_value items) h.0)
    ∙ ap (λ (xs : List ℕ). item ∷ items_in xs) (item_behind item (set_value items))
    ∙ ap (λ (xs : List RawItem). item ∷ xs) (written_items items h.1)

-- and nothing is left
pub written_rest : (items : List RawItem) → AllByRecursion IsRawItem items → rest_in (set_value items) ≡ []
written_rest [] h = no_rest zero [] (first_short [] (omega arith))
written_rest (item ∷ items) h =
    rest_next (raw_bytes item ++ set_value items) item (item_read item (set_value items) h.0)
    ∙ ap rest_in (item_behind item (set_value items))
    ∙ written_rest items h.1

-- Items that stand in a value, and what is read of them.
use Rattle.std.proofs.Common.{◌≡◌, ◌≤◌, ℕ, zero, suc, ◌+◌, ◌&&◌, ◌==◌, nat_lt, Bool, true, false, cond, List, [], ◌∷◌, ◌++◌, Option, Some, None}
use Rattle.std.proofs.Common.{length, take, drop}
use Rattle.std.proofs.Common.{refl, sym, ap, ap₂, ◌∙◌, arith, append_assoc, length-append, if◌then◌else◌}
use Rattle.std.proofs.lemmas.Bool.{eqb-true, le-ltb}
use Rattle.std.proofs.lemmas.List.{drop_at, take_at, drop-drop, drop-append-le, take-append-drop, length-drop}
use Rattle.byteorder.specs.Endian.{big_bytes, big_number}
use Rattle.byteorder.specs.Numbers.{big_from-append, big_number-reads_back}
use Rattle.local_sets.specs.Sets.{IsRawItem, RawItem, raw_bytes, set_value}
use Rattle.mxf_index.specs.Dues.{first_fault, fault_of, is_due, item_at, may_be, size_of}
use Rattle.mxf_index.specs.inner.Items.{dues_len}
use Rattle.mxf_index.specs.declared.due.Due.{Due}

-- a front by its own length
take-own : (n : ℕ) (xs : List ℕ) → take (length (take n xs)) xs ≡ take n xs
take-own zero xs = refl
take-own (suc n) [] = refl
take-own (suc n) (x ∷ xs) = ap (λ (ys : List ℕ). x ∷ ys) (take-own n xs)

-- two tests that hold
pub both_hold : (a b : Bool) → a ≡ true → b ≡ true → (a && b) ≡ true
both_hold true true p q = refl
both_hold true false p q = q
both_hold false b p q = p

-- and what they tell
pub each_holds : (a b : Bool) → (a && b) ≡ true → (a ≡ true) × (b ≡ true)
each_holds true true p = (refl, refl)
each_holds true false p = absurd (cc)
each_holds false b p = absurd (cc)

-- an item by its parts
item_made : (value held : List ℕ) (at tag size : ℕ) → big_number 2 (drop at value) ≡ tag → big_number 2 (drop (at + 2) value) ≡ size
    → at + 4 + size ≤ length value → take size (drop (at + 4) value) ≡ held → item_at value at ≡ Some (record { tag = tag; value = held })
unfolding item_at
item_made value held at tag size t s room h =
    let made : ℕ → ℕ → Option RawItem = λ tag size. if nat_lt (length value) (at + 4 + size) then None else Some (record {
      tag = tag;
      value =
          take size (drop (at + 4) value);
    }) in
    let test : nat_lt (length value) (at + 4 + size) ≡ false = le-ltb (length value) (at + 4 + size) room in
    let whole : made tag size ≡ Some (record { tag = tag; value = take size (drop (at + 4) value) }) = rw test refl in
    ap₂ made t s ∙ whole ∙ ap (λ (xs : List ℕ). Some (record { tag = tag; value = xs })) h

-- an item whose bytes stand at a place
pub item_stands : (value more : List ℕ) (item : RawItem) (at : ℕ) → IsRawItem item → drop at value ≡ raw_bytes item ++ more → item_at value at ≡ Some item
item_stands value more item at fits there =
    let held : List ℕ = item.value in
    let tag : big_number 2 (drop at value) ≡ item.tag =
    ap (big_number 2) there ∙ big_number-reads_back 2 item.tag (big_bytes 2 (length held) ++ (held ++ more)) fits.tag in
    let second : drop (at + 2) value ≡ big_bytes 2 (length held) ++ (held ++ more) = sym (drop-drop 2 at value) ∙ ap (drop 2) there in
    let size : big_number 2 (drop (at + 2) value) ≡ length held = ap (big_number 2) second ∙ big_number-reads_back 2 (length held) (held ++ more) fits.fits in
    let third : drop (at + 4) value ≡ held ++ more = sym (drop-drop 4 at value) ∙ ap (drop 4) there in
    let room : at + 4 + length held ≤ length value = omega (arith, ap length there, length-drop at value, length-append held more) in
    item_made value held at item.tag (length held) tag size room (ap (take (length held)) third ∙ take_at held more (length held) refl)

-- each item is the one due, and fits
abbrev pub AreDue : List Due → List RawItem → Type 0
AreDue [] [] = Unit {0}
AreDue [] (item ∷ items) = ⊥
AreDue (due ∷ dues) [] = ⊥
AreDue (due ∷ dues) (item ∷ items) = (is_due due item ≡ true) × IsRawItem item × AreDue dues items

-- items stand where they are due
abbrev pub StandDue : List ℕ → ℕ → List Due → List RawItem → Type 0
StandDue value at [] items = Unit {0}
StandDue value at (due ∷ dues) [] = ⊥
StandDue value at (due ∷ dues) (item ∷ items) = (item_at value at ≡ Some item) × StandDue value (at + 4 + size_of due.holds) dues items

-- an item that is due has the size that is due
due_size : (due : Due) (item : RawItem) → is_due due item ≡ true → length item.value ≡ size_of due.holds
due_size due item e =
    let one = each_holds (item.tag == due.tag) (length item.value == size_of due.holds && may_be due.holds item.value) e in
    let two = each_holds (length item.value == size_of due.holds) (may_be due.holds item.value) one.1 in
    eqb-true (length item.value) (size_of due.holds) two.0

-- items whose bytes follow one another stand where they are due
pub stand : (value rest : List ℕ) (at : ℕ) (dues : List Due) (items : List RawItem) → AreDue dues items → drop at value ≡ set_value items ++ rest
    → StandDue value at dues items
stand value rest at [] items are there = tt
stand value rest at (due ∷ dues) [] are there = absurd are
stand value rest at (due ∷ dues) (item ∷ items) are there =
    let size = due_size due item are.0 in
    let more : List ℕ = set_value items ++ rest in
    let here : drop at value ≡ raw_bytes item ++ more = there ∙ append_assoc (raw_bytes item) (set_value items) rest in
    let long : length (raw_bytes item) ≡ 4 + size_of due.holds = omega (arith, size) in
    let next : drop (at + 4 + size_of due.holds) value ≡ more =
    ap (λ (n : ℕ). drop n value) (omega arith)
    ∙ sym (drop-drop (4 + size_of due.holds) at value)
    ∙ ap (drop (4 + size_of due.holds)) here
    ∙ drop_at (raw_bytes item) more (4 + size_of due.holds) long in
    (item_stands value more item at are.1 here, stand value rest (at + 4 + size_of due.holds) dues items are.2 next)

-- so no item is another
pub none_wrong : (value : List ℕ) (at : ℕ) (dues : List Due) (items : List RawItem) → AreDue dues items → StandDue value at dues items
    → first_fault value at dues ≡ None
unfolding first_fault
none_wrong value at [] items are there = refl
none_wrong value at (due ∷ dues) [] are there = absurd are
none_wrong value at (due ∷ dues) (item ∷ items) are there =
    let one : fault_of at due (item_at value at) ≡ None = ap (fault_of at due) there.0 ∙ rw (are.0) refl in
    rw one (none_wrong value (at + 4 + size_of due.holds) dues items are.2 there.1)

-- their bytes
pub due_bytes : (dues : List Due) (items : List RawItem) → AreDue dues items → length (set_value items) ≡ dues_len dues
unfolding dues_len
due_bytes [] [] are = refl
due_bytes [] (item ∷ items) are = absurd are
due_bytes (due ∷ dues) [] are = absurd are
due_bytes (due ∷ dues) (item ∷ items) are =
    omega (arith, due_size due item are.0, due_bytes dues items are.2, length-append (raw_bytes item) (set_value items))

-- an item that is whole
made_whole : (b : Bool) (made item : RawItem) → cond b None (Some made) ≡ Some item → (b ≡ false) × (made ≡ item)
made_whole true made item e = absurd (cc)
made_whole false made item e = (refl, cc)

-- a front and what is behind it
held_parts : (bytes held : List ℕ) (size : ℕ) → take size bytes ≡ held → bytes ≡ held ++ drop (length held) bytes
held_parts bytes held size e =
    let few : take (length held) bytes ≡ held = ap (λ (xs : List ℕ). take (length xs) bytes) (sym e) ∙ take-own size bytes ∙ e in
    sym (take-append-drop (length held) bytes) ∙ ap (λ (xs : List ℕ). xs ++ drop (length held) bytes) few

-- the bytes from an item's value on
pub held_at : (value : List ℕ) (at : ℕ) (item : RawItem) → item_at value at ≡ Some item
    → drop (at + 4) value ≡ item.value ++ drop (length item.value) (drop (at + 4) value)
unfolding item_at
held_at value at item e =
    let size : ℕ = big_number 2 (drop (at + 2) value) in
    let whole = made_whole (nat_lt (length value) (at + 4 + size)) (record {
      tag = big_number 2 (drop at value);
      value =
          take size (drop (at + 4) value);
    }) item e in
    held_parts (drop (at + 4) value) item.value size (ap (λ (r : RawItem). r.value) whole.1)

-- a number in an item's value
pub number_held : (value : List ℕ) (at n m : ℕ) (item : RawItem) → item_at value at ≡ Some item → m + n ≤ length item.value
    → big_number n (drop (at + 4 + m) value) ≡ big_number n (drop m item.value)
number_held value at n m item e room =
    let rest : List ℕ = drop (length item.value) (drop (at + 4) value) in
    ap (big_number n) (sym (drop-drop m (at + 4) value) ∙ ap (drop m) (held_at value at item e) ∙ drop-append-le m item.value rest (omega arith))
    ∙ big_from-append n (drop m item.value) rest (omega (arith, length-drop m item.value))

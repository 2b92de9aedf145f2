-- What items are that are found where they are due.
use Rattle.std.proofs.Common.{◌≡◌, ◌≤◌, ℕ, ◌+◌, ◌&&◌, ◌==◌, nat_lt, Bool, true, false, List, [], ◌∷◌, ◌++◌, Some, None, length, take, drop}
use Rattle.std.proofs.Common.{refl, sym, ap, ap₂, ◌∙◌, arith, append_assoc, if◌then◌else◌}
use Rattle.std.proofs.lemmas.Bool.{eqb-true, ltb-false}
use Rattle.std.proofs.lemmas.List.{drop-drop, length-drop, length-take-le, take-append-drop}
use Rattle.byteorder.specs.Endian.{big_bytes, big_number}
use Rattle.rec_bytes.specs.laws.Bytes.{AreBytes, left_bytes, taken_bytes}
use Rattle.local_sets.specs.Sets.{RawItem, raw_bytes, set_value}
use Rattle.mxf_index.specs.Dues.{fault_of, first_fault, is_due, item_at, may_be, size_of}
use Rattle.mxf_index.specs.inner.Items.{dues_len, fault_at}
use Rattle.mxf_index.specs.declared.due.Due.{Due}
use Rattle.mxf_index.specs.declared.fault.SegmentFault.TheVariants.{SegmentField}
use Rattle.mxf_index.proofs.DueLemmas.{neither}
use Rattle.mxf_index.proofs.NumberLemmas.{front_of}
use Rattle.mxf_index.proofs.StandLemmas.{each_holds}

-- the item at a place, where it is whole
abbrev pub raw_in : List ℕ → ℕ → RawItem
raw_in value at = record { tag = big_number 2 (drop at value); value = take (big_number 2 (drop (at + 2) value)) (drop (at + 4) value) }

-- it is the one that is due
pub record IsThere (value : List ℕ) (at : ℕ) (due : Due) : Type 0 where
  pub found : item_at value at ≡ Some (raw_in value at)
  pub whole : at + 4 + size_of due.holds ≤ length value
  pub tag : (raw_in value at).tag ≡ due.tag
  pub stated : big_number 2 (drop (at + 2) value) ≡ size_of due.holds
  pub size : length (raw_in value at).value ≡ size_of due.holds
  pub may : may_be due.holds (raw_in value at).value ≡ true

-- an item that is kept
kept : (at : ℕ) (due : Due) (b : Bool) → (if b then None else Some (SegmentField at due.tag)) ≡ None → b ≡ true
kept at due true e = refl
kept at due false e = absurd (cc)

-- the tests of an item
no_fault : (at : ℕ) (due : Due) (cut : Bool) (item : RawItem) → fault_of at due (if cut then None else Some item) ≡ None
    → (cut ≡ false) × (is_due due item ≡ true)
no_fault at due true item e = absurd (cc)
no_fault at due false item e = (refl, kept at due (is_due due item) e)

-- so it is there
pub is_there : (value : List ℕ) (at : ℕ) (due : Due) → fault_at value at due ≡ None → IsThere value at due
unfolding item_at
is_there value at due e =
    let size : ℕ = big_number 2 (drop (at + 2) value) in
    let item = raw_in value at in
    let tests = no_fault at due (nat_lt (length value) (at + 4 + size)) item e in
    let room : at + 4 + size ≤ length value = ltb-false (length value) (at + 4 + size) tests.0 in
    let one = each_holds (item.tag == due.tag) (length item.value == size_of due.holds && may_be due.holds item.value) tests.1 in
    let two = each_holds (length item.value == size_of due.holds) (may_be due.holds item.value) one.1 in
    let long : length item.value ≡ size = length-take-le size (drop (at + 4) value) (omega (arith, length-drop (at + 4) value)) in
    let sized : length item.value ≡ size_of due.holds = eqb-true (length item.value) (size_of due.holds) two.0 in
    record {
      found = rw (tests.0) refl;
      whole = omega (arith, room, long, sized);
      tag = eqb-true item.tag due.tag one.0;
      stated = sym long ∙ sized;
      size = sized;
      may = two.1;
    }

-- its bytes are bytes
pub held_bytes : (value : List ℕ) (at : ℕ) → AreBytes value → AreBytes (raw_in value at).value
held_bytes value at are = taken_bytes (big_number 2 (drop (at + 2) value)) (drop (at + 4) value) (left_bytes (at + 4) value are)

-- and it is spelled there
pub spelled_there : (value : List ℕ) (at : ℕ) (due : Due) → AreBytes value → IsThere value at due
    → drop at value ≡ raw_bytes (raw_in value at) ++ drop (at + 4 + size_of due.holds) value
spelled_there value at due are t =
    let item = raw_in value at in
    let whole = t.whole in
    let room = length-drop at value in
    let next = length-drop (at + 2) value in
    let tag : take 2 (drop at value) ≡ big_bytes 2 item.tag = front_of 2 item.tag (drop at value) (omega arith) (left_bytes at value are) refl in
    let len : take 2 (drop (at + 2) value) ≡ big_bytes 2 (length item.value) =
    front_of 2 (length item.value) (drop (at + 2) value) (omega arith) (left_bytes (at + 2) value are) (t.stated ∙ sym t.size) in
    let size : ℕ = big_number 2 (drop (at + 2) value) in
    let first : drop at value ≡ big_bytes 2 item.tag ++ drop (at + 2) value =
    sym (take-append-drop 2 (drop at value)) ∙ ap₂ (λ (xs ys : List ℕ). xs ++ ys) tag (drop-drop 2 at value) in
    let second : drop (at + 2) value ≡ big_bytes 2 (length item.value) ++ drop (at + 4) value =
    sym (take-append-drop 2 (drop (at + 2) value)) ∙ ap₂ (λ (xs ys : List ℕ). xs ++ ys) len (drop-drop 2 (at + 2) value
    ∙ ap (λ (n : ℕ). drop n value) (omega arith)) in
    let third : drop (at + 4) value ≡ item.value ++ drop (at + 4 + size_of due.holds) value =
    sym (take-append-drop size (drop (at + 4) value))
    ∙ ap (λ (xs : List ℕ). item.value ++ xs) (drop-drop size (at + 4) value ∙ ap (λ (n : ℕ). drop (at + 4 + n) value) t.stated) in
    first ∙ ap (λ (xs : List ℕ). big_bytes 2 item.tag ++ xs) (second ∙ ap (λ (xs : List ℕ). big_bytes 2 (length item.value) ++ xs) third)

-- all items are there
abbrev pub AreThere : List ℕ → ℕ → List Due → Type 0
AreThere value at [] = Unit {0}
AreThere value at (due ∷ dues) = IsThere value at due × AreThere value (at + 4 + size_of due.holds) dues

pub are_there : (value : List ℕ) (at : ℕ) (dues : List Due) → first_fault value at dues ≡ None → AreThere value at dues
unfolding first_fault
are_there value at [] e = tt
are_there value at (due ∷ dues) e =
    let two = neither (fault_at value at due) (first_fault value (at + 4 + size_of due.holds) dues) e in
    (is_there value at due two.0, are_there value (at + 4 + size_of due.holds) dues two.1)

-- the items that are there
abbrev pub raws_in : List ℕ → ℕ → List Due → List RawItem
raws_in value at [] = []
raws_in value at (due ∷ dues) = raw_in value at ∷ raws_in value (at + 4 + size_of due.holds) dues

-- they are spelled there
pub spelled_all : (value : List ℕ) (at : ℕ) (dues : List Due) → AreBytes value → AreThere value at dues
    → drop at value ≡ set_value (raws_in value at dues) ++ drop (at + dues_len dues) value
unfolding dues_len
spelled_all value at [] are t =
    let same : at ≡ at + 0 = omega arith in
    ap (λ (n : ℕ). drop n value) same
spelled_all value at (due ∷ dues) are t =
    let next : ℕ = at + 4 + size_of due.holds in
    let item = raw_in value at in
    let rest = raws_in value next dues in
    spelled_there value at due are t.0
    ∙ ap (λ (xs : List ℕ). raw_bytes item ++ xs) (spelled_all value next dues are t.1)
    ∙ sym (append_assoc (raw_bytes item) (set_value rest) (drop (next + dues_len dues) value))
    ∙ ap (λ (n : ℕ). (raw_bytes item ++ set_value rest) ++ drop n value) (omega arith)

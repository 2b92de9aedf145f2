-- The head of an item, read and spelled.
use Rattle.std.proofs.Common.{◌≡◌, inl, inr, ℕ, suc, ◌+◌, ◌-◌, ◌^◌, ◌<◌, ◌≤◌, ◌==◌, min, true, false, List, [], ◌∷◌, ◌++◌, length, get_or, take, drop, refl, sym, ap, ap₂, subst, ◌∙◌, arith, append_assoc, drop-cons, nat_lt, Result, Ok}
use Rattle.std.proofs.lemmas.Bool.{cases_lt, cases_eq, lt-ltb, le-ltb, ne_eqb, eq-eqb}
use Rattle.std.proofs.lemmas.List.{length-drop, length-take-le, take-append-drop, drop-drop, get_or-take, get_or-drop, drop-take, get_or_past}
use Rattle.byteorder.specs.Endian.{big_bytes, big_number}
use Rattle.byteorder.specs.Numbers.{big_from-lt, big_from-take}
use Rattle.klv.specs.Items.{Item, IsItem, spelled, length_bytes, length_limit, klv_head}
use Rattle.klv.specs.Reads.{IsHeadAt, IsKlvAt, IsFrontAt}
use Rattle.klv.specs.inner.Heads.{Lengths, fitted, length_at, head_at}
use Rattle.klv.specs.laws.Lengths.{length-spelled}
use Rattle.klv.specs.declared.head.Head.{Head}
use Rattle.klv.specs.declared.head.KlvFault.{KlvFault}
use Rattle.klv.specs.declared.item.Klv.{Klv}
use Rattle.klv.proofs.NumberLemmas.{AreBytes, bytes_back}

-- the first 25 are bytes
abbrev pub BeginsInBytes : List ℕ → Type 0
BeginsInBytes xs = (k : ℕ) → k < 25 → get_or xs k 0 < 256

-- a head and its value that lie within the bytes that are left
fitted_ok : (head value at left : ℕ) (h : Lengths) → fitted head value at left ≡ Ok h → (h.head ≡ head) × (h.value ≡ value) × (value ≤ left - head)
fitted_ok head value at left h e = elim (cases_lt (left - head) value) [
  | inl lt ↦
      let t : nat_lt (left - head) value ≡ true = lt-ltb (left - head) value lt in
      let bad = rw t at e in
      absurd (cc)
  | inr ge ↦
      let t : nat_lt (left - head) value ≡ false = le-ltb (left - head) value ge in
      let same = rw t at e in
      let is : record { head = head; value = value } ≡ h = cc in
      (ap (λ (x : Lengths). x.head) (sym is), ap (λ (x : Lengths). x.value) (sym is), ge)
]

-- a head that was read: its form, and the bytes that spell the length
pub record IsRead (front : List ℕ) (left : ℕ) (h : Lengths) : Type 0 where
  pub form : ℕ
  pub most : form ≤ 8
  pub head : h.head ≡ 17 + form
  pub spelled_is : length_bytes form h.value ≡ take (suc form) (drop 16 front)
  pub fits : h.value < length_limit form
  pub room : h.head + h.value ≤ left

pub long_form : (front : List ℕ) (left more value : ℕ) (h : Lengths) → BeginsInBytes front → min left 25 ≤ length front → 17 + suc more ≤ left → suc more ≤ 8
    → get_or front 16 0 ≡ 128 + suc more → h.head ≡ 17 + suc more → h.value ≡ big_number (suc more) (drop 17 front) → h.head + h.value ≤ left → IsRead front left h
unfolding length_bytes length_limit
long_form front left more value h are there room most first head number fits =
    let n : ℕ = suc more in
    let digits : List ℕ = take n (drop 17 front) in
    let long : length digits ≡ n = length-take-le n (drop 17 front) (omega (arith, length-drop 17 front)) in
    let digits_are : AreBytes digits = λ k. elim (cases_lt k n) [
      | inl lt ↦ rw (get_or-take n (drop 17 front) k 0 lt, get_or-drop 17 front k 0) (are (17 + k) (omega arith))
      | inr ge ↦ rw (get_or_past digits k 0 (omega arith)) (omega arith)
    ] in
    let same : big_number n digits ≡ big_number n (drop 17 front) = big_from-take 0 n n (drop 17 front) (omega arith) in
    let back : big_bytes n h.value ≡ digits = ap (big_bytes n) (number ∙ sym same) ∙ bytes_back n digits long digits_are in
    let small : big_number n digits < 256 ^ n = big_from-lt 0 n digits digits_are in
    let cell : drop 16 front ≡ get_or front 16 0 ∷ drop 17 front = drop-cons front 16 0 (omega arith) in
    record {
      form = n;
      most = most;
      head = head;
      spelled_is = ap₂ (λ (x : ℕ) (xs : List ℕ). x ∷ xs) (sym first) back ∙ sym (ap (take (suc n)) cell);
      fits = omega arith;
      room = fits;
    }

pub short_form : (front : List ℕ) (left : ℕ) (h : Lengths) → min left 25 ≤ length front → 17 ≤ left → get_or front 16 0 < 128 → h.head ≡ 17 → h.value ≡ get_or front 16 0 → h.head + h.value ≤ left → IsRead front left h
unfolding length_bytes length_limit
short_form front left h there room first head number fits =
    let cell : drop 16 front ≡ get_or front 16 0 ∷ drop 17 front = drop-cons front 16 0 (omega arith) in
    record {
      form = 0;
      most = omega arith;
      head = omega arith;
      spelled_is = ap (λ (x : ℕ). x ∷ []) number ∙ sym (ap (take 1) cell);
      fits = omega arith;
      room = fits;
    }

-- a length that is answered is read
length_read : (front : List ℕ) (at left : ℕ) (h : Lengths) → BeginsInBytes front → min left 25 ≤ length front → 17 ≤ left → length_at front at left (get_or front 16 0) ≡ Ok h → IsRead front left h
unfolding length_at
length_read front at left h are there room e =
    let first : ℕ = get_or front 16 0 in
    elim (cases_lt first 128) [
      | inl low ↦
          let t : nat_lt first 128 ≡ true = lt-ltb first 128 low in
          let f = fitted_ok 17 first at left h (rw t at e) in
          short_form front left h there room low f.0 f.1 (omega (arith, f.0, f.1, f.2))
      | inr high ↦
          let t : nat_lt first 128 ≡ false = le-ltb first 128 high in
          let e1 = rw t at e in
          elim (cases_eq first 128) [
            | inl none ↦ let z : (first == 128) ≡ true = eq-eqb first 128 none in let bad = rw z at e1 in absurd (cc)
            | inr some ↦
                let z : (first == 128) ≡ false = ne_eqb first 128 some in
                let e2 = rw z at e1 in
                elim (cases_lt 136 first) [
                  | inl wide ↦ let w : nat_lt 136 first ≡ true = lt-ltb 136 first wide in let bad = rw w at e2 in absurd (cc)
                  | inr fits ↦
                      let w : nat_lt 136 first ≡ false = le-ltb 136 first fits in
                      let e3 = rw w at e2 in
                      elim (cases_lt left (17 + (first - 128))) [
                        | inl cut ↦ let k : nat_lt left (17 + (first - 128)) ≡ true = lt-ltb left (17 + (first - 128)) cut in let bad = rw k at e3 in absurd (cc)
                        | inr whole ↦
                            let k : nat_lt left (17 + (first - 128)) ≡ false = le-ltb left (17 + (first - 128)) whole in
                            let f = fitted_ok (17 + (first - 128)) (big_number (first - 128) (drop 17 front)) at left h (rw k at e3) in
                            let more : ℕ = first - 129 in
                            let n : first - 128 ≡ suc more = omega arith in
                            long_form front left more h.value h are there (omega arith) (omega arith) (omega arith) (omega (arith, f.0)) (f.1 ∙ ap (λ (m : ℕ). big_number m (drop 17 front)) n) (omega (arith, f.0, f.2))
                      ]
                ]
          ]
    ]

-- a head that is answered is read
pub head_read : (front : List ℕ) (at left : ℕ) (h : Lengths) → BeginsInBytes front → min left 25 ≤ length front → head_at front at left ≡ Ok h → IsRead front left h
unfolding head_at
head_read front at left h are there e = elim (cases_lt left 16) [
  | inl lt ↦ let t : nat_lt left 16 ≡ true = lt-ltb left 16 lt in let bad = rw t at e in absurd (cc)
  | inr ge ↦
      let t : nat_lt left 16 ≡ false = le-ltb left 16 ge in
      let e1 = rw t at e in
      elim (cases_eq left 16) [
        | inl none ↦ let z : (left == 16) ≡ true = eq-eqb left 16 none in let bad = rw z at e1 in absurd (cc)
        | inr some ↦
            let z : (left == 16) ≡ false = ne_eqb left 16 some in
            length_read front at left h are there (omega arith) (rw z at e1)
      ]
]

-- the item of a head that was read
pub record Holds (rest : List ℕ) (h : Lengths) : Type 0 where
  pub item : Item
  pub is_item : IsItem item
  pub behind : List ℕ
  pub bytes_are : rest ≡ spelled item ++ behind
  pub key : item.key ≡ take 16 rest
  pub head : h.head ≡ 17 + item.form
  pub value : h.value ≡ length item.value

pub holds : (rest : List ℕ) (h : Lengths) → IsRead rest (length rest) h → Holds rest h
holds rest h r =
    let key : List ℕ = take 16 rest in
    let value : List ℕ = take h.value (drop h.head rest) in
    let head_is = r.head in let room = r.room in
    let long : length value ≡ h.value = length-take-le h.value (drop h.head rest) (omega (arith, length-drop h.head rest)) in
    let item : Item = record { key = key; form = r.form; value = value } in
    let digits : length_bytes r.form (length value) ≡ take (suc r.form) (drop 16 rest) = ap (length_bytes r.form) long ∙ r.spelled_is in
    let after : drop (suc r.form) (drop 16 rest) ≡ drop h.head rest = drop-drop (suc r.form) 16 rest ∙ ap (λ (k : ℕ). drop k rest) (omega arith) in
    let whole : rest ≡ spelled item ++ drop h.value (drop h.head rest) =
    sym (take-append-drop 16 rest)
    ∙ ap (λ (xs : List ℕ). key ++ xs) (sym (take-append-drop (suc r.form) (drop 16 rest)) ∙ ap₂ (λ (xs ys : List ℕ). xs ++ ys) (sym digits) (after ∙ sym (take-append-drop h.value (drop h.head rest))))
    ∙ sym (append_assoc key (length_bytes r.form (length value)) (value ++ drop h.value (drop h.head rest)))
    ∙ sym (append_assoc (klv_head key r.form (length value)) value (drop h.value (drop h.head rest))) in
    record {
      item = item;
      is_item = record { key = length-take-le 16 rest (omega arith); form = r.most; fits = subst (λ (n : ℕ). n < length_limit r.form) (sym long) r.fits };
      behind = drop h.value (drop h.head rest);
      bytes_are = whole;
      key = refl;
      head = r.head;
      value = sym long;
    }

-- a head is told by the first 25 bytes
length_front : (xs : List ℕ) (at left first : ℕ) → first ≤ 255 → length_at (take 25 xs) at left first ≡ length_at xs at left first
unfolding length_at
length_front xs at left first byte = elim (cases_lt first 128) [
  | inl low ↦ let t : nat_lt first 128 ≡ true = lt-ltb first 128 low in rw t refl
  | inr high ↦ elim (cases_lt 136 first) [
    | inl wide ↦
        let w : nat_lt 136 first ≡ true = lt-ltb 136 first wide in
        let t : nat_lt first 128 ≡ false = le-ltb first 128 high in
        let z : (first == 128) ≡ false = ne_eqb first 128 (λ (q : first ≡ 128). omega arith) in
        rw (t, z, w) refl
    | inr fits ↦
        let n : ℕ = first - 128 in
        let moved : drop 17 (take 25 xs) ≡ take 8 (drop 17 xs) = drop-take 17 8 xs in
        let same : big_number n (drop 17 (take 25 xs)) ≡ big_number n (drop 17 xs) = ap (big_number n) moved ∙ big_from-take 0 n 8 (drop 17 xs) (omega arith) in
        rw same refl
  ]
]

pub head_front : (xs : List ℕ) (at left : ℕ) → BeginsInBytes xs → head_at (take 25 xs) at left ≡ head_at xs at left
unfolding head_at
head_front xs at left are =
    let first : get_or (take 25 xs) 16 0 ≡ get_or xs 16 0 = get_or-take 25 xs 16 0 (omega arith) in
    let small : get_or xs 16 0 < 256 = are 16 (omega arith) in
    let rest : length_at (take 25 xs) at left (get_or xs 16 0) ≡ length_at xs at left (get_or xs 16 0) = length_front xs at left (get_or xs 16 0) (omega arith) in
    rw (first, rest) refl

-- the first 25 of those that begin at a place are bytes
pub part_bytes : (bytes : List ℕ) (at : ℕ) → AreBytes bytes → BeginsInBytes (drop at bytes)
part_bytes bytes at are k small = rw (get_or-drop at bytes k 0) (are (at + k))

-- and so are those of which a buffer has the first 25
pub front_bytes : (rest front : List ℕ) → AreBytes front → front ≡ take 25 rest → BeginsInBytes rest
front_bytes rest front are e k small =
    let same : get_or front k 0 ≡ get_or rest k 0 = ap (λ (xs : List ℕ). get_or xs k 0) e ∙ get_or-take 25 rest k 0 small in
    let byte = are k in
    omega (arith, same)

-- what the first 25 bytes told
pub front_told : (bytes front : List ℕ) (at left : ℕ) (told : Result Lengths KlvFault) → AreBytes front → IsFrontAt bytes at front left → head_at front at left ≡ told → head_at (drop at bytes) at left ≡ told
front_told bytes front at left told are f e =
    sym (head_front (drop at bytes) at left (front_bytes (drop at bytes) front are f.front_is)) ∙ ap (λ (xs : List ℕ). head_at xs at left) (sym f.front_is) ∙ e

-- the item whose head was told
pub told_item : (bytes : List ℕ) (at left : ℕ) (h : Lengths) → BeginsInBytes (drop at bytes) → left ≡ length (drop at bytes) → head_at (drop at bytes) at left ≡ Ok h → Holds (drop at bytes) h
told_item bytes at left h are l e =
    let read : IsRead (drop at bytes) left h = head_read (drop at bytes) at left h are (omega arith) e in
    holds (drop at bytes) h (subst (λ (n : ℕ). IsRead (drop at bytes) n h) l read)

-- the head at a place
pub head_stands : (bytes : List ℕ) (at left : ℕ) (head : Head) → BeginsInBytes (drop at bytes) → left ≡ length (drop at bytes)
    → head_at (drop at bytes) at left ≡ Ok (record { head = head.head_len; value = head.value_len }) → IsHeadAt bytes at head
head_stands bytes at left head are l e =
    let found = told_item bytes at left (record { head = head.head_len; value = head.value_len }) are l e in
    record { item = found.item; stands = record { is_item = found.is_item; rest = found.behind; bytes_are = found.bytes_are }; head_len = found.head; value_len = found.value }

-- the item at a place
pub klv_stands : (bytes : List ℕ) (at left : ℕ) (klv : Klv) (h : Lengths) → BeginsInBytes (drop at bytes) → left ≡ length (drop at bytes) → head_at (drop at bytes) at left ≡ Ok h
    → klv.key ≡ take 16 (drop at bytes) → klv.value_at ≡ at + h.head → klv.value_len ≡ h.value → klv.end ≡ at + h.head + h.value → IsKlvAt bytes at klv
klv_stands bytes at left klv h are l e key value_at value_len end =
    let found = told_item bytes at left h are l e in
    let long = length-spelled found.item found.is_item.key in
    record {
      item = found.item;
      stands = record { is_item = found.is_item; rest = found.behind; bytes_are = found.bytes_are };
      key = key ∙ sym found.key;
      value_at = omega (arith, found.head);
      value_len = value_len ∙ found.value;
      end = omega (arith, found.head, found.value, long);
    }

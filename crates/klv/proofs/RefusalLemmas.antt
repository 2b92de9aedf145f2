-- Why bytes begin with no item.
use Rattle.std.proofs.Common.{◌≡◌, ◌⊎◌, inl, inr, ℕ, zero, suc, ◌+◌, ◌-◌, ◌<◌, ◌≤◌, ◌==◌, true, false, List, [], ◌∷◌, ◌++◌, length, get_or, take, drop, replicate, refl, sym, ap, subst, ◌∙◌, arith, append_assoc, append-nil, nat_lt, Err}
use Rattle.std.proofs.lemmas.Bool.{cases_lt, cases_eq, lt-ltb, le-ltb, ne_eqb, eq-eqb}
use Rattle.std.proofs.lemmas.List.{length-append, length-drop, length-replicate, take-append-drop, take-append-le, drop-append-le, get_or-take, get_or-drop, get_or_append_left, get_or-append_right, take_at, drop_at}
use Rattle.byteorder.specs.Endian.{big_number}
use Rattle.byteorder.specs.Numbers.{big_from-append}
use Rattle.klv.specs.Items.{Item, IsItem, spelled, length_bytes, length_limit}
use Rattle.klv.specs.Reads.{HasItemAt, HasNoForm, IsCutItem, Refuses}
use Rattle.klv.specs.inner.Heads.{Lengths, fitted, length_at, head_at}
use Rattle.klv.specs.laws.Lengths.{length-spelled}
use Rattle.klv.specs.declared.head.KlvFault.{KlvFault}
use Rattle.klv.specs.declared.head.KlvFault.TheVariants.{KeyShort, LengthForm, ValueShort}
use Rattle.klv.proofs.ItemLemmas.{first_is_one}
use Rattle.klv.proofs.ReadLemmas.{BeginsInBytes, IsRead, Holds, holds, short_form, long_form}

-- zeros are bytes
zero_small : (n k : ℕ) → get_or (replicate n 0) k 0 < 256
zero_small zero k = omega arith
zero_small (suc n) zero = omega arith
zero_small (suc n) (suc k) = zero_small n k

-- bytes with zeros behind them are bytes
padded_bytes : (xs : List ℕ) (n : ℕ) → BeginsInBytes xs → BeginsInBytes (xs ++ replicate n 0)
padded_bytes xs n are k small = elim (cases_lt k (length xs)) [
  | inl lt ↦ rw (get_or_append_left xs (replicate n 0) 0 k lt) (are k small)
  | inr ge ↦ rw (get_or-append_right xs (replicate n 0) (length xs) k 0 refl ge) (zero_small n (k - length xs))
]

-- bytes that more bytes make an item longer than they are end inside it
cut_by : (xs more : List ℕ) (h : Lengths) → IsRead (xs ++ more) (length (xs ++ more)) h → 16 ≤ length xs → length xs < h.head + h.value → IsCutItem xs
cut_by xs more h read key cut =
    let found : Holds (xs ++ more) h = holds (xs ++ more) h read in
    let head_is = found.head in
    let value_is = found.value in
    let long = length-spelled found.item found.is_item.key in
    let part : xs ≡ take (length xs) (spelled found.item) =
    sym (take_at xs more (length xs) refl) ∙ ap (λ (ys : List ℕ). take (length xs) ys) found.bytes_are ∙ take-append-le (length xs) (spelled found.item) found.behind (omega (arith, head_is, value_is, long)) in
    record { item = found.item; is_item = found.is_item; key = key; cut = omega (arith, head_is, value_is, long); bytes_are = part }

-- a key alone
cut_behind_key : (xs : List ℕ) → length xs ≡ 16 → IsCutItem xs
cut_behind_key xs l =
    let zs : List ℕ = xs ++ 0 ∷ [] in
    let long : length zs ≡ 17 = omega (arith, length-append xs (0 ∷ []), l) in
    let first : get_or zs 16 0 ≡ 0 = get_or-append_right xs (0 ∷ []) 16 16 0 l (omega arith) in
    let h : Lengths = record { head = 17; value = 0 } in
    cut_by xs (0 ∷ []) h (short_form zs (length zs) h (omega arith) (omega (arith, long)) (omega (arith, first)) refl (sym first) (omega (arith, long))) (omega (arith, l)) (omega (arith, l))

-- a value that passes the end, its length in one byte
cut_short : (xs : List ℕ) → 17 ≤ length xs → get_or xs 16 0 < 128 → length xs < 17 + get_or xs 16 0 → IsCutItem xs
cut_short xs there small cut =
    let n : ℕ = get_or xs 16 0 in
    let zs : List ℕ = xs ++ replicate n 0 in
    let long : length zs ≡ length xs + n = omega (arith, length-append xs (replicate n 0), length-replicate {A = ℕ} n 0) in
    let first : get_or zs 16 0 ≡ n = get_or_append_left xs (replicate n 0) 0 16 (omega arith) in
    let h : Lengths = record { head = 17; value = n } in
    cut_by xs (replicate n 0) h (short_form zs (length zs) h (omega arith) (omega (arith, long)) (omega (arith, first)) refl (sym first) (omega (arith, long))) (omega arith) (omega arith)

-- with as many zeros as a longer length says, bytes are an item
made_long : (xs : List ℕ) (more : ℕ) → BeginsInBytes xs → 17 + suc more ≤ length xs → suc more ≤ 8 → get_or xs 16 0 ≡ 128 + suc more
    → let n : ℕ = big_number (suc more) (drop 17 xs) in IsRead (xs ++ replicate n 0) (length (xs ++ replicate n 0)) (record { head = 17 + suc more; value = n })
made_long xs more are there most byte =
    let n : ℕ = big_number (suc more) (drop 17 xs) in
    let zs : List ℕ = xs ++ replicate n 0 in
    let long : length zs ≡ length xs + n = omega (arith, length-append xs (replicate n 0), length-replicate {A = ℕ} n 0) in
    let first : get_or zs 16 0 ≡ 128 + suc more = get_or_append_left xs (replicate n 0) 0 16 (omega arith) ∙ byte in
    let number : n ≡ big_number (suc more) (drop 17 zs) =
    sym (ap (big_number (suc more)) (drop-append-le 17 xs (replicate n 0) (omega arith)) ∙ big_from-append (suc more) (drop 17 xs) (replicate n 0) (omega (arith, length-drop 17 xs))) in
    let h : Lengths = record { head = 17 + suc more; value = n } in
    long_form zs (length zs) more n h (padded_bytes xs n are) (omega arith) (omega (arith, long)) most first refl number (omega (arith, long))

-- a value that passes the end, its length in more bytes
cut_value : (xs : List ℕ) (more : ℕ) → BeginsInBytes xs → 17 + suc more ≤ length xs → suc more ≤ 8 → get_or xs 16 0 ≡ 128 + suc more
    → length xs < 17 + suc more + big_number (suc more) (drop 17 xs) → IsCutItem xs
cut_value xs more are there most byte cut =
    let n : ℕ = big_number (suc more) (drop 17 xs) in
    cut_by xs (replicate n 0) (record { head = 17 + suc more; value = n }) (made_long xs more are there most byte) (omega arith) cut

-- a length that passes the end
cut_length : (xs : List ℕ) (more : ℕ) → BeginsInBytes xs → 17 ≤ length xs → length xs < 17 + suc more → suc more ≤ 8 → get_or xs 16 0 ≡ 128 + suc more → IsCutItem xs
cut_length xs more are there cut most byte =
    let ys : List ℕ = xs ++ replicate 8 0 in
    let long : length ys ≡ length xs + 8 = omega (arith, length-append xs (replicate 8 0), length-replicate {A = ℕ} 8 0) in
    let first : get_or ys 16 0 ≡ 128 + suc more = get_or_append_left xs (replicate 8 0) 0 16 (omega arith) ∙ byte in
    let n : ℕ = big_number (suc more) (drop 17 ys) in
    let h : Lengths = record { head = 17 + suc more; value = n } in
    let made = made_long ys more (padded_bytes xs 8 are) (omega (arith, long)) most first in
    cut_by xs (replicate 8 0 ++ replicate n 0) h (subst (λ (zs : List ℕ). IsRead zs (length zs) h) (append_assoc xs (replicate 8 0) (replicate n 0)) made) (omega arith) (omega arith)

-- a value that doesn't fit
fitted_err : (head value at left : ℕ) (fault : KlvFault) → fitted head value at left ≡ Err fault → (ValueShort at ≡ fault) × (left - head < value)
fitted_err head value at left fault e = elim (cases_lt (left - head) value) [
  | inl lt ↦
      let t : nat_lt (left - head) value ≡ true = lt-ltb (left - head) value lt in
      let same = rw t at e in
      (cc, lt)
  | inr ge ↦
      let t : nat_lt (left - head) value ≡ false = le-ltb (left - head) value ge in
      let bad = rw t at e in
      absurd (cc)
]

-- why no item stands at a place whose length is read
length_refused : (bytes : List ℕ) (at left : ℕ) (fault : KlvFault) → BeginsInBytes (drop at bytes) → left ≡ length (drop at bytes) → 17 ≤ left
    → length_at (drop at bytes) at left (get_or (drop at bytes) 16 0) ≡ Err fault → Refuses bytes at fault
unfolding length_at
length_refused bytes at left fault are l room e =
    let xs : List ℕ = drop at bytes in
    let first : ℕ = get_or xs 16 0 in
    let value : ValueShort at ≡ fault → IsCutItem xs → Refuses bytes at fault = λ is cut. subst (λ (f : KlvFault). Refuses bytes at f) is (refl, cut) in
    let form : LengthForm at ≡ fault → (first ≡ 128) ⊎ (136 < first) → Refuses bytes at fault =
    λ is none. subst (λ (f : KlvFault). Refuses bytes at f) is (refl, record { there = omega arith; none = none }) in
    elim (cases_lt first 128) [
      | inl low ↦
          let t : nat_lt first 128 ≡ true = lt-ltb first 128 low in
          let f = fitted_err 17 first at left fault (rw t at e) in
          value f.0 (cut_short xs (omega arith) low (omega (arith, f.1)))
      | inr high ↦
          let t : nat_lt first 128 ≡ false = le-ltb first 128 high in
          let e1 = rw t at e in
          elim (cases_eq first 128) [
            | inl none ↦ let z : (first == 128) ≡ true = eq-eqb first 128 none in let same = rw z at e1 in form (cc) (inl none)
            | inr some ↦
                let z : (first == 128) ≡ false = ne_eqb first 128 some in
                let e2 = rw z at e1 in
                elim (cases_lt 136 first) [
                  | inl wide ↦ let w : nat_lt 136 first ≡ true = lt-ltb 136 first wide in let same = rw w at e2 in form (cc) (inr wide)
                  | inr fits ↦
                      let w : nat_lt 136 first ≡ false = le-ltb 136 first fits in
                      let e3 = rw w at e2 in
                      let more : ℕ = first - 129 in
                      let n : first - 128 ≡ suc more = omega arith in
                      let byte : first ≡ 128 + suc more = omega arith in
                      elim (cases_lt left (17 + (first - 128))) [
                        | inl cut ↦
                            let k : nat_lt left (17 + (first - 128)) ≡ true = lt-ltb left (17 + (first - 128)) cut in
                            let same = rw k at e3 in
                            value (cc) (cut_length xs more are (omega arith) (omega arith) (omega arith) byte)
                        | inr whole ↦
                            let k : nat_lt left (17 + (first - 128)) ≡ false = le-ltb left (17 + (first - 128)) whole in
                            let f = fitted_err (17 + (first - 128)) (big_number (first - 128) (drop 17 xs)) at left fault (rw k at e3) in
                            let number : big_number (first - 128) (drop 17 xs) ≡ big_number (suc more) (drop 17 xs) = ap (λ (m : ℕ). big_number m (drop 17 xs)) n in
                            value f.0 (cut_value xs more are (omega arith) (omega arith) byte (omega (arith, f.1, number)))
                      ]
                ]
          ]
    ]

-- why no item stands at a place
pub head_refused : (bytes : List ℕ) (at left : ℕ) (fault : KlvFault) → BeginsInBytes (drop at bytes) → left ≡ length (drop at bytes) → head_at (drop at bytes) at left ≡ Err fault → Refuses bytes at fault
unfolding head_at
head_refused bytes at left fault are l e = elim (cases_lt left 16) [
  | inl lt ↦
      let t : nat_lt left 16 ≡ true = lt-ltb left 16 lt in
      let same = rw t at e in
      let is : KeyShort at ≡ fault = cc in
      subst (λ (f : KlvFault). Refuses bytes at f) is (refl, omega arith)
  | inr ge ↦
      let t : nat_lt left 16 ≡ false = le-ltb left 16 ge in
      let e1 = rw t at e in
      elim (cases_eq left 16) [
        | inl none ↦
            let z : (left == 16) ≡ true = eq-eqb left 16 none in
            let same = rw z at e1 in
            let is : ValueShort at ≡ fault = cc in
            subst (λ (f : KlvFault). Refuses bytes at f) is (refl, cut_behind_key (drop at bytes) (omega arith))
        | inr some ↦
            let z : (left == 16) ≡ false = ne_eqb left 16 some in
            length_refused bytes at left fault are l (omega arith) (rw z at e1)
      ]
]

-- the first byte of a length
first_byte : (form n : ℕ) (tail : List ℕ) → n < length_limit form → form ≤ 8 → get_or (length_bytes form n ++ tail) 0 0 ≡ 128 → ⊥
unfolding length_bytes length_limit
first_byte zero n tail small most e = absurd (omega arith)
first_byte (suc more) n tail small most e = absurd (omega arith)

-- begins one of the nine forms
first_most : (form n : ℕ) (tail : List ℕ) → n < length_limit form → form ≤ 8 → get_or (length_bytes form n ++ tail) 0 0 ≤ 136
unfolding length_bytes length_limit
first_most zero n tail small most = omega arith
first_most (suc more) n tail small most = omega arith

-- an item's byte behind the key
form_there : (item : Item) (xs behind : List ℕ) → IsItem item → get_or xs 16 0 ≡ get_or (spelled item ++ behind) 16 0 → HasNoForm xs → ⊥
form_there item xs behind is same none =
    let n : ℕ = length item.value in
    let parts : spelled item ++ behind ≡ item.key ++ (length_bytes item.form n ++ (item.value ++ behind)) = simp append_assoc in
    let after : drop 16 (spelled item ++ behind) ≡ length_bytes item.form n ++ (item.value ++ behind) = ap (drop 16) parts ∙ drop_at item.key (length_bytes item.form n ++ (item.value ++ behind)) 16 is.key in
    let byte : get_or xs 16 0 ≡ get_or (length_bytes item.form n ++ (item.value ++ behind)) 0 0 =
    same ∙ sym (get_or-drop 16 (spelled item ++ behind) 0 0) ∙ ap (λ (ys : List ℕ). get_or ys 0 0) after in
    elim none.none [
      | inl e ↦ first_byte item.form n (item.value ++ behind) is.fits is.form (sym byte ∙ e)
      | inr e ↦ let most = first_most item.form n (item.value ++ behind) is.fits is.form in absurd (omega (arith, byte))
    ]

-- bytes that end inside an item begin with none
cut_has_none : (xs behind : List ℕ) (item : Item) → IsItem item → xs ≡ spelled item ++ behind → IsCutItem xs → ⊥
cut_has_none xs behind item is e c =
    let past : List ℕ = drop (length xs) (spelled c.item) in
    let whole : spelled c.item ++ [] ≡ spelled item ++ (behind ++ past) =
    append-nil (spelled c.item) ∙ sym (take-append-drop (length xs) (spelled c.item)) ∙ ap (λ (ys : List ℕ). ys ++ past) (sym c.bytes_are ∙ e) ∙ append_assoc (spelled item) behind past in
    let one = first_is_one c.item item [] (behind ++ past) c.is_item is whole in
    let cut = c.cut in
    omega (arith, ap length one.1, length-append behind past, length-drop (length xs) (spelled c.item))

-- where a refusal stands no item does
pub refused_none : (bytes : List ℕ) (at : ℕ) (fault : KlvFault) → Refuses bytes at fault → HasItemAt bytes at → ⊥
refused_none bytes at (KeyShort place) r h =
    let long = length-spelled h.0 h.1.is_item.key in
    let short = r.1 in
    omega (arith, ap length h.1.bytes_are, length-append (spelled h.0) h.1.rest, long)
refused_none bytes at (LengthForm place) r h = form_there h.0 (drop at bytes) h.1.rest h.1.is_item (ap (λ (xs : List ℕ). get_or xs 16 0) h.1.bytes_are) r.1
refused_none bytes at (ValueShort place) r h = cut_has_none (drop at bytes) h.1.rest h.0 h.1.is_item h.1.bytes_are r.1

-- a byte that begins no length, and a part of an item
form_not_cut : (xs : List ℕ) → HasNoForm xs → IsCutItem xs → ⊥
form_not_cut xs none c =
    let byte : get_or xs 16 0 ≡ get_or (spelled c.item) 16 0 = ap (λ (ys : List ℕ). get_or ys 16 0) c.bytes_are ∙ get_or-take (length xs) (spelled c.item) 16 0 none.there in
    form_there c.item xs [] c.is_item (byte ∙ ap (λ (ys : List ℕ). get_or ys 16 0) (sym (append-nil (spelled c.item)))) none

-- one refusal stands at a place at most
pub refusal_is_one : (bytes : List ℕ) (at : ℕ) (a b : KlvFault) → Refuses bytes at a → Refuses bytes at b → a ≡ b
refusal_is_one bytes at (KeyShort x) (KeyShort y) p q = ap KeyShort (p.0 ∙ sym q.0)
refusal_is_one bytes at (KeyShort x) (LengthForm y) p q = let short = p.1 in let there = q.1.there in absurd (omega arith)
refusal_is_one bytes at (KeyShort x) (ValueShort y) p q = let short = p.1 in let key = q.1.key in absurd (omega arith)
refusal_is_one bytes at (LengthForm x) (KeyShort y) p q = let there = p.1.there in let short = q.1 in absurd (omega arith)
refusal_is_one bytes at (LengthForm x) (LengthForm y) p q = ap LengthForm (p.0 ∙ sym q.0)
refusal_is_one bytes at (LengthForm x) (ValueShort y) p q = absurd (form_not_cut (drop at bytes) p.1 q.1)
refusal_is_one bytes at (ValueShort x) (KeyShort y) p q = let key = p.1.key in let short = q.1 in absurd (omega arith)
refusal_is_one bytes at (ValueShort x) (LengthForm y) p q = absurd (form_not_cut (drop at bytes) q.1 p.1)
refusal_is_one bytes at (ValueShort x) (ValueShort y) p q = ap ValueShort (p.0 ∙ sym q.0)

-- What is read of an item of which something is kept.
use Rattle.std.proofs.Common.{◌≡◌, ℕ, ◌+◌, ◌-◌, List, [], length, take, drop, refl, sym, ap, ap₂, ◌∙◌, arith, append-nil}
use Rattle.std.proofs.lemmas.List.{take_at}
use Rattle.klv.specs.Items.{spelled}
use Rattle.klv.specs.Reads.{IsItemAt}
use Rattle.klv.specs.laws.Lengths.{length-spelled}
use Rattle.mxf_op1a.specs.Contents.{Placed}
use Rattle.mxf_reader.specs.declared.mark.Mark.{Mark}
use Rattle.mxf_reader.specs.inner.Items.{IsMarkOf}
use Rattle.mxf_reader.proofs.StandLemmas.{value_stands}

-- its place, and where its value is
pub at_is : (bytes : List ℕ) (m : Mark) (p : Placed) → IsMarkOf bytes m p → m.at ≡ p.at
at_is bytes m p h = ap (λ (x : Mark). x.at) h.is

pub value_at_is : (bytes : List ℕ) (m : Mark) (p : Placed) → IsMarkOf bytes m p → m.value_at ≡ p.at + (17 + p.item.form)
value_at_is bytes m p h = ap (λ (x : Mark). x.value_at) h.is

pub value_len_is : (bytes : List ℕ) (m : Mark) (p : Placed) → IsMarkOf bytes m p → m.value_len ≡ length p.item.value
value_len_is bytes m p h = ap (λ (x : Mark). x.value_len) h.is

-- its length
pub size_is : (bytes : List ℕ) (m : Mark) (p : Placed) → IsMarkOf bytes m p → length (spelled p.item) ≡ m.value_at - m.at + m.value_len
size_is bytes m p h =
    omega (arith, at_is bytes m p h, value_at_is bytes m p h, value_len_is bytes m p h, length-spelled p.item h.stands.is_item.key)

-- its value, between the value's two places
pub value_read : (bytes value : List ℕ) (m : Mark) (p : Placed) → IsMarkOf bytes m p
    → value ≡ take (m.value_at + m.value_len - m.value_at) (drop m.value_at bytes) → value ≡ p.item.value
value_read bytes value m p h e =
    let count : m.value_at + m.value_len - m.value_at ≡ length p.item.value = omega (arith, value_len_is bytes m p h) in
    e
    ∙ ap₂ (λ (n at : ℕ). take n (drop at bytes)) count (value_at_is bytes m p h)
    ∙ ap (take (length p.item.value)) (value_stands bytes p.at p.item h.stands)
    ∙ take_at p.item.value h.stands.rest (length p.item.value) refl

-- all of it
pub item_read : (bytes read : List ℕ) (m : Mark) (p : Placed) → IsMarkOf bytes m p → read ≡ take (m.value_at + m.value_len - m.at) (drop m.at bytes)
    → IsItemAt read 0 p.item
item_read bytes read m p h e =
    let count : m.value_at + m.value_len - m.at ≡ length (spelled p.item) =
    omega (arith, at_is bytes m p h, value_at_is bytes m p h, value_len_is bytes m p h, length-spelled p.item h.stands.is_item.key) in
    let whole : read ≡ spelled p.item =
    e
    ∙ ap₂ (λ (n at : ℕ). take n (drop at bytes)) count (at_is bytes m p h)
    ∙ ap (take (length (spelled p.item))) h.stands.bytes_are
    ∙ take_at (spelled p.item) h.stands.rest (length (spelled p.item)) refl in
    record { is_item = h.stands.is_item; rest = []; bytes_are = whole ∙ sym (append-nil (spelled p.item)) }

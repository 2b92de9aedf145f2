-- What the writes of a head leave.
use Rattle.std.proofs.Common.{◌≡◌, ℕ, ◌+◌, ◌-◌, ◌≤◌, List, ◌++◌, length, take, drop, refl, ap, ◌∙◌, arith}
use Rattle.std.proofs.lemmas.List.{take_rest}
use Rattle.rec_bytes.specs.Places.{with_bytes}
use Rattle.rec_bytes.specs.laws.Places.{with_bytes-part}
use Rattle.byteorder.specs.Endian.{big_bytes}
use Rattle.klv.specs.Items.{length_bytes}
use Rattle.klv.specs.Head.{form_of}
use Rattle.klv.specs.declared.head.Form.{Form}
use Rattle.klv.specs.declared.head.Form.TheVariants.{Three, Seven}
use borrow.Rule.Slice.PartMut.{put_mid}

-- bytes at the front of the part from a place on are bytes at that place
pub put_part : (old : List ℕ) (at n : ℕ) (part bytes : List ℕ) → at ≤ length old → length bytes ≡ n → part ≡ bytes ++ drop n (take (length old - at) (drop at old))
    → put_mid at (length old - at) old part ≡ with_bytes old at bytes
put_part old at n part bytes h long e =
    let behind : n ≡ 0 + length bytes = omega (arith, long) in
    let rest : part ≡ with_bytes (drop at old) 0 bytes = e ∙ ap (λ (xs : List ℕ). bytes ++ drop n xs) (take_rest old at) ∙ ap (λ (k : ℕ). bytes ++ drop k (drop at old)) behind in
    with_bytes-part old at part bytes h rest

-- a length that is written is its first byte and then its number
pub length_is : (form : Form) (len : ℕ) → big_bytes 1 (128 + form_of form) ++ big_bytes (form_of form) len ≡ length_bytes (form_of form) len
unfolding length_bytes
length_is Three len = refl
length_is Seven len = refl

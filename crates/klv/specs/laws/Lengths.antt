-- Laws of the lengths of heads and items: proved here, for proofs to cite.
use Rattle.std.proofs.Common.{◌≡◌, ℕ, zero, suc, ◌+◌, List, length, length-append, refl, arith}
use Rattle.byteorder.specs.Numbers.{length-bytes_high_first}
use Rattle.klv.specs.Items.{Item, klv_head, length_bytes, spelled}

-- a length has one byte more than its form
pub length-length_bytes : (form len : ℕ) → length (length_bytes form len) ≡ 1 + form
unfolding length_bytes
length-length_bytes zero len = refl
length-length_bytes (suc more) len = omega (arith, length-bytes_high_first (suc more) len)

-- what stands before a value has 17 bytes and those that its form counts
pub length-klv_head : (key : List ℕ) (form len : ℕ) → length key ≡ 16 → length (klv_head key form len) ≡ 17 + form
length-klv_head key form len long = omega (arith, length-append key (length_bytes form len), length-length_bytes form len, long)

-- an item has those and the bytes of its value
pub length-spelled : (item : Item) → length item.key ≡ 16 → length (spelled item) ≡ 17 + item.form + length item.value
length-spelled item long =
    let len : ℕ = length item.value in
    omega (arith, length-append (klv_head item.key item.form len) item.value, length-klv_head item.key item.form len long)

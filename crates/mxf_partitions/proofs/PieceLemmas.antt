-- What is read of a random index pack in pieces.
use Rattle.std.proofs.Common.{◌≡◌, inl, inr, ℕ, ◌+◌, ◌-◌, ◌*◌, ◌/◌, ◌<◌, ◌≤◌, ◌==◌, ◌&&◌, Bool, false, List, length, take, drop, refl, ap, ap₂, ◌∙◌, arith}
use Rattle.std.proofs.lemmas.Bool.{cases_eq, ne_eqb}
use Rattle.std.proofs.lemmas.List.{drop-drop, drop-take}
use Rattle.std.specs.Str.{bytes_eq}
use Rattle.byteorder.specs.Endian.{big_number}
use Rattle.byteorder.specs.Numbers.{big_from-take}
use Rattle.klv.specs.Items.{Item, spelled}
use Rattle.mxf_names.specs.declared.keys.TheConstants.{RANDOM_INDEX_KEY}
use Rattle.mxf_partitions.specs.Reads.{entry_at, has_index_size}
use Rattle.mxf_partitions.specs.Refusals.{IsIndexEnd}
use Rattle.mxf_partitions.specs.inner.Fronts.{holds_count, holds_entries}

-- the test of a value by its length and its last word
size_told : (value : List ℕ) (size : ℕ)
    → has_index_size value size ≡ (length value == 12 * ((length value - 4) / 12) + 4 && big_number 4 (drop (length value - 4) value) == size)
unfolding has_index_size
size_told value size = elim (cases_eq (length value) (12 * ((length value - 4) / 12) + 4)) [
  | inl same ↦
      let end : 12 * ((length value - 4) / 12) ≡ length value - 4 = omega arith in
      ap (λ (n : ℕ). length value == 12 * ((length value - 4) / 12) + 4 && big_number 4 (drop n value) == size) end
  | inr other ↦
      let t : (length value == 12 * ((length value - 4) / 12) + 4) ≡ false = ne_eqb (length value) (12 * ((length value - 4) / 12) + 4) other in
      rw t refl
]

-- and of an item
pub end_told : (item : Item) (key : List ℕ) (value_len size last : ℕ) → IsIndexEnd item key value_len size last
    → holds_entries item.key item.value (length (spelled item)) ≡ holds_count key value_len size last
end_told item key value_len size last e =
    ap (λ (n : ℕ). holds_entries item.key item.value n) e.size_is
    ∙ ap₂ (λ (xs : List ℕ) (test : Bool). bytes_eq xs RANDOM_INDEX_KEY && test) e.key_is (size_told item.value size)
    ∙ ap₂ (λ (n word : ℕ). bytes_eq key RANDOM_INDEX_KEY && (n == 12 * ((n - 4) / 12) + 4 && word == size)) e.value_len_is e.last_is

-- a number in a piece
piece_number : (m from at count : ℕ) (xs : List ℕ) → at + m ≤ count → big_number m (drop at (take count (drop from xs))) ≡ big_number m (drop (from + at) xs)
piece_number m from at count xs room =
    let whole : count ≡ at + (count - at) = omega arith in
    ap (λ (n : ℕ). big_number m (drop at (take n (drop from xs)))) whole
    ∙ ap (big_number m) (drop-take at (count - at) (drop from xs))
    ∙ big_from-take 0 m (count - at) (drop at (drop from xs)) (omega arith)
    ∙ ap (big_number m) (drop-drop at from xs)

-- an entry in a piece
pub piece_entry : (value : List ℕ) (from count k : ℕ) → k < count → entry_at (take (12 * count) (drop (12 * from) value)) k ≡ entry_at value (from + k)
piece_entry value from count k below =
    let sid : 12 * from + 12 * k ≡ 12 * (from + k) = omega arith in
    let place : 12 * from + (12 * k + 4) ≡ 12 * (from + k) + 4 = omega arith in
    let first = piece_number 4 (12 * from) (12 * k) (12 * count) value (omega arith) ∙ ap (λ (n : ℕ). big_number 4 (drop n value)) sid in
    let second = piece_number 8 (12 * from) (12 * k + 4) (12 * count) value (omega arith) ∙ ap (λ (n : ℕ). big_number 8 (drop n value)) place in
    λ i. record { body_sid = first i; at = second i }
